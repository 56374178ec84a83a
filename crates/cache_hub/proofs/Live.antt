-- Guests that began through a pass: a Begin makes one, and it stays live up to its End.
use Rattle.std.proofs.Common.{◌≡◌, ℕ, ◌+◌, ◌<◌, Bool, true, false, ◌==◌, cond, ◌&&◌, ◌||◌, not, List, [], ◌∷◌, ◌++◌, length, Contains, IsTrue, IfOk, Option, None, Some, Result, Ok, Err, if◌then◌else◌, refl, sym, ap, ◌∙◌, subst, arith}
use Rattle.std.specs.List.{list_any, AllByRecursion}
use Rattle.std.specs.Cmp.Derive.{both_true}
use Rattle.std.proofs.lemmas.Bool.{and_parts}
use Rattle.std.proofs.lemmas.Bool.Decides.{nat_tests}
use Rattle.std.proofs.lemmas.List.Elements.{recursion_from_All, Contains-append_left}
use Rattle.std.proofs.lemmas.List.{length-reverse, map_push, reverse-append}
use Rattle.turnstile.specs.Log.{entries_of}
use Rattle.turnstile.specs.Pass.{PassView, after_turn, mine_after}
use Rattle.turnstile.proofs.Passes.{gained_is_mine}
use Rattle.cache_types.specs.declared.calls.CacheCall.{CacheCall}
use Rattle.cache_types.specs.declared.calls.CacheCall.TheVariants.{Begin}
use Rattle.cache_types.specs.declared.entries.Entry.{Entry}
use Rattle.cache_types.specs.declared.entries.Stepped.{Stepped}
use Rattle.cache_types.specs.Entries.{begun, begun_by, is_end, is_not_yet, has_ended, is_live, newest_first}
use Rattle.cache_types.specs.Step.{entry_after}
use Rattle.cache_hub.specs.Calls.{own_of, gained_by, IsOpener, HasGuest, HasWhole, KeepsGuests, MakesGuest, Tried}
use Rattle.cache_hub.specs.declared.faults.CallFault.{CallFault}
use Rattle.cache_hub.specs.declared.faults.CallFault.TheVariants as call_fault
use Rattle.cache_hub.specs.declared.faults.UntilFault.{UntilFault}
use Rattle.cache_hub.specs.Hub.{Called}
use Rattle.cache_hub.specs.Until.{Waited, settled_of}
use Rattle.std.proofs.lemmas.Option.{none-some}
use Rattle.turnstile.proofs.Lists.{same_some}
use Rattle.cache_hub.proofs.Guests.{guests_older, or_begun, own_reverse}

-- older entries are none of its own
none_own : (g : ℕ) (xs : List Entry) → AllByRecursion (λ (e : Entry). e.guest < g) xs → own_of g xs ≡ []
none_own g [] older = refl
none_own g (x ∷ xs) older = by (x.guest == g) refl (none_own g xs older.1)
  where
    by : (b : Bool) → (x.guest == g) ≡ b → own_of g xs ≡ [] → cond b (x ∷ own_of g xs) (own_of g xs) ≡ []
    by true is rest = let e : x.guest ≡ g = grind (arith, nat_tests) in let p = older.0 in absurd (omega arith)
    by false is rest = rest

-- the own entries, newest first, after one more entry
own_newest : (g : ℕ) (xs : List Entry) (e : Entry) → newest_first (own_of g (xs ++ e ∷ [])) ≡ cond (e.guest == g) (e ∷ newest_first (own_of g xs)) (newest_first (own_of g xs))
own_newest g xs e =
    own_reverse g (xs ++ e ∷ []) ∙ (ap (own_of g) (reverse-append xs (e ∷ [])) ∙ ap (λ (l : List Entry). cond (e.guest == g) (e ∷ l) l) (sym (own_reverse g xs)))

-- a guest whose first entry is its Begin is live
first_live : (g : ℕ) (e : Entry) → e.call ≡ Begin → e.number ≡ g → is_live (e ∷ []) g ≡ true
first_live g e call number =
    let same : (e.number == g) ≡ true = grind (arith, nat_tests) in
    ap (λ (c : CacheCall). list_any (λ b. b == g) (begun (record e { call = c } ∷ [])) && not (has_ended (record e { call = c } ∷ []) g)) call ∙ ap (λ (b : Bool). (b || false) && true) same

-- one more entry that is no End of the guest leaves it live
still_live : (g : ℕ) (e : Entry) (past : List Entry) → (is_end e.call && (e.guest == g)) ≡ false → is_live past g ≡ true → is_live (e ∷ past) g ≡ true
still_live g e past no_end live =
    let parts = and_parts (list_any (λ b. b == g) (begun past)) (not (has_ended past g)) live in
    both_true (or_begun g (begun_by e) (begun past) parts.0) (ap (λ (b : Bool). not (b || has_ended past g)) no_end ∙ parts.1)

-- an entry is no End of the guest where its call is none
no_end_of : (list : List Entry) (guest reading : ℕ) (call : CacheCall) (g : ℕ) → (is_end call && (guest == g)) ≡ false → (is_end (entry_after (newest_first list) guest reading call).call && ((entry_after (newest_first list) guest reading call).guest == g)) ≡ false
no_end_of list guest reading Begin g h = refl
no_end_of list guest reading call g h = h

module _ {T : Type 0} where
  -- a Begin that was answered makes a guest of the pass
  pub guest_begins : (most : ℕ) (before after : PassView T Entry) (guest reading : ℕ) (told : Stepped) → Tried most before guest reading Begin (Ok told) after → HasWhole after → HasGuest after told.number
  guest_begins most before after guest reading told tried whole =
      let past = newest_first tried.list in
      let e = entry_after past guest reading Begin in
      let g = 1 + length tried.list in
      let at : after ≡ after_turn before g tried.list (Some e) = tried.result ∙ ap (λ (x : Option Entry). after_turn before g tried.list x) tried.gives.entry in
      let l = length-reverse tried.list in
      let number : told.number ≡ e.number = ap (λ (s : Stepped). s.number) tried.gives.reply in
      let is_g : e.number ≡ g = omega arith in
      let opens : IsOpener after.mine g = (e, gained_is_mine before after g tried.list e at, is_g) in
      let seen : after.seen ≡ tried.list ++ e ∷ [] = ap (λ (p : PassView T Entry). p.seen) at in
      let none : own_of g tried.list ≡ [] = none_own g tried.list (recursion_from_All (λ (x : Entry). x.guest < g) tried.list (guests_older tried.list tried.legal)) in
      let mine : own_of g (entries_of after.mine) ≡ own_of g (tried.list ++ e ∷ []) = whole g opens ∙ ap (own_of g) seen in
      let same : (e.guest == g) ≡ true = grind (arith, nat_tests) in
      let own : newest_first (own_of g (entries_of after.mine)) ≡ e ∷ [] =
      ap newest_first mine ∙ (own_newest g tried.list e ∙ (ap (λ (b : Bool). cond b (e ∷ newest_first (own_of g tried.list)) (newest_first (own_of g tried.list))) same ∙ ap (λ (l : List Entry). e ∷ newest_first l) none)) in
      subst (HasGuest after) (sym (number ∙ is_g)) (record { opener = opens; live = ap (λ (l : List Entry). is_live l g) own ∙ first_live g e refl is_g })

  -- a guest of the pass stays one when the pass gains an entry that isn't its End
  stays_after : (before : PassView T Entry) (mine : List (ℕ × Entry)) (x : ℕ × Entry) (seen : List Entry) (idle g : ℕ) → mine ≡ before.mine ++ x ∷ [] → (is_end x.1.call && (x.1.guest == g)) ≡ false → HasGuest before g
      → HasGuest (record before { seen = seen; mine = mine; idle = idle }) g
  stays_after before mine x seen idle g is no_end has =
      let past = newest_first (own_of g (entries_of before.mine)) in
      let opener = has.opener in
      let entries : entries_of mine ≡ entries_of before.mine ++ x.1 ∷ [] = ap entries_of is ∙ map_push (λ (y : ℕ × Entry). y.1) before.mine x in
      let own : newest_first (own_of g (entries_of mine)) ≡ cond (x.1.guest == g) (x.1 ∷ past) past = ap (λ (l : List Entry). newest_first (own_of g l)) entries ∙ own_newest g (entries_of before.mine) x.1 in
      record {
        opener = (opener.0, subst (λ (l : List (ℕ × Entry)). Contains l (g, opener.0)) (sym is) (Contains-append_left before.mine (x ∷ []) (g, opener.0) opener.1), opener.2);
        live = ap (λ (l : List Entry). is_live l g) own ∙ by (x.1.guest == g) past has.live (still_live g x.1 past no_end has.live);
      }
    where
      by : (b : Bool) (past : List Entry) → is_live past g ≡ true → is_live (x.1 ∷ past) g ≡ true → is_live (cond b (x.1 ∷ past) past) g ≡ true
      by true past old new = new
      by false past old new = old

  -- a guest of the pass stays one after a call that isn't its End
  pub guest_stays : (most : ℕ) (before after : PassView T Entry) (guest reading : ℕ) (call : CacheCall) (told : Stepped) (g : ℕ) → Tried most before guest reading call (Ok told) after → (is_end call && (guest == g)) ≡ false → HasGuest before g → HasGuest after g
  guest_stays most before after guest reading call told g tried no_end has =
      let e = entry_after (newest_first tried.list) guest reading call in
      let at : after ≡ after_turn before (1 + length tried.list) tried.list (gained_by e) = tried.result ∙ ap (λ (x : Option Entry). after_turn before (1 + length tried.list) tried.list x) tried.gives.entry in
      subst (λ (p : PassView T Entry). HasGuest p g) (sym at) (by (is_not_yet e.reply) e (no_end_of tried.list guest reading call g no_end))
    where
      by : (b : Bool) (e : Entry) → (is_end e.call && (e.guest == g)) ≡ false → HasGuest (after_turn before (1 + length tried.list) tried.list (if b then None else Some e)) g
      by true e other = record { opener = has.opener; live = has.live }
      by false e other = stays_after before (before.mine ++ (1 + length tried.list, e) ∷ []) (1 + length tried.list, e) (tried.list ++ e ∷ []) before.idle g refl other has

  -- the entries that were made through the pass are what counts
  pub same_guest : (before after : PassView T Entry) (g : ℕ) → after.mine ≡ before.mine → HasGuest before g → HasGuest after g
  same_guest before after g is has =
      record {
        opener = subst (λ (l : List (ℕ × Entry)). IsOpener l g) (sym is) has.opener;
        live = subst (λ (l : List (ℕ × Entry)). IsTrue (is_live (newest_first (own_of g (entries_of l))) g)) (sym is) has.live;
      }

  nothing_gained : (before after : PassView T Entry) (number : ℕ) (list : List Entry) (gained : Option Entry) → after ≡ after_turn before number list gained → gained ≡ None → after.mine ≡ before.mine
  nothing_gained before after number list gained is none = ap (λ (p : PassView T Entry). p.mine) is ∙ ap (λ (x : Option Entry). mine_after before.mine number x) none

  -- what one try does to the guests of a pass
  pub keeps : (most : ℕ) (before after : PassView T Entry) (guest reading : ℕ) (call : CacheCall) (answer : Result Stepped CallFault) → Called most before guest reading call answer after → KeepsGuests before guest call after
  keeps most before after guest reading call (Ok told) called = λ g has no_end. guest_stays most before after guest reading call told g called no_end has
  keeps most before after guest reading call (Err call_fault.Full) called =
      λ g has no_end. same_guest before after g (nothing_gained before after (1 + length called.list) called.list called.gained called.result called.gives.nothing) has
  keeps most before after guest reading call (Err call_fault.OutOfMemory) called =
      λ g has no_end. same_guest before after g (nothing_gained before after (1 + length called.list) called.list called.gained called.result called.gives.nothing) has
  keeps most before after guest reading call (Err call_fault.Busy) called = λ g has no_end. same_guest before after g (ap (λ (p : PassView T Entry). p.mine) called) has

  pub makes : (most : ℕ) (before after : PassView T Entry) (guest reading : ℕ) (call : CacheCall) (answer : Result Stepped CallFault) → Called most before guest reading call answer after → HasWhole after
      → IfOk answer (λ told. MakesGuest call told after)
  makes most before after guest reading call (Ok told) called whole = λ is. guest_begins most before after guest reading told (subst (λ (c : CacheCall). Tried most before guest reading c (Ok told) after) is called) whole
  makes most before after guest reading call (Err fault) called whole = tt

  -- tries that came to nothing leave the guests of a pass
  pub waited_keeps : (before between : PassView T Entry) (guest deadline : ℕ) (call : CacheCall) (readings : List ℕ) (g : ℕ) → Waited before guest deadline call readings between → HasGuest before g → HasGuest between g
  waited_keeps before between guest deadline call readings g w has = same_guest before between g (ap (λ (p : PassView T Entry). p.mine) w.result) has

  pub settled_makes : (call : CacheCall) (answer : Result Stepped CallFault) (given : Result Stepped UntilFault) (after : PassView T Entry) → settled_of answer ≡ Some given → IfOk answer (λ told. MakesGuest call told after) → IfOk given (λ told. MakesGuest call told after)
  settled_makes call (Ok t) given after some makes = by (is_not_yet t.reply) some
    where
      by : (b : Bool) → if◌then◌else◌ {A = Option (Result Stepped UntilFault)} b None (Some (Ok t)) ≡ Some given → IfOk given (λ told. MakesGuest call told after)
      by true some = absurd (none-some given some)
      by false some = subst (λ (x : Result Stepped UntilFault). IfOk x (λ told. MakesGuest call told after)) (same_some some) makes
  settled_makes call (Err call_fault.Busy) given after some makes = absurd (none-some given some)
  settled_makes call (Err call_fault.Full) given after some makes = subst (λ (x : Result Stepped UntilFault). IfOk x (λ told. MakesGuest call told after)) (same_some some) tt
  settled_makes call (Err call_fault.OutOfMemory) given after some makes = subst (λ (x : Result Stepped UntilFault). IfOk x (λ told. MakesGuest call told after)) (same_some some) tt
