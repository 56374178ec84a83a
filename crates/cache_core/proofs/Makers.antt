-- Who made an object, and who is live, with one entry more.
use Rattle.std.specs.Prelude.{◌≡◌, ℕ, ◌+◌, ◌<◌, ◌≤◌, Bool, true, false, not, ◌&&◌, ◌||◌, ◌==◌, List, [], ◌∷◌, ◌++◌, length, Option, Some, None, is_some, option_map, unwrap_or, refl, if◌then◌else◌}
use Rattle.std.specs.List.{list_any, cons_option, AllByRecursion}
use Rattle.std.proofs.Common.{arith, sym, ap, ◌∙◌, subst, eqb-true, ne_eqb}
use Rattle.std.proofs.lemmas.List.Folds.{list_any-append}
use Rattle.cache_types.specs.declared.calls.CacheCall.{CacheCall}
use Rattle.cache_types.specs.declared.calls.CacheCall.TheVariants.{Begin, Insert, TxInsert, End}
use Rattle.cache_types.specs.declared.calls.Terms.{Terms}
use Rattle.cache_types.specs.declared.entries.Entry.{Entry}
use Rattle.cache_types.specs.declared.replies.Reply.{Reply}
use Rattle.cache_types.specs.Entries.{asked_at, is_made, is_begin, is_end, begun, has_ended, is_live}
use Rattle.cache_types.specs.Objects.{Insertion, insertion_of, insertion_at, insertions, has_key, Renewal, renewal_for, last_renewal}
use Rattle.cache_types.specs.Legal.{IsLegalPast, IsGuest}
use Rattle.cache_types.proofs.Goals.{made_of}
use Rattle.cache_log.proofs.Living.{live-below, not-ended, end-guest}
use Rattle.cache_index.specs.Stands.{Stands}
use Rattle.cache_objects.specs.Standings.{ObjectMap, standing_at, fresh, changed_at, left}
use Rattle.cache_objects.specs.Guests.{GuestMap, list_at}
use Rattle.cache_core.specs.declared.parts.Parts.{Parts}
use Rattle.cache_core.specs.Object.{Fate, Object, fate_of, object_by, object_at, Holds}
use Rattle.cache_core.specs.News
use Rattle.cache_core.specs.Knows.{standing_of, IsHeld, is_named, is_guests, AreMadeBy, IsNamed, Knows}
use Rattle.cache_core.proofs.Born.{find_holds, cons_holds, holds_weaker, raise_all, if_holds, map_holds, not_made, insertion_number}
use Rattle.cache_core.proofs.More.{or_none, or_all}
use Rattle.cache_core.proofs.Renewing.{object_more}
use Rattle.cache_purge.specs.Keys.{named_at, IsMore}
use Rattle.cache_core.proofs.Naming.{NamesNew, named_more, no_more}
use Rattle.cache_core.proofs.ByNews.{insertion_is, held_more, same_told, still_made_by, live_stays, tells_ended, Tells}

-- an insertion's guest is its entry's
insertion_guest : (past : List Entry) (n g m : ℕ) (call : CacheCall) (reply : Reply) → Holds (λ (made : Insertion). made.guest ≡ g) (insertion_of past (made_of n g m call reply))
insertion_guest past n g m (Insert key headers writing) reply = if_holds _ (is_made reply) _ refl
insertion_guest past n g m (TxInsert tx writing) reply = if_holds _ (is_made reply) _ (map_holds _ _ (λ a. refl) (asked_at past tx))
insertion_guest past n g m call reply = if_holds _ (is_made reply) None tt

guest_of_call : (past : List Entry) (e : Entry) (call : CacheCall) → IsLegalPast past → e.number ≡ length past + 1 → IsGuest past e call → e.guest ≤ length past + 1
guest_of_call past e Begin legal number guest = omega (arith, number, guest)
guest_of_call past e call legal number guest = let below = live-below past e.guest legal guest in omega (arith, below)

makers_below : (past : List Entry) → IsLegalPast past → AllByRecursion (λ (made : Insertion). made.guest ≤ length past) (insertions past)
makers_below [] h = tt
makers_below (e ∷ past) h =
    let below = guest_of_call past e e.call h.1 h.0.number h.0.guest in
    cons_holds _ (insertion_of past e) (insertions past)
    (holds_weaker _ _ (λ made is. omega (arith, is, below)) (insertion_of past e) (insertion_guest past e.number e.guest e.moment e.call e.reply))
    (raise_all (λ (made : Insertion). made.guest) (length past) (length (e ∷ past)) (omega arith) (insertions past) (makers_below past h.1))

no_maker : (bound guest : ℕ) → bound < guest → (i : Option Insertion) (r : Option Renewal) (f : Fate) → Holds (λ (made : Insertion). made.guest ≤ bound) i → is_guests guest (object_by i r f) ≡ false
no_maker bound guest above None r f below = refl
no_maker bound guest above (Some m) None f below = refl
no_maker bound guest above (Some m) (Some r) f below = ne_eqb m.guest guest (λ same. omega (arith, same, below, above))

-- who hasn't begun made no object
made_by_none : (past : List Entry) → IsLegalPast past → (guest o : ℕ) → length past < guest → is_guests guest (object_at past o) ≡ false
made_by_none past h guest o above =
    no_maker (length past) guest above (insertion_at past o) (last_renewal past o) (fate_of past o)
    (find_holds _ (λ (made : Insertion). made.object == o) (insertions past) (makers_below past h))

pub tells_same : (objects : ObjectMap) (past : List Entry) (number : ℕ) → Tells objects objects past number News.Quiet
tells_same objects past number = λ o k before is h. h

-- the parts hold the same for all that is there
pub knows_same : (old new : Parts) (past : List Entry) → (Stands old.index (insertions past) → Stands new.index (insertions past)) → ((o : ℕ) → is_some (object_at past o) ≡ true → standing_at new.objects o ≡ standing_at old.objects o) → ((q : ℕ) → list_at new.guests q ≡ list_at old.guests q) → IsMore old.bearers new.bearers → Knows old past → Knows new past
knows_same old new past stands objects guests more knows = record {
  told = stands knows.told;
  held = λ o. each o (object_at past o) refl (knows.held o);
  live = λ q. ap is_some (guests q) ∙ knows.live q;
  owned = λ q is o. ap (λ l. is_named o (unwrap_or l [])) (guests q) ∙ knows.owned q is o;
  named = λ key o. holds_weaker (IsNamed old.bearers key o) (IsNamed new.bearers key o) (λ x n is. more key o (n is)) (object_at past o) (knows.named key o);
}
  where
    each : (o : ℕ) (x : Option Object) → object_at past o ≡ x → Holds (IsHeld old.objects past o) x → Holds (IsHeld new.objects past o) x
    each o None is h = tt
    each o (Some x) is h = objects o (ap is_some is) ∙ h

live_begun : (n g : ℕ) (past : List Entry) (b : Bool) (old new : Option (List ℕ)) → n == g ≡ b → (b ≡ true → has_ended past g ≡ false) → new ≡ (if b then Some [] else old) → is_some old ≡ is_live past g → is_some new ≡ ((b || list_any (λ x. x == g) (begun past)) && not (has_ended past g))
live_begun n g past true old new is fresh told live = ap is_some told ∙ sym (ap not (fresh refl))
live_begun n g past false old new is fresh told live = ap is_some told ∙ live

owned_begun : (n g : ℕ) (past : List Entry) (o : ℕ) (b : Bool) (old new : Option (List ℕ)) (x : Option Object) → (b ≡ true → is_guests g x ≡ false) → (b ≡ false → is_named o (unwrap_or old []) ≡ is_guests g x) → new ≡ (if b then Some [] else old) → is_named o (unwrap_or new []) ≡ is_guests g x
owned_begun n g past o true old new x none rest told = ap (λ l. is_named o (unwrap_or l [])) told ∙ sym (none refl)
owned_begun n g past o false old new x none rest told = ap (λ l. is_named o (unwrap_or l [])) told ∙ rest refl

live_before : (b : Bool) (begun ended : Bool) → b ≡ false → ((b || begun) && not ended) ≡ true → (begun && not ended) ≡ true
live_before true begun ended h is = cc
live_before false begun ended h is = is

begun_step : (old : Parts) (guests : GuestMap) (past : List Entry) (n g m : ℕ) (call : CacheCall) (reply : Reply) → is_begin call ≡ true → IsLegalPast (made_of n g m call reply ∷ past) → ((q : ℕ) → list_at guests q ≡ (if n == q then Some [] else list_at old.guests q)) → Knows old past → Knows (record old { guests = guests }) (made_of n g m call reply ∷ past)
begun_step old guests past n g m Begin reply begin legal told knows =
    let e = made_of n g m Begin reply in
    let number = legal.0.number in
    record {
      told = subst (Stands old.index) (sym (same_told past e refl)) knows.told;
      held = held_more old.objects old.objects past e legal (tells_same old.objects past n) knows.held;
      live = λ q. live_begun n q past (n == q) (list_at old.guests q) (list_at guests q) refl (λ same. not-ended past q legal.1 (omega (arith, number, eqb-true n q same))) (told q) (knows.live q);
      owned = λ q is o. owned_begun n q past o (n == q) (list_at old.guests q) (list_at guests q) (object_at past o)
          (λ same. made_by_none past legal.1 q o (omega (arith, number, eqb-true n q same)))
          (λ other. knows.owned q (live_before (n == q) (list_any (λ x. x == q) (begun past)) (has_ended past q) other is) o) (told q)
          ∙ ap (is_guests q) (sym (object_more past e legal o));
      named = named_more old.bearers old.bearers past e legal (no_more old.bearers) tt knows.named;
    }
begun_step old guests past n g m call reply begin legal told knows = cc

-- a guest begins
pub knows_begun : (old : Parts) (guests : GuestMap) (past : List Entry) (e : Entry) → IsLegalPast (e ∷ past) → is_begin e.call ≡ true → ((q : ℕ) → list_at guests q ≡ (if e.number == q then Some [] else list_at old.guests q)) → Knows old past → Knows (record old { guests = guests }) (e ∷ past)
knows_begun old guests past e legal begin told knows = begun_step old guests past e.number e.guest e.moment e.call e.reply begin legal told knows

live_left : (b begun ended : Bool) (old new : Option (List ℕ)) → new ≡ (if b then None else old) → is_some old ≡ (begun && not ended) → is_some new ≡ (begun && not (b || ended))
live_left true true ended old new told live = ap is_some told
live_left true false ended old new told live = ap is_some told
live_left false begun ended old new told live = ap is_some told ∙ live

still_live : (b begun ended : Bool) → (begun && not (b || ended)) ≡ true → (b ≡ false) × ((begun && not ended) ≡ true)
still_live true true ended is = cc
still_live true false ended is = cc
still_live false begun ended is = (refl, is)

ended_step : (old : Parts) (objects : ObjectMap) (guests : GuestMap) (past : List Entry) (n g m : ℕ) (call : CacheCall) (reply : Reply) → is_end call ≡ true → IsLegalPast (made_of n g m call reply ∷ past) → ((q : ℕ) → list_at guests q ≡ (if g == q then None else list_at old.guests q)) → ((q : ℕ) → standing_at objects q ≡ changed_at left (unwrap_or (list_at old.guests g) []) q (standing_at old.objects q)) → Knows old past → Knows (record old { objects = objects; guests = guests }) (made_of n g m call reply ∷ past)
ended_step old objects guests past n g m End reply end legal told changed knows =
    let e = made_of n g m End reply in
    record {
      told = subst (Stands old.index) (sym (same_told past e refl)) knows.told;
      held = held_more old.objects objects past e legal (tells_ended g n (unwrap_or (list_at old.guests g) []) old.objects objects past (knows.owned g (end-guest past e End legal.0.guest refl)) changed) knows.held;
      live = λ q. live_left (g == q) (list_any (λ x. x == q) (begun past)) (has_ended past q) (list_at old.guests q) (list_at guests q) (told q) (knows.live q);
      owned = λ q is.
          let was = still_live (g == q) (list_any (λ x. x == q) (begun past)) (has_ended past q) is in
          still_made_by (unwrap_or (list_at guests q) []) past e q legal refl
          (subst (λ l. AreMadeBy (unwrap_or l []) past q) (sym (told q ∙ ap (λ b. if b then None else list_at old.guests q) was.0)) (knows.owned q was.1));
      named = named_more old.bearers old.bearers past e legal (no_more old.bearers) tt knows.named;
    }
ended_step old objects guests past n g m call reply end legal told changed knows = cc

-- a guest ends
pub knows_ended : (old : Parts) (objects : ObjectMap) (guests : GuestMap) (past : List Entry) (e : Entry) → IsLegalPast (e ∷ past) → is_end e.call ≡ true → ((q : ℕ) → list_at guests q ≡ (if e.guest == q then None else list_at old.guests q)) → ((q : ℕ) → standing_at objects q ≡ changed_at left (unwrap_or (list_at old.guests e.guest) []) q (standing_at old.objects q)) → Knows old past → Knows (record old { objects = objects; guests = guests }) (e ∷ past)
knows_ended old objects guests past e legal end told changed knows = ended_step old objects guests past e.number e.guest e.moment e.call e.reply end legal told changed knows

-- the object that is made
tells_made : (made : Insertion) (renewal : Renewal) (n : ℕ) (old new : ObjectMap) (past : List Entry) → made.object ≡ n → renewal.object ≡ n → ((q : ℕ) → standing_at new q ≡ (if n == q then Some (fresh n made.guest made.writing.length) else standing_at old q)) → Tells old new past n (News.Made made renewal)
tells_made made renewal n old new past object terms told o k before is h =
    subst (λ b. Holds (λ (x : Object). standing_at new o ≡ Some (standing_of (if renewal.object == o then n else k) x)) (if b then Some (record { made = made; renewal = renewal; fate = News.fresh_fate }) else before)) (ap (λ j. j == o) (sym object))
    (subst (λ b. Holds (λ (x : Object). standing_at new o ≡ Some (standing_of (if b then n else k) x)) (if n == o then Some (record { made = made; renewal = renewal; fate = News.fresh_fate }) else before)) (ap (λ j. j == o) (sym terms))
    (by (n == o) (told o)))
  where
    by : (b : Bool) → standing_at new o ≡ (if b then Some (fresh n made.guest made.writing.length) else standing_at old o) → Holds (λ (x : Object). standing_at new o ≡ Some (standing_of (if b then n else k) x)) (if b then Some (record { made = made; renewal = renewal; fate = News.fresh_fate }) else before)
    by true t = t
    by false t = still before h
      where
        still : (x : Option Object) → Holds (λ (x : Object). standing_at old o ≡ Some (standing_of k x)) x → Holds (λ (x : Object). standing_at new o ≡ Some (standing_of k x)) x
        still None g = tt
        still (Some x) g = t ∙ g

-- the list of the guest that made it, and those of the others
owned_made : (n q o : ℕ) (made : Insertion) (renewal : Renewal) (mine here : Bool) (old new : Option (List ℕ)) (x : Option Object) → n == o ≡ here → made.guest == q ≡ mine → is_some old ≡ true → new ≡ (if mine then option_map (λ (list : List ℕ). list ++ n ∷ []) old else old) → is_named o (unwrap_or old []) ≡ is_guests q x → (here ≡ true → x ≡ None) → is_named o (unwrap_or new []) ≡ is_guests q (if here then Some (record { made = made; renewal = renewal; fate = News.fresh_fate }) else x)
owned_made n q o made renewal mine here None new x at is some told owned none = cc
owned_made n q o made renewal true here (Some l) new x at is some told owned none =
    ap (λ l. is_named o (unwrap_or l [])) told ∙ list_any-append (λ k. k == o) l (n ∷ []) ∙ ap (λ b. is_named o l || (b || false)) at ∙ by here refl
  where
    by : (b : Bool) → b ≡ here → (is_named o l || (b || false)) ≡ is_guests q (if b then Some (record { made = made; renewal = renewal; fate = News.fresh_fate }) else x)
    by true b = or_all (is_named o l) ∙ sym is
    by false b = or_none (is_named o l) ∙ owned
owned_made n q o made renewal false true (Some l) new x at is some told owned none = ap (λ l. is_named o (unwrap_or l [])) told ∙ owned ∙ ap (is_guests q) (none refl) ∙ sym is
owned_made n q o made renewal false false (Some l) new x at is some told owned none = ap (λ l. is_named o (unwrap_or l [])) told ∙ owned

pub no_object : (i : Option Insertion) (r : Option Renewal) (f : Fate) → i ≡ None → object_by i r f ≡ None
no_object None r f is = refl
no_object (Some m) r f is = cc

pub object_number : (past : List Entry) (e : Entry) (made : Insertion) (terms : Terms) → News.news_of past e ≡ News.Made made (renewal_for e terms e.number) → made.object ≡ e.number
object_number past e made terms news =
    subst (Holds (λ (m : Insertion). m.object ≡ e.number)) (insertion_is past e ∙ ap News.made_in news) (insertion_number past e.number e.guest e.moment e.call e.reply)

-- an insertion
pub knows_made : (old new : Parts) (past : List Entry) (e : Entry) (made : Insertion) (terms : Terms) → IsLegalPast (e ∷ past) → is_begin e.call ≡ false → is_end e.call ≡ false → News.news_of past e ≡ News.Made made (renewal_for e terms e.number)
    → Stands new.index (made ∷ insertions past)
    → ((q : ℕ) → standing_at new.objects q ≡ (if e.number == q then Some (fresh e.number e.guest made.writing.length) else standing_at old.objects q))
    → ((q : ℕ) → list_at new.guests q ≡ (if e.guest == q then option_map (λ (list : List ℕ). list ++ e.number ∷ []) (list_at old.guests q) else list_at old.guests q))
    → IsMore old.bearers new.bearers → ((key : List ℕ) → has_key terms.surrogates key ≡ true → is_named e.number (named_at new.bearers key) ≡ true)
    → Knows old past → Knows new (e ∷ past)
knows_made old new past e made terms legal begin end news index objects guests more names knows =
    let is : insertion_of past e ≡ Some made = insertion_is past e ∙ ap News.made_in news in
    let object : made.object ≡ e.number = subst (Holds (λ (m : Insertion). m.object ≡ e.number)) is (insertion_number past e.number e.guest e.moment e.call e.reply) in
    let guest : made.guest ≡ e.guest = subst (Holds (λ (m : Insertion). m.guest ≡ e.guest)) is (insertion_guest past e.number e.guest e.moment e.call e.reply) in
    record {
      told = subst (λ o. Stands new.index (cons_option o (insertions past))) (sym is) index;
      held = held_more old.objects new.objects past e legal
          (subst (Tells old.objects new.objects past e.number) (sym news)
          (tells_made made (renewal_for e terms e.number) e.number old.objects new.objects past object refl
          (λ q. objects q ∙ ap (λ g. if e.number == q then Some (fresh e.number g made.writing.length) else standing_at old.objects q) (sym guest)))) knows.held;
      live = λ q. ap is_some (guests q) ∙ same_some (e.guest == q) (list_at old.guests q) ∙ knows.live q ∙ sym (live_stays past e q begin end);
      owned = λ q live o.
          owned_made e.number q o made (renewal_for e terms e.number) (e.guest == q) (e.number == o) (list_at old.guests q) (list_at new.guests q) (object_at past o) refl (ap (λ g. g == q) guest)
          (knows.live q ∙ sym (live_stays past e q begin end) ∙ live) (guests q) (knows.owned q (sym (live_stays past e q begin end) ∙ live) o)
          (λ same. no_object (insertion_at past o) (last_renewal past o) (fate_of past o) (not_made past legal.1 o (omega (arith, legal.0.number, eqb-true e.number o same))))
          ∙ ap (is_guests q) (ap (λ j. if j == o then Some (record { made = made; renewal = renewal_for e terms e.number; fate = News.fresh_fate }) else object_at past o) (sym object) ∙ sym (object_more past e legal o ∙ ap (λ w. News.after w o (object_at past o)) news));
      named = named_more old.bearers new.bearers past e legal more
          (subst (NamesNew new.bearers) (sym news) (λ key is. subst (λ n. is_named n (named_at new.bearers key) ≡ true) (sym object) (names key is))) knows.named;
    }
  where
    same_some : (b : Bool) (l : Option (List ℕ)) → is_some (if b then option_map (λ (list : List ℕ). list ++ e.number ∷ []) l else l) ≡ is_some l
    same_some true None = refl
    same_some true (Some l) = refl
    same_some false l = refl
