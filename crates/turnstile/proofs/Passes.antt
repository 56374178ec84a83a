-- What a pass has after a turn, from what its seat was told.
use Rattle.std.proofs.Common.{◌≡◌, ℕ, suc, ◌+◌, List, [], ◌∷◌, ◌++◌, length, Contains, refl, sym, ap, ◌∙◌, subst, arith, Option, Some, None}
use mathlib.Core.List.{IsPrefix}
use Rattle.std.proofs.lemmas.List.Elements.{filter-append}
use Rattle.atomic_table.specs.Table.{Me}
use Rattle.atomic_table.specs.Seated.{TableId}
use Rattle.turnstile.specs.declared.view.View.{View}
use Rattle.turnstile.specs.Standing.{Fits, MayJoin, of_family, family_entries}
use Rattle.turnstile.specs.Log.{IsShare, entries_of}
use Rattle.turnstile.specs.Plays.{Won, IsReady, HasServed, turn_ended}
use Rattle.turnstile.specs.Pass.{TurnstileView, PassView, pass_view, after_turn, Served}
use Rattle.turnstile.proofs.Logs.{owned_contains, own_filter, older_filter, family_maker}
use Rattle.turnstile.proofs.Lists.{same_some}

module _ {E : Type 0} where
  -- a family whose opener is among the own entries has no other entries
  pub whole_family : (base : List E) (n : ℕ) (family : E → ℕ) (seen : List E) (mine : List (ℕ × E)) (f : ℕ) (opener : E) → IsShare base n family seen mine → Contains mine (f, opener) → of_family family f (entries_of mine) ≡ of_family family f seen
  whole_family base n family seen mine f opener s has =
      let found = owned_contains s.seat n s.log f opener (subst (λ (l : List (ℕ × E)). Contains l (f, opener)) s.made has) in
      let is = found.1 in
      let own = own_filter family f s.seat n s.log (λ i x at same. family_maker family n s.log s.seat found.0 opener s.families found.2 i x at (same ∙ sym found.1)) in
      ap (λ (l : List (ℕ × E)). of_family family f (entries_of l)) s.made
      ∙ (sym own
      ∙ (ap (λ (l : List E). l ++ of_family family f (entries_of s.log)) (sym (older_filter family f n base s.older (omega arith)))
      ∙ (sym (filter-append _ base (entries_of s.log)) ∙ ap (of_family family f) (sym s.list))))

  pub joined_family : (base : List E) (n : ℕ) (family : E → ℕ) (seen : List E) (mine : List (ℕ × E)) (joins : Option ℕ) → IsShare base n family seen mine → MayJoin family joins mine
      → family_entries family joins (entries_of mine) ≡ family_entries family joins seen
  joined_family base n family seen mine None s may = refl
  joined_family base n family seen mine (Some f) s may = whole_family base n family seen mine f may.0 s may.1

module _ {T E S : Type 0} (setting : T → S) (first : T → ℕ) (entries : T → List E) (sound : T → Type 0) (family : E → ℕ) (joins : Option ℕ) where
  abbrev fits : T → List E → T → Type 0
  fits = Fits setting first entries sound

  abbrev Here : Type 0
  Here = Me (Option T) (View T E)

  abbrev load : List (ℕ × Option T) → Option T
  load [] = None
  load (z ∷ zs) = z.1

  pub ready : (start : T) (me now : Here) (asks : List E → Type 0) → Won entries first fits family me now → me.0.start ≡ Some start → MayJoin family joins me.0.mine → asks (family_entries family joins (entries_of me.0.mine)) → me.1 ≡ []
      → IsReady setting first entries sound start now (λ x. asks (family_entries family joins (entries x)))
  ready start me now asks won from may asked empty =
      let x = won.1 in
      let told = won.4 start from in
      let same : entries x ≡ won.0 = told.0.stands in
      record {
        value = x;
        inside = ap (λ (m : Here). m.0.inside) won.2 ∙ ap Some (sym same);
        loaded = ap (λ (m : Here). m.1) won.2 ∙ ap (λ (l : List (ℕ × Option T)). (0, Some x) ∷ l) empty;
        fit = record { stands = refl; same_setting = told.0.same_setting; same_first = told.0.same_first; is_sound = told.0.is_sound };
        asks = subst asks (joined_family (entries start) (first start + length (entries start)) family won.0 me.0.mine joins told.1 may ∙ ap (family_entries family joins) (sym same)) asked;
      }

  view_after : (table : TableId) (v : View T E) (inside : Option (List E)) (n : ℕ) (list : List E) (gained : Option E)
      → pass_view table (turn_ended (record v { inside = inside }) n list gained) ≡ after_turn (pass_view table v) n list gained
  view_after table v inside n list None = refl
  view_after table v inside n list (Some e) = refl

  pub served : {J A : Type 0} (gives : T → J → A → Option E → Type 0) (turnstile : TurnstileView T) (table later : TableId) (me now after : Here) (pass : PassView T E) (job : J) (answer : A) → pass_view table me.0 ≡ pass → later ≡ table
      → me.0.start ≡ Some turnstile.start → Won entries first fits family me now → HasServed first entries family joins gives now job answer after
      → Served setting first entries sound family joins gives turnstile pass job answer (pass_view later after.0)
  served gives turnstile table later me now after pass job answer is same from won h =
      let fit = (won.4 turnstile.start from).0 in
      let list = won.0 in
      let px : won.1 ≡ h.value = same_some (ap load (sym (ap (λ (m : Here). m.1) won.2) ∙ h.loaded)) in
      let stands : entries h.value ≡ list = ap entries (sym px) ∙ fit.stands in
      let n = first h.value + length (entries h.value) in
      record {
        value = h.value;
        gained = h.gained;
        fit = record {
          stands = refl;
          same_setting = ap setting (sym px) ∙ fit.same_setting;
          same_first = ap first (sym px) ∙ fit.same_first;
          is_sound = subst sound px fit.is_sound;
        };
        longer = subst (λ (l : List E). IsPrefix l (entries h.value)) (ap (λ (p : PassView T E). p.seen) is) (subst (IsPrefix me.0.seen) (sym stands) won.3);
        given = h.given;
        member = h.member;
        result = ap (λ (m : Here). pass_view later m.0) h.result
            ∙ (ap (λ (m : Here). pass_view later (turn_ended m.0 n (entries h.value) h.gained)) won.2
            ∙ (view_after later me.0 (Some list) n (entries h.value) h.gained
            ∙ (ap (λ (z : TableId). after_turn (pass_view z me.0) n (entries h.value) h.gained) same ∙ ap (λ (p : PassView T E). after_turn p n (entries h.value) h.gained) is)));
      }

-- the entry that a turn gained is the last of the own ones
pub gained_is_mine : {T E : Type 0} (pass after : PassView T E) (number : ℕ) (list : List E) (e : E) → after ≡ after_turn pass number list (Some e) → Contains after.mine (number, e)
gained_is_mine {T} {E} pass after number list e is = subst (λ (l : List (ℕ × E)). Contains l (number, e)) (sym (ap (λ (p : PassView T E). p.mine) is)) (last pass.mine)
  where
    last : (xs : List (ℕ × E)) → Contains (xs ++ (number, e) ∷ []) (number, e)
    last [] = (0, omega arith, refl)
    last (x ∷ xs) = let r = last xs in let b = r.1 in (suc r.0, omega arith, r.2)

-- a loss after some losses
pub lost_more : {T E : Type 0} (p q r : PassView T E) (n : ℕ) → q ≡ record p { lost = p.lost + n } → r ≡ record q { lost = q.lost + 1 } → r ≡ record p { lost = p.lost + (n + 1) }
lost_more {T} {E} p q r n before now =
    let more : (p.lost + n) + 1 ≡ p.lost + (n + 1) = omega arith in
    now ∙ (ap (λ (z : PassView T E). record z { lost = z.lost + 1 }) before ∙ ap (λ (k : ℕ). record p { lost = k }) more)
