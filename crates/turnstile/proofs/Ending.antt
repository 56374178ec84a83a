-- The end of a turn, from what the seat has to put back.
use Rattle.std.proofs.Common.{◌≡◌, ℕ, ◌+◌, ◌%◌, ◌^◌, ◌<◌, Bool, true, false, true≢false, List, [], ◌∷◌, ◌++◌, length, refl, sym, ap, ◌∙◌, subst, Option, Some, None}
use mathlib.Core.Option.{none}
use Rattle.atomic_table.specs.Table.{State, Me, step, Allows}
use Rattle.turnstile.specs.declared.view.View.{View}
use Rattle.turnstile.specs.Standing.{Fits, family_number, Adds}
use Rattle.turnstile.specs.Rule.{Stands}
use Rattle.turnstile.specs.Plays.{Published, Left, LeftIdle, IsDone}
use Rattle.turnstile.proofs.Turning.{publishes_as, leaves_as, leaves_idle_as}

module _ {E : Type 0} where
  pub added_one : (family : E → ℕ) (joins : Option ℕ) (n : ℕ) (list : List E) (gained : Option E) (added : Bool) (after : List E) → added ≡ true → Adds family joins n list gained added after
      → (e : E) × (gained ≡ Some e) × (after ≡ list ++ e ∷ []) × (family e ≡ family_number joins n)
  added_one family joins n list None added after is a = absurd (true≢false (sym is ∙ a.0))
  added_one family joins n list (Some e) added after is a = (e, refl, a.1, a.2)

  pub added_none : (family : E → ℕ) (joins : Option ℕ) (n : ℕ) (list : List E) (gained : Option E) (added : Bool) (after : List E) → added ≡ false → Adds family joins n list gained added after → (gained ≡ None) × (after ≡ list)
  added_none family joins n list None added after is a = (refl, a.1)
  added_none family joins n list (Some e) added after is a = absurd (true≢false (sym a.0 ∙ is))

module _ {T E S : Type 0} (setting : T → S) (first : T → ℕ) (entries : T → List E) (sound : T → Type 0) (family : E → ℕ) (start : T) where
  abbrev fits : T → List E → T → Type 0
  fits = Fits setting first entries sound

  abbrev Rule : State (Option T) (View T E) → Type 0
  Rule = Stands start (entries start) (first start + length (entries start)) (fits start) family

  abbrev Here : Type 0
  Here = Me (Option T) (View T E)

  fits_list : (list : List E) (x : T) → entries x ≡ list → fits start (entries x) x → fits start list x
  fits_list list x e f = record { stands = e; same_setting = f.same_setting; same_first = f.same_first; is_sound = f.is_sound }

  pub counts : (slots id : ℕ) (me : Here) (added : Bool) → added ≡ true → 0 < me.0.parts → IsDone setting first entries sound family start me added
      → Allows Rule slots id me 1 (λ n. (n + 1) % 2 ^ 64) (Published entries first fits family (step slots 1 1 0 none) me)
  counts slots id me added is live d =
      let one = added_one family d.joins (first start + length d.list) d.list d.gained added (entries d.value) is d.adds in
      publishes_as entries first fits family start slots id me d.list one.0 d.value d.joins d.loaded live d.inside one.2 d.room d.may one.3

  pub gives_back : (slots id found : ℕ) (me now : Here) (added : Bool) → added ≡ true → slots ≡ 1 → 0 < me.0.parts → me.0.start ≡ Some start → IsDone setting first entries sound family start me added → Published entries first fits family (step slots 1 1 0 none) me found now
      → Allows Rule slots id now 0 (λ _. 0) (Left entries first fits family (step slots 0 0 0 none) now)
  gives_back slots id found me now added is one live from d told =
      let new = added_one family d.joins (first start + length d.list) d.list d.gained added (entries d.value) is d.adds in
      let after = told start d.value d.list new.0 from d.inside d.loaded new.2 in
      leaves_as entries first fits family start slots id now (d.list ++ new.0 ∷ []) d.value (ap (λ (m : Here). m.1) after ∙ d.loaded) one (subst (λ (n : ℕ). 0 < n) (sym (ap (λ (m : Here). m.0.parts) after)) live) (ap (λ (m : Here). m.0.inside) after) (fits_list _ d.value new.2 d.fit)

  pub gives_back_idle : (slots id : ℕ) (me : Here) (added : Bool) → added ≡ false → slots ≡ 1 → 0 < me.0.parts → IsDone setting first entries sound family start me added
      → Allows Rule slots id me 0 (λ _. 0) (LeftIdle entries first fits family (step slots 0 0 0 none) me)
  gives_back_idle slots id me added is one live d =
      let same = added_none family d.joins (first start + length d.list) d.list d.gained added (entries d.value) is d.adds in
      leaves_idle_as entries first fits family start slots id me d.list d.value d.loaded one live d.inside (fits_list _ d.value same.1 d.fit)
