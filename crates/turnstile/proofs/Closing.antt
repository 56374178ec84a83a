-- The first state of a turnstile, and the last: the pass with all parts made every entry.
use Rattle.std.proofs.Common.{◌≡◌, ◌≢◌, ℕ, zero, suc, ◌+◌, ◌<◌, List, [], ◌∷◌, ◌++◌, length, set, All, refl, sym, ap, ◌∙◌, subst, arith, Option, Some, None}
use mathlib.Core.Option as option
use mathlib.Core.Option.{some, none, some-injective, some-ne-none}
use mathlib.Core.Logic.{dite}
use native.Mathlib.Decide.{ℕ_discrete}
use mathlib.Core.List.{IsPrefix}
use lib.ListN.{get_elem?}
use Rattle.std.proofs.lemmas.List.{append-nil}
use Rattle.atomic_table.specs.Table.{State, opening, Final, Seen}
use Rattle.atomic_table.proofs.Lists.{set_else}
use Rattle.turnstile.specs.declared.view.View.{View}
use Rattle.turnstile.specs.Log.{entries_of, numbered}
use Rattle.turnstile.specs.Rule.{inside_of, all_parts, first_view, Knows, Stands}
use Rattle.turnstile.specs.Plays.{spent_view}
use Rattle.turnstile.specs.Pass.{TurnstileView, PassView, pass_view}
use Rattle.atomic_table.specs.Seated.{TableId}
use Rattle.turnstile.proofs.Logs.{owned_all, owned_nothing}
use Rattle.turnstile.proofs.Lists.{sum_set}
use Rattle.turnstile.proofs.Seats.{inside_own, sees_prefix}

at_exists : {A : Type 0} (l : List A) (i : ℕ) → i < length l → (a : A) × (get_elem? l i ≡ some a)
at_exists [] i h = absurd (omega arith)
at_exists (x ∷ xs) zero h = (x, refl)
at_exists (x ∷ xs) (suc i) h = at_exists xs i (omega arith)

module _ {T E : Type 0} (entries : T → List E) (first : T → ℕ) (fits : T → List E → T → Type 0) (family : E → ℕ) where
  abbrev V : Type 0
  V = View T E

  abbrev next : T → ℕ
  next start = first start + length (entries start)

  abbrev Rule : T → State (Option T) V → Type 0
  Rule start = Stands start (entries start) (next start) (fits start) family

  abbrev parts_of : V → ℕ
  parts_of v = v.parts

  pub opens : (start : T) → fits start (entries start) start → All (λ e. family e < next start) (entries start) → Rule start (opening (0 ∷ 0 ∷ []) (Some start ∷ []) (first_view start (entries start)))
  opens start fit older = record {
    log = [];
    holder = none;
    words = refl;
    home = λ _. (start, refl, subst (λ (l : List E). fits start l start) (sym (append-nil (entries start))) fit);
    held = λ j e. absurd (some-ne-none j (sym e));
    makers = λ i x e. absurd (some-ne-none x (sym e));
    older = older;
    families = λ i x e. absurd (some-ne-none x (sym e));
    seats = knows;
    parts = refl;
  }
    where
      knows : (j : ℕ) (v : V) → get_elem? (first_view start (entries start) ∷ []) j ≡ some v → Knows start (entries start) (next start) [] none j v
      knows zero v e = subst (Knows start (entries start) (next start) [] none 0) (some-injective _ v e) record {
        made = refl;
        place = refl;
        told = (entries start ++ [], refl);
        origin = λ _. refl;
        sight = λ _. record { count = 0; within = omega arith; list = sym (append-nil (entries start)); others = λ i x le at. absurd (some-ne-none x (sym at)) };
        spent = λ e. absurd (omega arith);
      }
      knows (suc j) v e = absurd (some-ne-none v (sym e))

  module _ (start : T) (s : State (Option T) V) (r : Rule start s) (id : ℕ) (v : V) (at : get_elem? s.views id ≡ some v) (all : v.parts ≡ all_parts) (outside : v.inside ≡ None) where
    base : List E
    base = entries start

    -- no other seat has a part
    others_spent : (j : ℕ) (u : V) → j ≢ id → get_elem? s.views j ≡ some u → u.parts ≡ 0
    others_spent j u other there =
        let vs = set s.views id spent_view in
        let e = sum_set parts_of s.views id v spent_view at in
        let there' = set_else s.views id j spent_view other ∙ there in
        let f = sum_set parts_of vs j u spent_view there' in
        let total = r.parts in
        omega arith

    free : (o : option.Option ℕ) → r.holder ≡ o → r.holder ≡ none
    free none e = e
    free (some i) e =
        let u = at_exists s.views i (r.held i e) in
        let k = r.seats i u.0 u.1 in
        let list : List E = entries start ++ entries_of r.log in
        let in_now : u.0.inside ≡ Some list = k.place ∙ (ap (λ (o : option.Option ℕ). inside_of o i list) e ∙ inside_own i list) in
        absurd (dite (ℕ_discrete i id)
        (λ same. let here : u.0 ≡ v = some-injective u.0 v (sym u.1 ∙ (ap (get_elem? s.views) same ∙ at)) in let no : None ≡ Some list = sym outside ∙ (sym (ap (λ (x : V). x.inside) here) ∙ in_now) in cc (no))
        (λ other. let no : None ≡ Some list = sym (k.spent (others_spent i u.0 other u.1)).1 ∙ in_now in cc (no)))

    made_all : (i : ℕ) (x : ℕ × E) → get_elem? r.log i ≡ some x → x.0 ≡ id
    made_all i x there = dite (ℕ_discrete x.0 id) (λ e. e)
        (λ other.
        let u = at_exists s.views x.0 (r.makers i x there) in
        let k = r.seats x.0 u.0 u.1 in
        absurd (owned_nothing x.0 (next start) r.log (sym k.made ∙ (k.spent (others_spent x.0 u.0 other u.1)).0) i x there refl))

    pub last : (x : T) × (es : List E) × (s.homes ≡ some (Some x) ∷ []) × fits start (entries start ++ es) x × (v.mine ≡ numbered (next start) es) × IsPrefix v.seen (entries start ++ es)
    last =
        let here = r.home (free r.holder refl) in
        let k = r.seats id v at in
        (here.0, entries_of r.log, here.1, here.2, k.made ∙ owned_all id (next start) r.log made_all, sees_prefix (entries start) r.log id v.seen (k.sight (omega arith)))

  -- what the closed table's slot has
  pub closes : (start : T) (id : ℕ) (v : V) (words : List ℕ) (slots : List (Option T)) → v.parts ≡ all_parts → v.inside ≡ None → Final (Seen (Rule start) id v) words slots
      → (x : T) × (es : List E) × (get_elem? slots 0 ≡ some (Some x)) × fits start (entries start ++ es) x × (v.mine ≡ numbered (next start) es) × IsPrefix v.seen (entries start ++ es)
  closes start id v words slots all outside final =
      let l = last start final.0 final.1.0 id v final.1.1 all outside in
      (l.0, l.1, final.4 0 (Some l.0) (ap (λ (hs : List (option.Option (Option T))). get_elem? hs 0) l.2), l.3, l.4, l.5)

  pub opens_as : (start value : T) (slots : List (Option T)) → start ≡ value → slots ≡ Some value ∷ [] → fits value (entries value) value → All (λ e. family e < next value) (entries value)
      → Rule start (opening (0 ∷ 0 ∷ []) slots (first_view start (entries start)))
  opens_as start value slots same one fit older =
      let back = sym same in
      let full = sym one in
      let P : T × List (Option T) → Type 0 = λ p. Rule p.0 (opening (0 ∷ 0 ∷ []) p.1 (first_view p.0 (entries p.0))) in
      subst P (λ i. (back i, full i)) (opens value fit older)

  entries_of-numbered : (n : ℕ) (es : List E) → entries_of (numbered n es) ≡ es
  entries_of-numbered n [] = refl
  entries_of-numbered n (e ∷ es) = ap (λ (l : List E). e ∷ l) (entries_of-numbered (suc n) es)

  -- the value that was taken out stands for the first list and all that the pass made
  pub closed : (key : T) (id : ℕ) (v : V) (table : TableId) (words : List ℕ) (slots : List (Option T)) (slot : Option T) (pass : PassView T E) (turnstile : TurnstileView T) → pass_view table v ≡ pass → key ≡ turnstile.start → pass.parts ≡ all_parts → v.inside ≡ None
      → Final (Seen (Rule key) id v) words slots → get_elem? slots 0 ≡ some slot
      → (x : T) × (slot ≡ Some x) × fits turnstile.start (entries turnstile.start ++ entries_of pass.mine) x × (pass.mine ≡ numbered (next turnstile.start) (entries_of pass.mine)) × IsPrefix pass.seen (entries turnstile.start ++ entries_of pass.mine)
  closed key id v table words slots slot pass turnstile is same all outside final at =
      let l = closes key id v words slots (ap (λ (p : PassView T E). p.parts) is ∙ all) outside final in
      let es : entries_of v.mine ≡ l.1 = ap entries_of l.4 ∙ entries_of-numbered (next key) l.1 in
      let P : T × PassView T E → Type 0 = λ z. (x : T) × (slot ≡ Some x) × fits z.0 (entries z.0 ++ entries_of z.1.mine) x × (z.1.mine ≡ numbered (next z.0) (entries_of z.1.mine)) × IsPrefix z.1.seen (entries z.0 ++ entries_of z.1.mine) in
      subst P (λ i. (same i, is i)) (
        l.0,
        some-injective slot (Some l.0) (sym at ∙ l.2),
        subst (λ (m : List E). fits key (entries key ++ m) l.0) (sym es) l.3,
        l.4 ∙ ap (numbered (next key)) (sym es),
        subst (λ (m : List E). IsPrefix v.seen (entries key ++ m)) (sym es) l.5,
      )
