-- Lists read by place, prefixes, and sums over seats.
use Rattle.std.proofs.Common.{◌≡◌, ◌≢◌, ◌⊎◌, ℕ, zero, suc, ◌+◌, ◌<◌, ◌≤◌, List, [], ◌∷◌, ◌++◌, length, get_or, take, drop, set, sum_by, refl, sym, ap, ◌∙◌, subst, ⊎_elim, inl, inr, arith, Some}
use mathlib.Core.Option.{some, some-injective, some-ne-none}
use mathlib.Core.List.{IsPrefix}
use lib.ListN.{get_elem?}
use Rattle.std.proofs.lemmas.List.{append_assoc, append-nil, map-append, map_push, take-append-drop}
use Rattle.std.proofs.lemmas.List.Sums.{sum_by-set}
use Rattle.atomic_table.proofs.Lists.{at_set}
use Rattle.turnstile.specs.Log.{entries_of}

module _ {A : Type 0} where
  pub at_bound : (l : List A) (i : ℕ) (a : A) → get_elem? l i ≡ some a → i < length l
  at_bound [] i a e = absurd (some-ne-none a (sym e))
  at_bound (x ∷ xs) zero a e = omega arith
  at_bound (x ∷ xs) (suc i) a e = let h = at_bound xs i a e in omega arith

  pub get_at : (l : List A) (i : ℕ) (a d : A) → get_elem? l i ≡ some a → get_or l i d ≡ a
  get_at [] i a d e = absurd (some-ne-none a (sym e))
  get_at (x ∷ xs) zero a d e = some-injective x a e
  get_at (x ∷ xs) (suc i) a d e = get_at xs i a d e

  pub at_snoc_place : (l : List A) (a b : A) (j : ℕ) → get_elem? (l ++ a ∷ []) j ≡ some b → (get_elem? l j ≡ some b) ⊎ ((j ≡ length l) × (a ≡ b))
  at_snoc_place [] a b zero e = inr (refl, some-injective a b e)
  at_snoc_place [] a b (suc j) e = absurd (some-ne-none b (sym e))
  at_snoc_place (x ∷ xs) a b zero e = inl e
  at_snoc_place (x ∷ xs) a b (suc j) e = ⊎_elim inl (λ (t : (j ≡ length xs) × (a ≡ b)). inr (ap suc t.0, t.1)) (at_snoc_place xs a b j e)

  pub one_only : (l : List A) (y : A) → length l ≡ 1 → set l 0 y ≡ y ∷ []
  one_only [] y e = absurd (omega arith)
  one_only (x ∷ []) y e = refl
  one_only (x ∷ z ∷ zs) y e = absurd (omega arith)

  pub same_some : {a b : A} → Some a ≡ Some b → a ≡ b
  same_some e = cc

  -- prefixes
  pub prefix_refl : (l : List A) → IsPrefix l l
  prefix_refl l = ([], append-nil l)

  pub prefix_longer : (xs ys zs : List A) → IsPrefix xs ys → IsPrefix xs (ys ++ zs)
  prefix_longer xs ys zs p = (p.0 ++ zs, sym (append_assoc xs p.0 zs) ∙ ap (λ (l : List A). l ++ zs) p.1)

  -- of two prefixes of one list the shorter begins the longer
  pub prefix_of_two : (xs ys all : List A) → IsPrefix xs all → IsPrefix ys all → length xs ≤ length ys → IsPrefix xs ys
  prefix_of_two [] ys all p q le = (ys, refl)
  prefix_of_two (x ∷ xs) [] all p q le = absurd (omega arith)
  prefix_of_two (x ∷ xs) (y ∷ ys) [] p q le = absurd (cc (p.1))
  prefix_of_two (x ∷ xs) (y ∷ ys) (z ∷ zs) p q le =
      let pe = p.1 in
      let qe = q.1 in
      let a : xs ++ p.0 ≡ zs = cc in
      let b : ys ++ q.0 ≡ zs = cc in
      let same : x ≡ y = cc in
      let r = prefix_of_two xs ys zs (p.0, a) (q.0, b) (omega arith) in
      (r.0, λ i. same i ∷ r.1 i)

  pub snoc_list : (xs ys : List A) (x y : A) → xs ++ x ∷ [] ≡ ys ++ y ∷ [] → (xs ≡ ys) × (x ≡ y)
  snoc_list [] [] x y e = (refl, cc)
  snoc_list [] (b ∷ []) x y e = absurd (cc (e))
  snoc_list [] (b ∷ c ∷ ys) x y e = absurd (cc (e))
  snoc_list (a ∷ []) [] x y e = absurd (cc (e))
  snoc_list (a ∷ b ∷ xs) [] x y e = absurd (cc (e))
  snoc_list (a ∷ xs) (b ∷ ys) x y e =
      let heads : a ≡ b = cc in
      let tails : xs ++ x ∷ [] ≡ ys ++ y ∷ [] = cc in
      let r = snoc_list xs ys x y tails in
      ((λ i. heads i ∷ r.0 i), r.1)

  -- one seat's view changes
  pub seats_set : (K : ℕ → A → Type 0) (vs : List A) (me : ℕ) (w : A) → K me w → ((j : ℕ) (d : A) → j ≢ me → get_elem? vs j ≡ some d → K j d)
      → (j : ℕ) (d : A) → get_elem? (set vs me w) j ≡ some d → K j d
  seats_set K vs me w mine others j d e = ⊎_elim (λ (t : (j ≡ me) × (w ≡ d)). subst (λ (x : ℕ × A). K x.0 x.1) (λ i. (sym t.0 i, t.1 i)) mine)
      (λ (t : (j ≢ me) × (get_elem? vs j ≡ some d)). others j d t.0 t.1) (at_set vs me j w d e)

  pub sum_set : (f : A → ℕ) (vs : List A) (me : ℕ) (v w : A) → get_elem? vs me ≡ some v → sum_by f (set vs me w) + f v ≡ sum_by f vs + f w
  sum_set f vs me v w at = ap (λ (x : A). sum_by f (set vs me w) + f x) (sym (get_at vs me v v at)) ∙ sum_by-set f vs me w v (at_bound vs me v at)

module _ {E : Type 0} where
  pub entries_take : (base : List E) (c : ℕ) (log : List (ℕ × E)) → IsPrefix (base ++ entries_of (take c log)) (base ++ entries_of log)
  entries_take base c log =
      (entries_of (drop c log), append_assoc base (entries_of (take c log)) (entries_of (drop c log)) ∙ ap (λ (l : List E). base ++ l) (sym (map-append (λ (x : ℕ × E). x.1) (take c log) (drop c log)) ∙ ap entries_of (take-append-drop c log)))

  pub entries_push : (base : List E) (log : List (ℕ × E)) (x : ℕ × E) → base ++ entries_of (log ++ x ∷ []) ≡ (base ++ entries_of log) ++ x.1 ∷ []
  entries_push base log x = ap (λ (l : List E). base ++ l) (map_push (λ (y : ℕ × E). y.1) log x) ∙ sym (append_assoc base (entries_of log) (x.1 ∷ []))
