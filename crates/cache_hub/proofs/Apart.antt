-- Two lists of numbered entries have no number in common, where the numbers of both in one list rise.
use Rattle.std.proofs.Common.{◌≡◌, ℕ, suc, zero, ◌+◌, ◌<◌, ◌≤◌, ◌==◌, nat_le, slice_index_or, Bool, true, false, cond, List, [], ◌∷◌, length, Contains, refl, sym, ap, ◌∙◌, arith}
use Rattle.std.proofs.lemmas.Bool.Decides.{nat_tests}
use Rattle.turnstile.specs.Log.{owned, merged, put_by_number}

abbrev one_if : Bool → ℕ
one_if true = 1
one_if false = 0

same_number : (k : ℕ) → (k == k) ≡ true
same_number k = grind (arith, nat_tests)

module _ {E : Type 0} where
  -- how often a number stands in the list
  abbrev times : ℕ → List (ℕ × E) → ℕ
  times k [] = 0
  times k (x ∷ xs) = one_if (x.0 == k) + times k xs

  -- the numbers rise, from n on
  abbrev Rises : ℕ → List (ℕ × E) → Type 0
  Rises n [] = Unit {0}
  Rises n (x ∷ xs) = (n ≤ x.0) × Rises (suc x.0) xs

  rises_from : (n m : ℕ) (xs : List (ℕ × E)) → m ≤ n → Rises n xs → Rises m xs
  rises_from n m [] le r = tt
  rises_from n m (x ∷ xs) le r = ((let p = r.0 in omega arith), r.1)

  owned_rises : (j n : ℕ) (log : List (ℕ × E)) → Rises n (owned j n log)
  owned_rises j n [] = tt
  owned_rises j n (x ∷ xs) = by (x.0 == j) (owned_rises j (suc n) xs)
    where
      by : (b : Bool) → Rises (suc n) (owned j (suc n) xs) → Rises n (cond b ((n, x.1) ∷ owned j (suc n) xs) (owned j (suc n) xs))
      by true r = (omega arith, r)
      by false r = rises_from (suc n) n (owned j (suc n) xs) (omega arith) r

  not_before : (k n : ℕ) (xs : List (ℕ × E)) → k < n → Rises n xs → times k xs ≡ 0
  not_before k n [] lt r = refl
  not_before k n (x ∷ xs) lt r = by (x.0 == k) refl (not_before k (suc x.0) xs (let p = r.0 in omega arith) r.1)
    where
      by : (b : Bool) → (x.0 == k) ≡ b → times k xs ≡ 0 → one_if b + times k xs ≡ 0
      by true is rest = let e : x.0 ≡ k = grind (arith, nat_tests) in let p = r.0 in absurd (omega arith)
      by false is rest = omega arith

  at_most_once : (k n : ℕ) (xs : List (ℕ × E)) → Rises n xs → times k xs ≤ 1
  at_most_once k n [] r = omega arith
  at_most_once k n (x ∷ xs) r = by (x.0 == k) refl (at_most_once k (suc x.0) xs r.1)
    where
      by : (b : Bool) → (x.0 == k) ≡ b → times k xs ≤ 1 → one_if b + times k xs ≤ 1
      by true is rest = let e : x.0 ≡ k = grind (arith, nat_tests) in let z = not_before k (suc x.0) xs (omega arith) r.1 in omega arith
      by false is rest = omega arith

  times_put : (k : ℕ) (x : ℕ × E) (ys : List (ℕ × E)) → times k (put_by_number x ys) ≡ one_if (x.0 == k) + times k ys
  times_put k x [] = refl
  times_put k x (y ∷ ys) = by (nat_le x.0 y.0) (times_put k x ys)
    where
      by : (b : Bool) → times k (put_by_number x ys) ≡ one_if (x.0 == k) + times k ys → times k (cond b (x ∷ y ∷ ys) (y ∷ put_by_number x ys)) ≡ one_if (x.0 == k) + (one_if (y.0 == k) + times k ys)
      by true rest = refl
      by false rest = omega arith

  times_merged : (k : ℕ) (xs ys : List (ℕ × E)) → times k (merged xs ys) ≡ times k xs + times k ys
  times_merged k [] ys = omega arith
  times_merged k (x ∷ xs) ys = let p = times_put k x (merged xs ys) in let r = times_merged k xs ys in omega arith

  there : (k : ℕ) (e : E) (xs : List (ℕ × E)) (i : ℕ) → i < length xs → slice_index_or xs i (k, e) ≡ (k, e) → 1 ≤ times k xs
  there k e [] i within at = absurd (omega arith)
  there k e (x ∷ xs) zero within at =
      let s : one_if (x.0 == k) ≡ 1 = ap (λ (y : ℕ × E). one_if (y.0 == k)) at ∙ ap one_if (same_number k) in
      omega arith
  there k e (x ∷ xs) (suc i) within at = let r = there k e xs i (omega arith) at in omega arith

  -- both are parts of what one seat owns
  pub apart : (seat n : ℕ) (log one other both : List (ℕ × E)) → both ≡ merged one other → both ≡ owned seat n log → (k : ℕ) (e f : E) → Contains one (k, e) → Contains other (k, f) → ⊥
  apart seat n log one other both is made k e f has has' =
      let a = there k e one has.0 has.1 has.2 in
      let b = there k f other has'.0 has'.1 has'.2 in
      let sum = times_merged k one other in
      let most = at_most_once k n (owned seat n log) (owned_rises seat n log) in
      let same : times k (merged one other) ≡ times k (owned seat n log) = ap (times k) (sym is ∙ made) in
      absurd (omega arith)
