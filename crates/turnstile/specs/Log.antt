-- Who added what: the entries that were added to a list, in their order, each with the seat that added it.
use Rattle.std.specs.Prelude.{◌≡◌, ℕ, suc, ◌+◌, ◌<◌, ◌≤◌, ◌==◌, nat_le, cond, List, [], ◌∷◌, ◌++◌, map, All}
use mathlib.Core.Option.{some}
use lib.ListN.{get_elem?}

module _ {E : Type 0} where
  -- the entries alone
  abbrev pub entries_of : List (ℕ × E) → List E
  entries_of = map (λ x. x.1)

  -- what the seat j added, each entry under its number, where the first entry of the log has the number n
  abbrev pub owned : ℕ → ℕ → List (ℕ × E) → List (ℕ × E)
  owned j n [] = []
  owned j n (x ∷ xs) = cond (x.0 == j) ((n, x.1) ∷ owned j (suc n) xs) (owned j (suc n) xs)

  -- the entries under their numbers, from n on
  abbrev pub numbered : ℕ → List E → List (ℕ × E)
  numbered n [] = []
  numbered n (e ∷ es) = (n, e) ∷ numbered (suc n) es

  -- the seat i takes over what j added
  abbrev pub handed : ℕ → ℕ → ℕ × E → ℕ × E
  handed i j x = (cond (x.0 == j) i x.0, x.1)

  -- a numbered entry comes before the first that has no lower number
  abbrev pub put_by_number : ℕ × E → List (ℕ × E) → List (ℕ × E)
  put_by_number x [] = x ∷ []
  put_by_number x (y ∷ ys) = cond (nat_le x.0 y.0) (x ∷ y ∷ ys) (y ∷ put_by_number x ys)

  -- both lists in one, by number
  abbrev pub merged : List (ℕ × E) → List (ℕ × E) → List (ℕ × E)
  merged [] ys = ys
  merged (x ∷ xs) ys = put_by_number x (merged xs ys)

  -- each entry belongs to the family that an entry of the same seat opened, no later than here
  abbrev pub Families : (E → ℕ) → ℕ → List (ℕ × E) → Type 0
  Families family n log = (i : ℕ) (x : ℕ × E) → get_elem? log i ≡ some x
      → (m : ℕ) × (n + m ≡ family x.1) × (m ≤ i) × ((y : E) × (get_elem? log m ≡ some (x.0, y)) × (family y ≡ family x.1))

-- There is a log of who added what, in which `seen` is the whole list and `mine` what one seat added.
pub record IsShare {E : Type 0} (base : List E) (number : ℕ) (family : E → ℕ) (seen : List E) (mine : List (ℕ × E)) : Type 0 where
  pub log : List (ℕ × E)
  pub seat : ℕ
  pub list : seen ≡ base ++ entries_of log
  pub made : mine ≡ owned seat number log
  pub older : All (λ e. family e < number) base
  pub families : Families family number log
