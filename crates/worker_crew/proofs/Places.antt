-- Two lists, from a fact at each place.
use Rattle.std.proofs.Common.{◌≡◌, ℕ, suc, ◌<◌, List, [], ◌∷◌, length, slice_index_or, subst, arith}
use Rattle.worker_crew.specs.Pairs.{Each}

module _ {A : Type 0} (fact : A → A → Type 0) where
  -- a call that began with one and left the other
  pub moved : (x y before after : A) → before ≡ x → after ≡ y → fact before after → fact x y
  moved x y before after began left did = subst (λ (z : A). fact x z) left (subst (λ (z : A). fact z after) began did)

  pub each : (xs ys : List A) → length ys ≡ length xs → ((i : ℕ) (d : A) → i < length xs → fact (slice_index_or xs i d) (slice_index_or ys i d)) → Each fact xs ys
  each [] [] same at = tt
  each [] (y ∷ ys) same at = absurd (omega arith)
  each (x ∷ xs) [] same at = absurd (omega arith)
  each (x ∷ xs) (y ∷ ys) same at = (at 0 x (omega arith), each xs ys (omega arith) (λ i d less. at (suc i) d (omega arith)))
