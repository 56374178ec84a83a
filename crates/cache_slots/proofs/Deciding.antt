-- Two lists in order: the first items that differ decide, and else the lengths.
use Rattle.std.specs.Prelude.{◌≡◌, ℕ, ◌+◌, ◌-◌, ◌<◌, ◌≤◌, List, [], ◌∷◌, drop, length, refl}
use Rattle.std.specs.List.{slice_index_or}
use Rattle.std.specs.declared.cmp.Ordering.{Ordering}
use Rattle.std.specs.declared.cmp.Ordering.TheVariants.{Less, Equal, Greater}
use Rattle.std.specs.Ordering.{nat_cmp, ordering_then}
use Rattle.std.specs.Cmp.{nat_cmp_is}
use Rattle.std.specs.Cmp.Lexicographic.{slice_cmp}
use Rattle.std.proofs.Common.{arith, add-one}
use Rattle.std.proofs.Math.Seq.{drop-cons}
use Rattle.std.proofs.lemmas.List.{length-drop}

-- from a place on: the items there, and then what follows
pub cmp-from : {X : Type 0} (R : X → X → Ordering) (xs ys : List X) (i : ℕ) (d e : X) → i < length xs → i < length ys → slice_cmp R (drop i xs) (drop i ys) ≡ ordering_then (R (slice_index_or xs i d) (slice_index_or ys i e)) (slice_cmp R (drop (i + 1) xs) (drop (i + 1) ys))
cmp-from R xs ys i d e lx ly = rw (add-one, drop-cons xs i d lx, drop-cons ys i e ly) refl

-- from the end of the shorter list on, the lengths decide
pub lengths-decide : {X : Type 0} (R : X → X → Ordering) (xs ys : List X) (n : ℕ) → n ≤ length xs → n ≤ length ys → (n < length xs → n ≡ length ys) → slice_cmp R (drop n xs) (drop n ys) ≡ nat_cmp (length xs) (length ys)
lengths-decide {X} R xs ys n lx ly ends = with (drop n xs) (length-drop n xs) (drop n ys) (length-drop n ys)
  where
    with : (us : List X) → length us ≡ length xs - n → (vs : List X) → length vs ≡ length ys - n → slice_cmp R us vs ≡ nat_cmp (length xs) (length ys)
    with [] u [] v = nat_cmp_is (length xs) (length ys) Equal (omega (arith, u, v))
    with [] u (y ∷ vs) v = nat_cmp_is (length xs) (length ys) Less (omega (arith, u, v))
    with (x ∷ us) u [] v = nat_cmp_is (length xs) (length ys) Greater (omega (arith, u, v))
    with (x ∷ us) u (y ∷ vs) v =
        let longer : n < length xs = omega (arith, u) in
        let same : n ≡ length ys = ends longer in absurd (omega (arith, same, v))
