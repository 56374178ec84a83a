-- So many words of a longer row of words.
use Rattle.std.specs.Prelude.{◌≡◌, ℕ, ◌+◌, ◌-◌, ◌≤◌, ◌∷◌, take, replicate, refl}
use Rattle.std.proofs.Common.{arith, ap, subst, zero, suc}

take-replicate : {A : Type 0} (n k : ℕ) (x : A) → take n (replicate (n + k) x) ≡ replicate n x
take-replicate zero k x = refl
take-replicate (suc n) k x = let e : suc n + k ≡ suc (n + k) = omega arith in rw e (ap (λ xs. x ∷ xs) (take-replicate n k x))

pub words-are : {A : Type 0} (n most : ℕ) (x : A) → n ≤ most → take n (replicate most x) ≡ replicate n x
words-are n most x few =
    let sum : n + (most - n) ≡ most = omega (arith, few) in
    subst (λ m. take n (replicate m x) ≡ replicate n x) sum (take-replicate n (most - n) x)
