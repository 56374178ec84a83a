-- Places in flat code, and piles of operands.
use Rattle.std.proofs.Common.{◌≡◌, ℕ, zero, suc, ◌+◌, refl, Some, List, [], ◌∷◌, ◌++◌, drop, slice_get, add-one}
use Rattle.wasm_types.specs.declared.values.Value.{Value}
use Rattle.wasm_meaning.specs.Frames.{Label}
use Rattle.wasm_machine.specs.Standing.{piled}

pub stands : {X : Type 0} (p : ℕ) (xs : List X) (x : X) (ys : List X) → drop p xs ≡ x ∷ ys → (slice_get xs p ≡ Some x)
stands zero [] x ys h = cc
stands zero (z ∷ xs) x ys h = cc
stands (suc p) [] x ys h = cc
stands (suc p) (z ∷ xs) x ys h = stands p xs x ys h

follows_suc : {X : Type 0} (p : ℕ) (xs : List X) (x : X) (ys : List X) → drop p xs ≡ x ∷ ys → drop (suc p) xs ≡ ys
follows_suc zero [] x ys h = cc
follows_suc zero (z ∷ xs) x ys h = cc
follows_suc (suc p) [] x ys h = cc
follows_suc (suc p) (z ∷ xs) x ys h = follows_suc p xs x ys h

pub follows : {X : Type 0} (p : ℕ) (xs : List X) (x : X) (ys : List X) → drop p xs ≡ x ∷ ys → drop (p + 1) xs ≡ ys
follows p xs x ys h = rw add-one (follows_suc p xs x ys h)

pub piled_split : (vs : List Value) (ls : List Label) (below : List Value) → piled vs ls below ≡ vs ++ piled [] ls below
piled_split vs [] below = refl
piled_split vs (l ∷ ls) below = refl
