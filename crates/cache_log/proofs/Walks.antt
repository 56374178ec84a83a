-- A walk from the oldest entry on, told of the entries so far with the newest first.
use Rattle.std.specs.Prelude.{◌≡◌, ℕ, ◌+◌, ◌<◌, List, [], ◌∷◌, take, reverse, length}
use Rattle.std.proofs.Common.{add-one}
use Rattle.std.proofs.lemmas.List.{reverse-append}
use Rattle.std.specs.List.{slice_index_or}
use Rattle.std.proofs.Math.Seq.{take-suc}

-- the entry behind the first i of them is the newest of the first i + 1
pub reverse-take_more : {A : Type 0} (xs : List A) (i : ℕ) (d : A) → i < length xs → reverse (take (i + 1) xs) ≡ slice_index_or xs i d ∷ reverse (take i xs)
reverse-take_more xs i d h = rw (add-one, take-suc xs i d h) (reverse-append (take i xs) (slice_index_or xs i d ∷ []))

pub ruleset walks = (reverse-take_more, reverse-append)
