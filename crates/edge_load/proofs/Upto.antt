-- One more of a row.
use Rattle.std.specs.Prelude.{◌≡◌, ℕ, zero, suc, ◌+◌, ◌*◌, ◌%◌, Bool, true, List, [], ◌∷◌, ◌++◌, length, refl}
use Rattle.std.specs.List.{list_all}
use Rattle.std.proofs.Common.{arith, ◌∙◌, add-one, append_assoc, length-append}
use Rattle.std.proofs.lemmas.Bool.{and_from}
use Rattle.std.proofs.lemmas.List.Folds.{list_all-append}
use Rattle.edge_load.specs.Load.{upto, rounds, round}
use Rattle.edge_load.specs.Words.{word}

pub upto_none : {X : Type 0} (f : ℕ → X) → upto f 0 ≡ []
unfolding upto
upto_none f = refl

pub upto_more : {X : Type 0} (f : ℕ → X) (n : ℕ) → upto f (n + 1) ≡ upto f n ++ f n ∷ []
unfolding upto
upto_more f n = rw add-one refl

pub rounds_none : (number index : ℕ) → rounds number index 0 ≡ []
unfolding rounds
rounds_none number index = refl

pub rounds_more : (number index n : ℕ) → rounds number index (n + 1) ≡ rounds number index n ++ round ((index + 1) % 256) (5 * n + 1) (word number (4 * index + n))
unfolding rounds
rounds_more number index n = rw add-one refl

pub ruleset rows = (upto_none, upto_more, rounds_none, rounds_more, append_assoc)

-- all of a row
pub all_upto : {X : Type 0} (p : X → Bool) (f : ℕ → X) → ((n : ℕ) → p (f n) ≡ true) → (n : ℕ) → list_all p (upto f n) ≡ true
unfolding upto
all_upto p f each zero = refl
all_upto p f each (suc n) = list_all-append p (upto f n) (f n ∷ []) ∙ and_from (list_all p (upto f n)) (list_all p (f n ∷ [])) (all_upto p f each n) (and_from (p (f n)) true (each n) refl)

pub length_upto : {X : Type 0} (f : ℕ → X) (n : ℕ) → length (upto f n) ≡ n
unfolding upto
length_upto f zero = refl
length_upto f (suc n) = omega (arith, length-append (upto f n) (f n ∷ []), length_upto f n)
