-- Parts of a list between two elements that pass a test.
use Rattle.std.proofs.Common.{◌≡◌, ℕ, Bool, true, false, List, [], ◌∷◌, take, drop, refl, ◌+◌, None, Some, arith, subst, sym}
use Rattle.std.specs.Prelude.{◌==◌, cond}
use Rattle.std.specs.List.{slice_split, position, onto_first}
use Rattle.edge_words.specs.Reading.{parts_at, at_end}
use Rattle.std.proofs.lemmas.List.Splits.{slice_split_first}
use Rattle.std.proofs.lemmas.Bool.{ltb-true}
use Rattle.std.proofs.lemmas.Option.{cond_some}
use Rattle.std.proofs.lemmas.Grind.{common_steps}

-- the first place at which it passes, one step on
position_found : {X : Type 0} (p : X → Bool) (x : X) (xs : List X) → p x ≡ true → position p (x ∷ xs) ≡ Some 0
position_found p x xs passes = rw passes (grind (arith, common_steps))

position_later : {X : Type 0} (p : X → Bool) (x : X) (xs : List X) → p x ≡ false → position p (x ∷ xs) ≡ None → position p xs ≡ None
position_later p x xs fails none = grind (arith, common_steps)

-- where none passes, the list is the one part
pub parts_none : {X : Type 0} (p : X → Bool) (xs : List X) → None ≡ position p xs → slice_split p xs ≡ xs ∷ []
parts_none p [] none = refl
parts_none p (x ∷ xs) none =
    let with : (b : Bool) → p x ≡ b → slice_split p (x ∷ xs) ≡ (x ∷ xs) ∷ [] =
    elim [
      | true ↦ λ passes. let found = position_found p x xs passes in cc
      | false ↦ λ fails. let rest = parts_none p xs (sym (position_later p x xs fails (sym none))) in rw (fails, rest) refl
    ] in with (p x) refl

-- the first part ends at the first that passes
pub parts_some : {X : Type 0} (p : X → Bool) (xs : List X) (i : ℕ) (d : X) → Some i ≡ position p xs → slice_split p xs ≡ take i xs ∷ slice_split p (drop (i + 1) xs)
parts_some p xs i d some =
    let found = cond_some _ _ _ (sym some) in
    subst (λ (j : ℕ). slice_split p xs ≡ take j xs ∷ slice_split p (drop (j + 1) xs)) found.1 (slice_split_first p xs d (ltb-true _ _ found.0))

-- a line has a word
pub words_left : (c : ℕ) (line : List ℕ) → at_end (parts_at c line) ≡ None
words_left c [] = refl
words_left c (b ∷ line) =
    let with : (t : Bool) (parts : List (List ℕ)) → at_end (cond t ([] ∷ parts) (onto_first b parts)) ≡ None =
    λ t parts. elim t as (λ t. at_end (cond t ([] ∷ parts) (onto_first b parts)) ≡ None) [
      | true ↦ refl
      | false ↦ elim parts as (λ parts. at_end (onto_first b parts) ≡ None) [ [] ↦ refl | p ∷ ps ↦ refl ]
    ] in with (b == c) (parts_at c line)
