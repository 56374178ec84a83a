-- The names in a text, part by part.
use Rattle.std.proofs.Common.{◌≡◌, ℕ, true, false, List, [], ◌∷◌, ◌++◌, refl, ◌∙◌, ap}
use Rattle.std.proofs.lemmas.List.Folds.{list_all-append}
use Rattle.cache_types.specs.Limits.{is_name}
use Rattle.vary_rules.specs.Rules.{names_in, are_names}

-- the names of a part, and of those behind it
pub part_names : (part : List ℕ) (parts : List (List ℕ)) → names_in (part ∷ parts) ≡ names_in (part ∷ []) ++ names_in parts
part_names [] parts = refl
part_names (byte ∷ part) parts = refl

pub good_names : (part : List ℕ) (parts : List (List ℕ)) → are_names (names_in (part ∷ [])) ≡ true → are_names (names_in (part ∷ parts)) ≡ are_names (names_in parts)
good_names part parts good = ap are_names (part_names part parts) ∙ list_all-append is_name (names_in (part ∷ [])) (names_in parts) ∙ rw good refl

pub bad_names : (part : List ℕ) (parts : List (List ℕ)) → are_names (names_in (part ∷ [])) ≡ false → are_names (names_in (part ∷ parts)) ≡ false
bad_names part parts bad = ap are_names (part_names part parts) ∙ list_all-append is_name (names_in (part ∷ [])) (names_in parts) ∙ rw bad refl
