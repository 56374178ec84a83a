-- The names of headers, one header after the other.
use Rattle.std.proofs.Common.{◌≡◌, ◌∙◌, ℕ, suc, ◌+◌, ◌<◌, Bool, true, false, List, [], ◌∷◌, ◌++◌, length, drop, get_or, refl, sym, ap, arith, append_assoc}
use Rattle.std.proofs.Math.Seq.{drop-cons}
use Rattle.std.specs.Prelude.{bytes_eq}
use Rattle.std.specs.List.{list_any}
use Rattle.cache_types.specs.declared.calls.Field.{Field}
use Rattle.edge_http_calls.specs.Fields.{names_behind, with_name}

pub names_step : (names : List (List ℕ)) (field : Field) (rest : List Field)
    → with_name names field.name ++ names_behind (with_name names field.name) rest ≡ names ++ names_behind names (field ∷ rest)
names_step names field rest =
    let with : (b : Bool) → list_any (λ (other : List ℕ). bytes_eq other field.name) names ≡ b
    → with_name names field.name ++ names_behind (with_name names field.name) rest ≡ names ++ names_behind names (field ∷ rest)
    = elim [
      | true ↦ λ e. rw e refl
      | false ↦ λ e. rw e (append_assoc names (field.name ∷ []) (names_behind (names ++ field.name ∷ []) rest))
    ] in with (list_any (λ (other : List ℕ). bytes_eq other field.name) names) refl

pub drop_field : (fields : List Field) (i : ℕ) (field : Field) → i < length fields → field ≡ get_or fields i field → field ∷ drop (i + 1) fields ≡ drop i fields
drop_field fields i field within is =
    let next : i + 1 ≡ suc i = omega arith in
    ap (λ (n : ℕ). field ∷ drop n fields) next ∙ (ap (λ (one : Field). one ∷ drop (suc i) fields) is ∙ sym (drop-cons fields i field within))
