-- Headers as the cache takes them are within its limits.
use Rattle.std.proofs.Common.{◌≡◌, ◌≤◌, Bool, true, false, List, [], ◌∷◌, length, refl, arith}
use Rattle.std.specs.Prelude.{filter, nat_le}
use Rattle.std.specs.List.{list_all}
use Rattle.std.proofs.lemmas.Bool.{leb-true, le-leb}
use Rattle.cache_types.specs.declared.calls.Field.{Field}
use Rattle.cache_types.specs.Limits.{is_name, is_headers}
use Rattle.edge_body.specs.Heads.{is_field, are_fields}
use Rattle.edge_http_calls.proofs.Kept.{both, first_of}
use Rattle.cache_calls.specs.Options.{handed}

filtered_all : (p : Field → Bool) (fields : List Field) → list_all p (filter p fields) ≡ true
filtered_all p [] = refl
filtered_all p (field ∷ fields) =
    let rest : list_all p (filter p fields) ≡ true = filtered_all p fields in
    let with : (b : Bool) → p field ≡ b → list_all p (filter p (field ∷ fields)) ≡ true
    = elim [ true ↦ λ h. rw h (rw h rest) | false ↦ λ h. rw h rest ] in with (p field) refl

filtered_length : (p : Field → Bool) (fields : List Field) → length (filter p fields) ≤ length fields
filtered_length p [] = omega arith
filtered_length p (field ∷ fields) =
    let rest : length (filter p fields) ≤ length fields = filtered_length p fields in
    let with : (b : Bool) → p field ≡ b → length (filter p (field ∷ fields)) ≤ length (field ∷ fields)
    = elim [ true ↦ λ h. rw h (omega (arith, rest)) | false ↦ λ h. rw h (omega (arith, rest)) ] in with (p field) refl

pub handed_kept : (fields : List Field) → are_fields fields ≡ true → is_headers (handed fields) ≡ true
handed_kept fields e =
    let size : length fields ≤ 100 = leb-true (length fields) 100 (first_of (nat_le (length fields) 100) (list_all is_field fields) e) in
    let less : length (handed fields) ≤ length fields = filtered_length (λ (field : Field). is_name field.name) fields in
    both (nat_le (length (handed fields)) 100) (list_all (λ (field : Field). is_name field.name) (handed fields))
    (le-leb (length (handed fields)) 100 (omega (arith, size, less)))
    (filtered_all (λ (field : Field). is_name field.name) fields)
