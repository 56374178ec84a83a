-- Headers that rows leave may stand in heads.
use Rattle.std.proofs.Common.{◌≡◌, ◌∙◌, ℕ, ◌==◌, ◌≤◌, Bool, true, false, ◌&&◌, not, List, [], ◌∷◌, length, map, refl, arith}
use Rattle.std.specs.Prelude.{filter, nat_le, nat_lt}
use Rattle.std.specs.List.{list_all}
use Rattle.std.proofs.lemmas.Bool.{leb-true, le-leb, lt-ltb, ne_eqb}
use Rattle.std.proofs.lemmas.List.Folds.{list_all-append}
use Rattle.cache_types.specs.declared.calls.Field.{Field}
use Rattle.cache_types.specs.Limits.{has_name_bytes}
use Rattle.edge_body.specs.Heads.{is_field, is_field_name, is_field_value, is_value_byte, are_fields, is_uri, is_uri_byte}
use Rattle.edge_http_calls.specs.Texts.{lowered, is_token, is_text, is_text_byte, is_printing, is_request_uri, has_authority, behind_scheme}
use Rattle.edge_http_calls.specs.Fields.{is_named, without, field_with, appended, replaced}

pub both : (a b : Bool) → a ≡ true → b ≡ true → (a && b) ≡ true
both true true ea eb = refl
both true false ea eb = cc
both false b ea eb = cc

pub first_of : (a b : Bool) → (a && b) ≡ true → a ≡ true
first_of true b e = refl
first_of false b e = cc

pub second_of : (a b : Bool) → (a && b) ≡ true → b ≡ true
second_of true b e = e
second_of false b e = cc

-- ---- one header

text_kept : (value : List ℕ) → is_text value ≡ true → is_field_value value ≡ true
text_kept [] e = refl
text_kept (byte ∷ value) e =
    both (is_value_byte byte) (list_all is_value_byte value)
    (first_of (is_value_byte byte) (nat_le byte 126) (first_of (is_text_byte byte) (list_all is_text_byte value) e))
    (text_kept value (second_of (is_text_byte byte) (list_all is_text_byte value) e))

token_kept : (text : List ℕ) → is_token text ≡ true → is_field_name (lowered text) ≡ true
token_kept text e =
    let name : List ℕ = lowered text in
    let size : (nat_le 1 (length name) && nat_le (length name) 64) ≡ true = first_of (nat_le 1 (length name) && nat_le (length name) 64) (has_name_bytes name) e in
    let some : 1 ≤ length name = leb-true 1 (length name) (first_of (nat_le 1 (length name)) (nat_le (length name) 64) size) in
    both (nat_lt 0 (length name)) (has_name_bytes name)
    (lt-ltb 0 (length name) (omega arith))
    (second_of (nat_le 1 (length name) && nat_le (length name) 64) (has_name_bytes name) e)

field_kept : (text value : List ℕ) → is_token text ≡ true → is_text value ≡ true → is_field (field_with text value) ≡ true
field_kept text value t v = both (is_field_name (lowered text)) (is_field_value value) (token_kept text t) (text_kept value v)

-- ---- all of them

filter_kept : (p q : Field → Bool) (fields : List Field) → list_all q fields ≡ true → list_all q (filter p fields) ≡ true
filter_kept p q [] e = refl
filter_kept p q (field ∷ fields) e =
    let rest : list_all q (filter p fields) ≡ true = filter_kept p q fields (second_of (q field) (list_all q fields) e) in
    let with : (b : Bool) → p field ≡ b → list_all q (filter p (field ∷ fields)) ≡ true
    = elim [ true ↦ λ h. rw h (both (q field) (list_all q (filter p fields)) (first_of (q field) (list_all q fields) e) rest) | false ↦ λ h. rw h rest ] in with (p field) refl

filter_length : (p : Field → Bool) (fields : List Field) → length (filter p fields) ≤ length fields
filter_length p [] = omega arith
filter_length p (field ∷ fields) =
    let rest : length (filter p fields) ≤ length fields = filter_length p fields in
    let with : (b : Bool) → p field ≡ b → length (filter p (field ∷ fields)) ≤ length (field ∷ fields)
    = elim [ true ↦ λ h. rw h (omega (arith, rest)) | false ↦ λ h. rw h (omega (arith, rest)) ] in with (p field) refl

values_kept : (text : List ℕ) (values : List (List ℕ)) → is_token text ≡ true → list_all is_text values ≡ true → list_all is_field (map (field_with text) values) ≡ true
values_kept text [] t e = refl
values_kept text (value ∷ values) t e =
    both (is_field (field_with text value)) (list_all is_field (map (field_with text) values))
    (field_kept text value t (first_of (is_text value) (list_all is_text values) e))
    (values_kept text values t (second_of (is_text value) (list_all is_text values) e))

-- each header of these is one
pub each_of : (fields : List Field) → are_fields fields ≡ true → list_all is_field fields ≡ true
each_of fields e = second_of (nat_le (length fields) 100) (list_all is_field fields) e

pub replaced_kept : (text : List ℕ) (values : List (List ℕ)) (fields : List Field) → are_fields fields ≡ true → is_token text ≡ true → list_all is_text values ≡ true
    → list_all is_field (replaced text values fields) ≡ true
replaced_kept text values fields e t v =
    list_all-append is_field (without text fields) (map (field_with text) values)
    ∙ both (list_all is_field (without text fields)) (list_all is_field (map (field_with text) values))
    (filter_kept (λ (field : Field). not (is_named text field)) is_field fields (each_of fields e))
    (values_kept text values t v)

pub one_kept : (value : List ℕ) → is_text value ≡ true → list_all is_text (value ∷ []) ≡ true
one_kept value v = both (is_text value) true v refl

pub appended_kept : (text value : List ℕ) (fields : List Field) → are_fields fields ≡ true → is_token text ≡ true → is_text value ≡ true
    → list_all is_field (appended text value fields) ≡ true
appended_kept text value fields e t v =
    list_all-append is_field fields (field_with text value ∷ [])
    ∙ both (list_all is_field fields) (list_all is_field (field_with text value ∷ [])) (each_of fields e) (both (is_field (field_with text value)) true (field_kept text value t v) refl)

pub without_kept : (text : List ℕ) (fields : List Field) → are_fields fields ≡ true → are_fields (without text fields) ≡ true
without_kept text fields e =
    let size : length fields ≤ 100 = leb-true (length fields) 100 (first_of (nat_le (length fields) 100) (list_all is_field fields) e) in
    let less : length (without text fields) ≤ length fields = filter_length (λ (field : Field). not (is_named text field)) fields in
    both (nat_le (length (without text fields)) 100) (list_all is_field (without text fields))
    (le-leb (length (without text fields)) 100 (omega (arith, size, less)))
    (filter_kept (λ (field : Field). not (is_named text field)) is_field fields (each_of fields e))

-- ---- a uri

uri_bytes : (uri : List ℕ) → list_all is_printing uri ≡ true → is_uri uri ≡ true
uri_bytes [] e = refl
uri_bytes (byte ∷ uri) e =
    both (is_uri_byte byte) (is_uri uri)
    (not_zero byte (first_of (nat_le 33 byte) (nat_le byte 126) (first_of (is_printing byte) (list_all is_printing uri) e)))
    (uri_bytes uri (second_of (is_printing byte) (list_all is_printing uri) e))
  where
    not_zero : (byte : ℕ) → nat_le 33 byte ≡ true → is_uri_byte byte ≡ true
    not_zero byte e =
        let some : 33 ≤ byte = leb-true 33 byte e in
        let differs : (byte == 0) ≡ false = ne_eqb byte 0 (λ h. absurd (omega (arith, h))) in
        rw differs refl

pub uri_kept : (uri : List ℕ) → is_request_uri uri ≡ true → is_uri uri ≡ true
uri_kept uri e =
    uri_bytes uri
    (first_of (list_all is_printing uri) (has_authority (behind_scheme uri))
    (second_of (nat_le (length uri) 8192) (list_all is_printing uri && has_authority (behind_scheme uri)) e))
