-- Laws of names and headers.
use Rattle.std.proofs.Common.{◌≡◌, ◌≤◌, ℕ, Bool, true, false, not, List, [], ◌∷◌, ◌++◌, refl, sym, ◌∙◌, ap, subst, Some, inl, inr, arith}
use Rattle.std.specs.Prelude.{codes, ◌==◌, ◌||◌}
use Rattle.std.specs.List.{list_all, list_any, join_with_byte}
use Rattle.std.proofs.lemmas.Bool.{and_parts, or_cases, eqb-true, leb-true, le-leb}
use Rattle.std.proofs.lemmas.List.Folds.{list_all-append}
use Rattle.std.proofs.lemmas.List.Splits.{join_with_byte-slice_split}
use Rattle.std.proofs.lemmas.Option.{cond_some, same_Some}
use Rattle.hex.specs.Hex.{IsBytes}
use Rattle.cache_types.specs.declared.calls.Field.{Field}
use Rattle.cache_types.specs.Limits.{is_name_byte, has_name_bytes, is_from_to, is_token_mark}
use Rattle.edge_words.specs.Words.{is_word, is_visible, hex_word}
use Rattle.edge_words.specs.Reading.{parts_at, hex_in}
use Rattle.edge_words.proofs.Numbers.{hex_takes, hex_again, hex_word_word, hex_passes}
use Rattle.edge_words.proofs.Lines.{lacks, parts_here, parts_last}
use Rattle.edge_words.proofs.Laws.{IsCodec, hex_codec, bind_some, map_some}
use Rattle.edge_words.proofs.Commas.{IsPart, hex_no_comma}
use Rattle.call_lines.specs.Lines.{IsField, IsName}
use Rattle.call_lines.specs.Reading.{two, name_in, field_with, field_of, field_in}

-- ---- names

-- no byte of a name is this one, which is none
other_byte : (c b : ℕ) → is_name_byte c ≡ false → is_name_byte b ≡ true → not (b == c) ≡ true
other_byte c b none e =
    let with : (t : Bool) → (b == c) ≡ t → not t ≡ true =
    elim [ true ↦ λ same. cc (sym none ∙ sym (ap is_name_byte (eqb-true b c same)) ∙ e) | false ↦ λ _. refl ] in with (b == c) refl

visible_among : (marks : List ℕ) (b : ℕ) → list_all is_visible marks ≡ true → list_any (λ mark. mark == b) marks ≡ true → is_visible b ≡ true
visible_among [] b each e = cc e
visible_among (mark ∷ marks) b each e =
    let parts = and_parts _ _ each in
    elim (or_cases (mark == b) (list_any (λ mark. mark == b) marks) e) [
      | inl same ↦ subst (λ n. is_visible n ≡ true) (eqb-true mark b same) parts.0
      | inr others ↦ visible_among marks b parts.1 others
    ]

-- a byte from the first to the second number, the first of them above the space
visible_from : (least most b : ℕ) → 33 ≤ least → is_from_to least most b ≡ true → is_visible b ≡ true
visible_from least most b above e =
    let low = leb-true least b (and_parts _ _ e).0 in
    le-leb 33 b (omega arith)

lower_visible : (b : ℕ) → is_name_byte b ≡ true → is_visible b ≡ true
lower_visible b e =
    elim (or_cases (is_from_to 97 122 b) (is_from_to 48 57 b || is_token_mark b) e) [
      | inl letter ↦ visible_from 97 122 b (omega arith) letter
      | inr others ↦
          elim (or_cases (is_from_to 48 57 b) (is_token_mark b) others) [
            | inl digit ↦ visible_from 48 57 b (omega arith) digit
            | inr mark ↦ visible_among (codes "!#$%&'*+-.^_`|~") b refl mark
          ]
    ]

-- a name's bytes pass what each byte of a name passes
bytes_pass : (test : ℕ → Bool) (name : List ℕ) → ((b : ℕ) → is_name_byte b ≡ true → test b ≡ true) → has_name_bytes name ≡ true → list_all test name ≡ true
bytes_pass test [] each e = refl
bytes_pass test (b ∷ name) each e =
    let parts = and_parts _ _ e in
    rw (each b parts.0) (bytes_pass test name each parts.1)

name_passes : (test : ℕ → Bool) (name : List ℕ) → ((b : ℕ) → is_name_byte b ≡ true → test b ≡ true) → IsName name → list_all test name ≡ true
name_passes test name each fits = bytes_pass test name each (and_parts _ _ fits).1

name_takes : (text name : List ℕ) → name_in text ≡ Some name → (text ≡ name) × IsName name
name_takes text name e =
    let found = cond_some _ _ _ e in
    (found.1, subst IsName found.1 found.0)

name_again : (name : List ℕ) → IsName name → name_in name ≡ Some name
name_again name fits = rw fits refl

abbrev pub as_it_is : List ℕ → List ℕ
as_it_is name = name

name_codec : IsCodec as_it_is IsName name_in
name_codec = record { takes = name_takes; again = name_again; word = λ name fits. name_passes is_visible name lower_visible fits }

pub name_part : IsPart as_it_is IsName name_in
name_part = record { codec = name_codec; no_comma = λ name fits. name_passes (λ b. not (b == 44)) name (λ b e. other_byte 44 b refl e) fits }

pub hex_part : IsPart hex_word IsBytes hex_in
hex_part = record { codec = hex_codec; no_comma = hex_no_comma }

-- ---- headers

two_takes : (text : List ℕ) (parts : List (List ℕ)) (halves : List ℕ × List ℕ) → parts_at 58 text ≡ parts → two parts ≡ Some halves → text ≡ halves.0 ++ (58 ∷ halves.1)
two_takes text [] halves e found = cc found
two_takes text (front ∷ []) halves e found = cc found
two_takes text (front ∷ (back ∷ [])) halves e found =
    let P : List ℕ × List ℕ → Type 0 = λ h. text ≡ h.0 ++ (58 ∷ h.1) in
    subst P (same_Some _ _ found) (sym (ap (join_with_byte 58) (sym e) ∙ join_with_byte-slice_split 58 text))
two_takes text (front ∷ (back ∷ (more ∷ parts))) halves e found = cc found

abbrev pub field_word : Field → List ℕ
field_word field = field.name ++ (codes ":" ++ hex_word field.value)

field_takes : (text : List ℕ) (field : Field) → field_in text ≡ Some field → (text ≡ field_word field) × IsField field
field_takes text field e =
    let halves = bind_some (two (parts_at 58 text)) field_of field e in
    let name = bind_some (name_in halves.0.0) _ field halves.2 in
    let value = map_some (field_with name.0) (hex_in halves.0.1) field name.2 in
    let front = name_takes halves.0.0 name.0 name.1 in
    let back = hex_takes halves.0.1 value.0 value.1 in
    let P : Field → Type 0 = λ f. (text ≡ field_word f) × IsField f in
    subst P value.2 (
      two_takes text (parts_at 58 text) halves.0 refl halves.1
          ∙ ap (λ (name : List ℕ). name ++ (58 ∷ halves.0.1)) front.0
          ∙ ap (λ (value : List ℕ). name.0 ++ (58 ∷ value)) back.0,
      (front.1, back.1),
    )

hex_no_colon : (bytes : List ℕ) → IsBytes bytes → lacks 58 (hex_word bytes) ≡ true
hex_no_colon bytes fits = hex_passes (λ b. not (b == 58)) bytes refl refl fits

field_again : (field : Field) → IsField field → field_in (field_word field) ≡ Some field
field_again field fits =
    let front = name_passes (λ b. not (b == 58)) field.name (λ b e. other_byte 58 b refl e) fits.0 in
    rw (
      parts_here 58 field.name (hex_word field.value) front,
      parts_last 58 (hex_word field.value) (hex_no_colon field.value fits.1),
      name_again field.name fits.0,
      hex_again field.value fits.1,
    ) refl

field_visible : (field : Field) → IsField field → is_word (field_word field) ≡ true
field_visible field fits =
    rw (list_all-append is_visible field.name (codes ":" ++ hex_word field.value), name_passes is_visible field.name lower_visible fits.0) (hex_word_word field.value fits.1)

pub field_codec : IsCodec field_word IsField field_in
field_codec = record { takes = field_takes; again = field_again; word = field_visible }
