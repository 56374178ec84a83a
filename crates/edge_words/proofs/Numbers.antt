-- Numbers and bytes, read as they are spelled.
use Rattle.std.proofs.Common.{◌≡◌, ◌≢◌, ◌<◌, ◌^◌, ◌+◌, ◌*◌, ◌/◌, ◌%◌, ℕ, Bool, true, false, cond, suc, List, [], ◌∷◌, length, refl, sym, ◌∙◌, ap, subst, Option, None, Some, Result, Ok, Err, arith, ◌⊎◌, inl, inr}
use Rattle.std.specs.Prelude.{bytes_eq, decimal, codes, slice_index}
use Rattle.std.specs.Option.{IfSome}
use Rattle.std.specs.Result.{IfOk}
use Rattle.std.proofs.lemmas.Bool.{and_parts, ltb-true, lt-ltb}
use Rattle.std.proofs.lemmas.Bool.Decides.{nat_tests}
use Rattle.std.proofs.lemmas.Fmt.{decimal_is_IsNumeral, decimal_by_steps}
use Rattle.std.specs.List.{list_all}
use Rattle.std.proofs.lemmas.List.Folds.{list_all-append, list_all_at}
use Rattle.std.proofs.lemmas.Option.{cond_some, same_Some}
use Rattle.std.proofs.lemmas.Slice.Eq.{bytes_eq-Decides}
use Rattle.hex.specs.Hex.{IsBytes, encode_lower, encode_with, lower_digits, decode_of}
use Rattle.hex.specs.declared.error.FromHexError.{FromHexError}
use Rattle.hex.specs.declared.error.FromHexError.TheVariants as memory
use Rattle.hex.proofs.HexLemmas.{decode_of-encode_lower, decode_of-ok, length-encode_with}
use Rattle.edge_words.specs.declared.fault.LineFault.{LineFault}
use Rattle.edge_words.specs.Words.{is_word, is_visible, hex_word}
use Rattle.edge_words.specs.Reading.{Gives, number_in, hex_in, spelled_so, fault_of}

-- ---- tests

pub same_bytes : (a b : List ℕ) → bytes_eq a b ≡ true → a ≡ b
same_bytes a b e = (bytes_eq-Decides a b).0 e

pub bytes_eq_refl : (a : List ℕ) → bytes_eq a a ≡ true
bytes_eq_refl a = (bytes_eq-Decides a a).1 refl

pub other_bytes : (a b : List ℕ) → a ≢ b → bytes_eq a b ≡ false
other_bytes a b ne =
    let with : (t : Bool) → bytes_eq a b ≡ t → bytes_eq a b ≡ false =
    elim [ true ↦ λ e. absurd (ne (same_bytes a b e)) | false ↦ λ e. e ] in with _ refl

pub differs : (a b : List ℕ) → false ≡ bytes_eq a b → a ≡ b → ⊥
differs a b other same = cc (other ∙ (bytes_eq-Decides a b).1 same)

-- ---- numbers

pub number_takes : (word : List ℕ) (n : ℕ) → number_in word ≡ Some n → (word ≡ decimal n) × (n < 2 ^ 64)
unfolding number_in
number_takes word n e =
    let found = cond_some _ _ _ e in
    let tests = and_parts _ _ found.0 in
    (subst (λ (k : ℕ). word ≡ decimal k) found.1 (sym (same_bytes _ _ tests.1)), subst (λ (k : ℕ). k < 2 ^ 64) found.1 (ltb-true _ _ tests.0))

pub number_again : (n : ℕ) → n < 2 ^ 64 → number_in (decimal n) ≡ Some n
unfolding number_in
number_again n fits =
    let value = (decimal_is_IsNumeral n fits).1 in
    rw (value, lt-ltb n (2 ^ 64) fits, bytes_eq_refl (decimal n)) refl

pub number_none : (word : List ℕ) → ((n : ℕ) → n < 2 ^ 64 → word ≡ decimal n → ⊥) → None ≡ number_in word
number_none word none =
    let with : (read : Option ℕ) → number_in word ≡ read → None ≡ read =
    elim [ None ↦ λ _. refl | Some n ↦ λ e. absurd (none n (number_takes word n e).1 (number_takes word n e).0) ] in with _ refl

pub number_word : (n : ℕ) → n < 2 ^ 64 → is_word (decimal n) ≡ true
number_word n fits =
    decimal_by_steps (λ _ digits. is_word digits ≡ true)
    (λ k small. grind (arith, nat_tests))
    (λ k digits big front. rw (list_all-append is_visible digits ((48 + k % 10) ∷ []), front) (grind (arith, nat_tests)))
    n fits

-- ---- bytes

hex_spelled : (word bytes : List ℕ) (read : Result (List ℕ) FromHexError) → decode_of word ≡ read → spelled_so word read ≡ Some bytes → (word ≡ hex_word bytes) × IsBytes bytes
hex_spelled word bytes (Ok found) decoded e =
    let same = cond_some _ _ _ e in
    let P : List ℕ → Type 0 = λ bs. (word ≡ hex_word bs) × IsBytes bs in
    subst P same.1 (sym (same_bytes _ _ same.0), (decode_of-ok word found decoded).3)
hex_spelled word bytes (Err _) decoded e = cc e

pub hex_takes : (word bytes : List ℕ) → hex_in word ≡ Some bytes → (word ≡ hex_word bytes) × IsBytes bytes
unfolding hex_in
hex_takes word bytes e =
    let with : (t : Bool) → bytes_eq word (codes "-") ≡ t → cond t (Some []) (spelled_so word (decode_of word)) ≡ Some bytes → (word ≡ hex_word bytes) × IsBytes bytes =
    elim [
      | true ↦ λ same none.
          let P : List ℕ → Type 0 = λ bs. (word ≡ hex_word bs) × IsBytes bs in
          subst P (same_Some _ _ none) (same_bytes _ _ same, λ i. omega arith)
      | false ↦ λ other spelled. hex_spelled word bytes (decode_of word) refl spelled
    ] in with _ refl e

pub hex_again : (bytes : List ℕ) → IsBytes bytes → hex_in (hex_word bytes) ≡ Some bytes
unfolding hex_in
hex_again [] fits = refl
hex_again (b ∷ bytes) fits =
    let digits : length (encode_lower (b ∷ bytes)) ≡ 2 * length (b ∷ bytes) = length-encode_with lower_digits (b ∷ bytes) in
    let other : encode_lower (b ∷ bytes) ≢ codes "-" = λ e. omega (arith, ap length e) in
    rw (other_bytes _ _ other, decode_of-encode_lower (b ∷ bytes) fits, bytes_eq_refl (encode_lower (b ∷ bytes))) refl

-- a word that is no dash is what its decoding says
hex_decoded : (word : List ℕ) (read : Result (List ℕ) FromHexError) → bytes_eq word (codes "-") ≡ false → decode_of word ≡ read → hex_in word ≡ spelled_so word read
unfolding hex_in
hex_decoded word read other decoded = rw (other, decoded) refl

pub hex_dash : (word bytes : List ℕ) → word ≡ codes "-" → bytes ≡ [] → hex_in word ≡ Some bytes
unfolding hex_in
hex_dash word bytes dash none = rw (dash, none) refl

pub hex_found : (word bytes text : List ℕ) → bytes_eq word (codes "-") ≡ false → decode_of word ≡ Ok bytes → text ≡ hex_word bytes → bytes_eq text word ≡ true → hex_in word ≡ Some bytes
hex_found word bytes text other decoded spelled same =
    hex_decoded word (Ok bytes) other decoded ∙ rw (← spelled, same) refl

pub hex_lost : (word bytes text : List ℕ) → bytes_eq word (codes "-") ≡ false → decode_of word ≡ Ok bytes → text ≡ hex_word bytes → bytes_eq text word ≡ false → hex_in word ≡ None
hex_lost word bytes text other decoded spelled differs =
    hex_decoded word (Ok bytes) other decoded ∙ rw (← spelled, differs) refl

pub hex_fails : {X : Type 0} (view : X → List ℕ) (word : List ℕ) (fault : FromHexError) → bytes_eq word (codes "-") ≡ false → (fault ≡ memory.OutOfMemory) ⊎ (decode_of word ≡ Err fault) → Gives view (Err (fault_of fault)) (hex_in word)
hex_fails view word fault other (inl e) = rw e tt
hex_fails view word fault other (inr decoded) =
    let none : hex_in word ≡ None = hex_decoded word (Err fault) other decoded in
    elim fault as (λ f. Gives view (Err (fault_of f)) (hex_in word)) [ memory.OutOfMemory ↦ tt | _ ↦ none ]

-- what holds of each digit of hexadecimal
digit_passes : (test : ℕ → Bool) (d : ℕ) → list_all test lower_digits ≡ true → d < 16 → test (slice_index lower_digits d) ≡ true
digit_passes test d each small =
    let with : (t : Bool) → test (slice_index lower_digits d) ≡ t → test (slice_index lower_digits d) ≡ true =
    elim [
      | true ↦ λ e. e
      | false ↦ λ e. let all = list_all_at test lower_digits d 0 small e in cc (sym each ∙ all)
    ] in with _ refl

digits_pass : (test : ℕ → Bool) (bytes : List ℕ) → list_all test lower_digits ≡ true → IsBytes bytes → list_all test (encode_lower bytes) ≡ true
unfolding encode_with
digits_pass test [] each fits = refl
digits_pass test (b ∷ bytes) each fits =
    let byte : b < 256 = fits 0 in
    let high = digit_passes test (b / 16) each (omega arith) in
    let low = digit_passes test (b % 16) each (omega arith) in
    rw (high, low) (digits_pass test bytes each (λ i. fits (suc i)))

-- and of the dash holds of bytes in hexadecimal
pub hex_passes : (test : ℕ → Bool) (bytes : List ℕ) → list_all test lower_digits ≡ true → test 45 ≡ true → IsBytes bytes → list_all test (hex_word bytes) ≡ true
hex_passes test [] each dash fits = rw dash refl
hex_passes test (b ∷ bytes) each dash fits = digits_pass test (b ∷ bytes) each fits

pub hex_word_word : (bytes : List ℕ) → IsBytes bytes → is_word (hex_word bytes) ≡ true
hex_word_word bytes fits = hex_passes is_visible bytes refl refl fits

-- ---- what a reader told

pub number_told : (word : List ℕ) (read : Option ℕ) → read ≡ number_in word → IfSome read (λ n. (word ≡ decimal n) × (n < 2 ^ 64))
number_told word None e = tt
number_told word (Some n) e = number_takes word n (sym e)

pub hex_told : {X : Type 0} (view : X → List ℕ) (word : List ℕ) (read : Result X LineFault) → Gives view read (hex_in word) → IfOk read (λ x. word ≡ hex_word (view x))
hex_told view word (Ok x) e = (hex_takes word (view x) e).0
hex_told view word (Err _) e = tt

pub hex_told_again : {X : Type 0} (view : X → List ℕ) (word bytes : List ℕ) (read : Result X LineFault) → Gives view read (hex_in word) → IsBytes bytes → word ≡ hex_word bytes → Gives view read (Some bytes)
hex_told_again view word bytes read e fits spelled = rw (ap hex_in spelled ∙ hex_again bytes fits) at e
