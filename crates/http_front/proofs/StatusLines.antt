-- Names are tokens, a status has three digits, and a phrase has no control byte.
use Rattle.std.proofs.Common.{◌≡◌, ℕ, zero, suc, ◌+◌, ◌/◌, ◌%◌, ◌<◌, Bool, true, false, ◌&&◌, ◌||◌, IsTrue, [], ◌∷◌, refl, arith, unwrap_or}
use Rattle.std.specs.List.{list_all}
use Rattle.std.specs.Char.{is_ascii_digit, is_ascii_alphanumeric, digit_value}
use Rattle.std.specs.Str.Parse.{digits_value}
use Rattle.std.proofs.Math.Bool.{or-true}
use Rattle.std.proofs.lemmas.Grind.{common_steps}
use Rattle.std.proofs.lemmas.Bool.Decides.{nat_tests, Decides-below_and}
use Rattle.std.proofs.lemmas.List.Elements.{All-nil, All-cons}
use Rattle.std.proofs.lemmas.List.Sums.{AllPass-from_list_all}
use Rattle.httparse.specs.Grammar.{AllPass, is_token_byte, is_value_byte}
use Rattle.cache_types.specs.Limits.{is_from_to, is_token_mark, is_name_byte}
use Rattle.edge_body.specs.Heads.{is_status}
use Rattle.http.specs.StatusCode.{code_digits, reason_phrase}

name_alone : (b : ℕ) → (is_from_to 97 122 b || (is_from_to 48 57 b || false)) ≡ true → is_ascii_alphanumeric b ≡ true
name_alone b x = grind (nat_tests, arith, common_steps)

pub name_is_token : (b : ℕ) → is_name_byte b ≡ true → is_token_byte b ≡ true
unfolding is_token_byte
name_is_token b x =
    let at : (t : Bool) → is_token_mark b ≡ t → is_token_byte b ≡ true = elim [
      | true ↦ λ e. rw e (or-true (is_ascii_alphanumeric b))
      | false ↦ λ e. rw (name_alone b (rw e at x)) refl
    ] in
    at (is_token_mark b) refl

-- three digits
glyph : (d : ℕ) → d < 10 → is_ascii_digit (48 + d) ≡ true
glyph d small = grind (nat_tests, arith, common_steps)

pub code_is_digits : (n : ℕ) → n < 1000 → AllPass is_ascii_digit (code_digits n)
code_is_digits n small =
    let P : ℕ → Type 0 = λ b. IsTrue (is_ascii_digit b) in
    All-cons P (48 + n / 100) ((48 + n / 10 % 10) ∷ (48 + n % 10) ∷ []) (glyph (n / 100) (omega (arith, small)))
    (All-cons P (48 + n / 10 % 10) ((48 + n % 10) ∷ []) (glyph (n / 10 % 10) (omega arith))
    (All-cons P (48 + n % 10) [] (glyph (n % 10) (omega arith)) (All-nil P)))

digit_back : (d : ℕ) → d < 10 → digit_value (48 + d) ≡ d
digit_back d small = grind (nat_tests, arith, common_steps)

pub code_back : (n : ℕ) → n < 1000 → digits_value 10 (code_digits n) ≡ n
code_back n small =
    rw (digit_back (n / 100) (omega (arith, small)), digit_back (n / 10 % 10) (omega arith), digit_back (n % 10) (omega arith)) (omega (arith, small))

abbrev phrase_passes : ℕ → Bool
phrase_passes n = list_all is_value_byte (unwrap_or (reason_phrase n) [])

abbrev phrases_pass : ℕ → Bool
phrases_pass zero = true
phrases_pass (suc n) = phrase_passes n && phrases_pass n

pub phrase_is : (n : ℕ) → n < 1000 → AllPass is_value_byte (unwrap_or (reason_phrase n) [])
phrase_is n small =
    AllPass-from_list_all is_value_byte _
    ((Decides-below_and phrase_passes (λ k. phrase_passes k ≡ true) phrases_pass (λ k. (λ x. x, λ x. x)) refl (λ _. refl) 1000).0 refl n small)

pub status_small : (status : ℕ) → is_status status ≡ true → status < 1000
status_small status x = grind (nat_tests, arith, common_steps)
