-- Lengths as they are written: a reader gets one below 2^64 back from its at most 16 hexadecimal digits, and decimal
-- digits are no blanks.
use Rattle.std.proofs.Common.{◌≡◌, ℕ, zero, suc, ◌+◌, ◌*◌, ◌/◌, ◌%◌, ◌^◌, ◌==◌, ◌<◌, ◌≤◌, Bool, true, false, IsTrue, List, [], ◌∷◌, length, refl, arith, decimal}
use Rattle.std.specs.Char.{is_ascii_digit, is_ascii_hexdigit}
use Rattle.std.specs.Fmt.{digits, digits_onto, digit_glyph}
use Rattle.std.specs.Str.Parse.{digits_value, IsNumeral}
use Rattle.std.proofs.lemmas.Grind.{common_steps}
use Rattle.std.proofs.lemmas.Bool.Decides.{nat_tests}
use Rattle.std.proofs.lemmas.List.Elements.{All-nil, All-cons}
use Rattle.std.proofs.lemmas.Fmt.{digits_is_IsNumeral}
use Rattle.httparse.specs.Grammar.{AllPass}

hex_glyph : (d : ℕ) → d < 16 → is_ascii_hexdigit (digit_glyph false d) ≡ true
hex_glyph d small = grind (nat_tests, arith, common_steps)

hex_onto : (k n : ℕ) (acc : List ℕ) → AllPass is_ascii_hexdigit acc → AllPass is_ascii_hexdigit (digits_onto k 16 false n acc)
hex_onto zero n acc pass = pass
hex_onto (suc k) n acc pass =
    let more = All-cons (λ b. IsTrue (is_ascii_hexdigit b)) (digit_glyph false (n % 16)) acc (hex_glyph (n % 16) (omega arith)) pass in
    let at : (t : Bool) → (n / 16 == 0) ≡ t → AllPass is_ascii_hexdigit (digits_onto (suc k) 16 false n acc) = elim [
      | true ↦ λ e. rw e more
      | false ↦ λ e. rw e (hex_onto k (n / 16) (digit_glyph false (n % 16) ∷ acc) more)
    ] in
    at (n / 16 == 0) refl

-- how many numbers so many digits write
abbrev sixteens : ℕ → ℕ
sixteens zero = 1
sixteens (suc j) = 16 * sixteens j

quotient : (n m : ℕ) → n < 16 * m → n / 16 < m
quotient n m small = omega (arith, small)

short_onto : (k j n : ℕ) (acc : List ℕ) → n < sixteens (suc j) → length (digits_onto k 16 false n acc) ≤ length acc + suc j
short_onto zero j n acc small = omega arith
short_onto (suc k) zero n acc small =
    let none : (n / 16 == 0) ≡ true = grind (nat_tests, arith, common_steps) in
    rw none (omega arith)
short_onto (suc k) (suc j) n acc small =
    let at : (t : Bool) → (n / 16 == 0) ≡ t → length (digits_onto (suc k) 16 false n acc) ≤ length acc + suc (suc j) = elim [
      | true ↦ λ e. rw e (omega arith)
      | false ↦ λ e. rw e (omega (arith, short_onto k j (n / 16) (digit_glyph false (n % 16) ∷ acc) (quotient n (sixteens (suc j)) small)))
    ] in
    at (n / 16 == 0) refl

pub short_digits : (n : ℕ) → n < 2 ^ 64 → length (digits 16 false n) ≤ 16
unfolding digits
short_digits n small =
    let all : n < sixteens 16 = omega (arith, small) in
    short_onto 64 15 n [] all

pub hex_digits : (n : ℕ) → AllPass is_ascii_hexdigit (digits 16 false n)
unfolding digits
hex_digits n = hex_onto 64 n [] (All-nil (λ b. IsTrue (is_ascii_hexdigit b)))

wide : (n : ℕ) → n < 2 ^ 64 → n < 16 ^ 64
wide n small = omega (arith, small)

pub hex_back : (n : ℕ) → n < 2 ^ 64 → IsNumeral 16 (digits 16 false n) × (digits_value 16 (digits 16 false n) ≡ n)
hex_back n small = digits_is_IsNumeral 16 false (omega arith) (omega arith) n (wide n small)

dec_glyph : (d : ℕ) → d < 10 → is_ascii_digit (digit_glyph false d) ≡ true
dec_glyph d small = grind (nat_tests, arith, common_steps)

dec_onto : (k n : ℕ) (acc : List ℕ) → AllPass is_ascii_digit acc → AllPass is_ascii_digit (digits_onto k 10 false n acc)
dec_onto zero n acc pass = pass
dec_onto (suc k) n acc pass =
    let more = All-cons (λ b. IsTrue (is_ascii_digit b)) (digit_glyph false (n % 10)) acc (dec_glyph (n % 10) (omega arith)) pass in
    let at : (t : Bool) → (n / 10 == 0) ≡ t → AllPass is_ascii_digit (digits_onto (suc k) 10 false n acc) = elim [
      | true ↦ λ e. rw e more
      | false ↦ λ e. rw e (dec_onto k (n / 10) (digit_glyph false (n % 10) ∷ acc) more)
    ] in
    at (n / 10 == 0) refl

pub decimal_digits : (n : ℕ) → AllPass is_ascii_digit (decimal n)
unfolding digits
decimal_digits n = dec_onto 64 n [] (All-nil (λ b. IsTrue (is_ascii_digit b)))
