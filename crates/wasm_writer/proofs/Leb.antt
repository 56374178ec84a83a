-- Numbers byte by byte.
use Rattle.std.proofs.Common.{◌≡◌, ℕ, zero, suc, ◌+◌, ◌/◌, ◌<◌, ◌≤◌, Bool, ltb, List, [], ◌∷◌, ◌++◌, append_assoc, ◌∙◌, refl, ap, inl, inr, arith}
use Rattle.std.specs.Prelude.{◌%◌}
use Rattle.std.proofs.lemmas.Bool.{cases_Bool, ltb-false, lt-ltb, le-ltb}
use Rattle.wasm_writer.specs.Numbers.{unsigned_within, number_text, seven_bits, signed_within, signed_text}

-- ---- unsigned

-- any bound that is no less than the number gives the same bytes
unsigned_enough : (f g n : ℕ) → n ≤ f → n ≤ g → unsigned_within f n ≡ unsigned_within g n
unsigned_enough zero zero n p q = refl
unsigned_enough zero (suc g) n p q = let e : n ≡ 0 = omega (arith, p) in rw e refl
unsigned_enough (suc f) zero n p q = let e : n ≡ 0 = omega (arith, q) in rw e refl
unsigned_enough (suc f) (suc g) n p q =
    elim (cases_Bool (ltb n 128)) [
      | inl low ↦ rw low refl
      | inr high ↦
          let more = ltb-false n 128 high in
          rw high (ap (λ (bytes : List ℕ). (128 + n % 128) ∷ bytes) (unsigned_enough f g (n / 128) (omega (arith, p, more)) (omega (arith, q, more))))
    ]

pub number_last : (n : ℕ) → n < 128 → number_text n ≡ n ∷ []
unfolding number_text
number_last zero p = refl
number_last (suc n) p = let low = lt-ltb (suc n) 128 p in rw low refl

pub number_step : (n : ℕ) → 128 ≤ n → number_text n ≡ (128 + n % 128) ∷ number_text (n / 128)
unfolding number_text
number_step zero p = absurd (omega (arith, p))
number_step (suc n) p =
    let high = le-ltb (suc n) 128 p in
    rw high (ap (λ (bytes : List ℕ). (128 + suc n % 128) ∷ bytes) (unsigned_enough n (suc n / 128) (suc n / 128) (omega (arith, p)) (omega arith)))

-- ---- signed

signed_enough : (negative : Bool) (f g n : ℕ) → n ≤ f → n ≤ g → signed_within negative f n ≡ signed_within negative g n
signed_enough negative zero zero n p q = refl
signed_enough negative zero (suc g) n p q = let e : n ≡ 0 = omega (arith, p) in rw e refl
signed_enough negative (suc f) zero n p q = let e : n ≡ 0 = omega (arith, q) in rw e refl
signed_enough negative (suc f) (suc g) n p q =
    elim (cases_Bool (ltb n 64)) [
      | inl low ↦ rw low refl
      | inr high ↦
          let more = ltb-false n 64 high in
          rw high (ap (λ (bytes : List ℕ). (128 + seven_bits negative (n % 128)) ∷ bytes) (signed_enough negative f g (n / 128) (omega (arith, p, more)) (omega (arith, q, more))))
    ]

pub signed_last : (negative : Bool) (n : ℕ) → n < 64 → signed_text negative n ≡ seven_bits negative n ∷ []
unfolding signed_text
signed_last negative zero p = refl
signed_last negative (suc n) p = let low = lt-ltb (suc n) 64 p in rw low refl

pub signed_step : (negative : Bool) (n : ℕ) → 64 ≤ n → signed_text negative n ≡ (128 + seven_bits negative (n % 128)) ∷ signed_text negative (n / 128)
unfolding signed_text
signed_step negative zero p = absurd (omega (arith, p))
signed_step negative (suc n) p =
    let high = le-ltb (suc n) 64 p in
    rw high (ap (λ (bytes : List ℕ). (128 + seven_bits negative (suc n % 128)) ∷ bytes) (signed_enough negative n (suc n / 128) (suc n / 128) (omega (arith, p)) (omega arith)))

-- ---- loops: one more byte of a text that is being written

pub goes_on : (old new text whole : List ℕ) (byte : ℕ) → new ≡ old ++ (byte ∷ []) → old ++ (byte ∷ text) ≡ whole → new ++ text ≡ whole
goes_on old new text whole byte p q = rw p (append_assoc old (byte ∷ []) text ∙ q)
