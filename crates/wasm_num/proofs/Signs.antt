-- Signed shifts and remainders, on bits.
use Rattle.std.proofs.Common.{◌≡◌, ℕ, zero, suc, ◌+◌, ◌-◌, ◌*◌, ◌/◌, ◌%◌, ◌^◌, ◌<◌, ◌≤◌, ◌⊎◌, inl, inr, refl, sym, ap, subst, ◌∙◌, arith, pow-suc, pow_pos, mod-lt, add-mul, one-mul, zero-lt-suc, lt_of_le_of_lt, div-lt_iff_lt-mul, Bool, true, false, true≢false, ltb, ◌==◌, if◌then◌else◌, ℤ, pos, negsuc, neg_ℤ, nat_abs, ◌+ℤ◌, ◌*ℤ◌, to_z, of_z, SFits, Result, Ok, Err}
use Rattle.std.proofs.lemmas.Int.{to_z-of_z, quot-rem, rem_below}
use Rattle.std.proofs.lemmas.Nat.{div-add-mod', pow-add}
use Rattle.std.proofs.Math.Nat.{div-eq_of_lt-le, div-le_self}
use Rattle.std.proofs.Math.Facts.{sfits_to_z}
use Rattle.std.specs.Int.{Width, w8, w16, w32, w64, w128}
use Rattle.std.specs.Int.RustNames.{int_rem, int_div}
use Rattle.wasm_num.specs.Numbers.{irem_s, is_minus}
use Rattle.std.proofs.Math.Dec.{eqb-suc-zero}
use Rattle.wasm_types.specs.declared.values.TrapKind.{TrapKind}
use Rattle.wasm_types.specs.declared.values.TrapKind.TheVariants.{DivideByZero}
use lib.Signed.{mag_rem, shr_z}
use mir.Val.{bits, hbits, sel}
use mir.ValLaws.{to_z-neg}

-- half of the numbers
pub half_bits : (w : Width) → bits w ≡ suc (hbits w)
half_bits w8 = refl
half_bits w16 = refl
half_bits w32 = refl
half_bits w64 = refl
half_bits w128 = refl

pub below_half : (w : Width) (a : ℕ) → a < 2 ^ (bits w - 1) → a < 2 ^ hbits w
below_half w a = subst (λ (x : ℕ). a < 2 ^ x) (let e : bits w - 1 ≡ hbits w = omega (arith, half_bits w) in e)

-- a number and its complement, both divided
shared : (a m p q : ℕ) → 0 < p → a + m + 1 ≡ q * p → m / p + (a / p + 1) ≡ q
shared a m p q positive whole =
    let high : ℕ = a / p in
    let rest : ℕ = a % p in
    let split : high * p + rest ≡ a = div-add-mod' a p in
    let small : rest < p = mod-lt a positive in
    let less : a < q * p = omega arith in
    let inside : high < q = (div-lt_iff_lt-mul positive).1 less in
    let k : ℕ = q - (high + 1) in
    let sum : q ≡ k + (high + 1) = omega arith in
    let parts : q * p ≡ k * p + (high * p + p) =
    ap (λ (x : ℕ). x * p) sum ∙ add-mul k (high + 1) p ∙ ap (λ (x : ℕ). k * p + x) (add-mul high 1 p ∙ ap (λ (x : ℕ). high * p + x) (one-mul p)) in
    let next : (k + 1) * p ≡ k * p + p = add-mul k 1 p ∙ ap (λ (x : ℕ). k * p + x) (one-mul p) in
    let low : k * p ≤ m = omega arith in
    let above : m < (k + 1) * p = omega arith in
    let found : m / p ≡ k = div-eq_of_lt-le p low above in
    omega arith

pub shifted_minus : (w : Width) (a k : ℕ) → k ≤ bits w → 2 ^ hbits w ≤ a → a < 2 ^ bits w
    → of_z w (shr_z (to_z w a) (2 ^ k)) + 2 ^ (bits w - k) ≡ a / 2 ^ k + 2 ^ bits w
shifted_minus w a k within low high =
    let m : ℕ = 2 ^ bits w - suc a in
    let twice : 2 ^ bits w ≡ 2 ^ hbits w * 2 = ap (λ (x : ℕ). 2 ^ x) (half_bits w) ∙ pow-suc 2 (hbits w) in
    let small : m < 2 ^ hbits w = omega arith in
    let turned : a ≡ 2 ^ bits w - suc m = omega arith in
    let seen : to_z w a ≡ negsuc m = ap (to_z w) turned ∙ to_z-neg w m small in
    let product : 2 ^ bits w ≡ 2 ^ (bits w - k) * 2 ^ k = ap (λ (x : ℕ). 2 ^ x) (let e : bits w ≡ (bits w - k) + k = omega arith in e) ∙ pow-add 2 (bits w - k) k in
    let whole : a + m + 1 ≡ 2 ^ (bits w - k) * 2 ^ k = (let e : a + m + 1 ≡ 2 ^ bits w = omega arith in e) ∙ product in
    let both : m / 2 ^ k + (a / 2 ^ k + 1) ≡ 2 ^ (bits w - k) = shared a m (2 ^ k) (2 ^ (bits w - k)) (pow_pos k) whole in
    let less : m / 2 ^ k ≤ m = div-le_self m (2 ^ k) in
    let last : (2 ^ bits w - suc (m / 2 ^ k)) + 2 ^ (bits w - k) ≡ a / 2 ^ k + 2 ^ bits w = omega arith in
    ap (λ (z : ℤ). of_z w (shr_z z (2 ^ k)) + 2 ^ (bits w - k)) seen ∙ last

-- ---- remainders

sign_of_minus : (v : ℕ) → (neg_ℤ (pos v) ≡ pos 0) ⊎ (is_minus (neg_ℤ (pos v)) ≡ true)
sign_of_minus zero = inl refl
sign_of_minus (suc v) = inr refl

sign_of_rem : (x y : ℤ) → (int_rem x y ≡ pos 0) ⊎ (is_minus (int_rem x y) ≡ is_minus x)
sign_of_rem (pos a) y = inr refl
sign_of_rem (negsuc m) y = sign_of_minus (suc m % nat_abs y)

above_zero : (w : Width) (n : ℕ) → 0 < nat_abs (to_z w (suc n))
above_zero w n = elim (ltb (suc n) (2 ^ hbits w)) as (λ c. 0 < nat_abs (sel c (pos (suc n)) (negsuc (2 ^ bits w - suc (suc n))))) [
  | true ↦ zero-lt-suc n
  | false ↦ zero-lt-suc (2 ^ bits w - suc (suc n))
]

signed_of : (w : Width) (z : ℤ) (r : ℕ) (x : ℤ) → (z ≡ pos 0) ⊎ (is_minus z ≡ is_minus x) → of_z w z ≡ r → to_z w r ≡ z → (r ≡ 0) ⊎ (is_minus (to_z w r) ≡ is_minus x)
signed_of w z r x (inl none) bits_are back = inl (sym bits_are ∙ ap (of_z w) none)
signed_of w z r x (inr same) bits_are back = inr (ap is_minus back ∙ same)

undivided : (b : Bool) (t : Result ℕ TrapKind) (r : ℕ) → b ≡ false → (if b then Err DivideByZero else t) ≡ Ok r → t ≡ Ok r
undivided true t r fails e = absurd (true≢false fails)
undivided false t r fails e = e

pub remains : (w : Width) (a b r : ℕ) → a < 2 ^ bits w → b < 2 ^ bits w → irem_s w a b ≡ Ok r
    → (q : ℤ) × (q *ℤ to_z w b +ℤ to_z w r ≡ to_z w a) × (nat_abs (to_z w r) < nat_abs (to_z w b)) × ((r ≡ 0) ⊎ (is_minus (to_z w r) ≡ is_minus (to_z w a)))
remains w a zero r la lb e = cc
remains w a (suc n) r la lb e =
    let x : ℤ = to_z w a in
    let y : ℤ = to_z w (suc n) in
    let fit : SFits w x = sfits_to_z {w = w} {n = a} (record { fits = la }) in
    let fits : SFits w (int_rem x y) = record { sfits = lt_of_le_of_lt (mag_rem x y) fit.sfits } in
    let nonzero : (suc n == 0) ≡ false = eqb-suc-zero n in
    let given : Ok (of_z w (int_rem x y)) ≡ Ok r = undivided (suc n == 0) (Ok (of_z w (int_rem x y))) r nonzero e in
    let bits_are : of_z w (int_rem x y) ≡ r = cc in
    let back : to_z w r ≡ int_rem x y = ap (to_z w) (sym bits_are) ∙ to_z-of_z w (int_rem x y) fits in (
      int_div x y,
      ap (λ (z : ℤ). int_div x y *ℤ y +ℤ z) back ∙ quot-rem x y,
      subst (λ (z : ℤ). nat_abs z < nat_abs y) (sym back) (rem_below x y (above_zero w n)),
      signed_of w (int_rem x y) r x (sign_of_rem x y) bits_are back,
    )
