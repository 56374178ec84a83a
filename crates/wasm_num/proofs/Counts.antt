-- Counts of zeros and ones.
use Rattle.std.proofs.Common.{◌≡◌, ℕ, zero, suc, ◌+◌, ◌-◌, ◌*◌, ◌/◌, ◌%◌, ◌^◌, ◌<◌, ◌≤◌, sym, ap, ◌∙◌, arith, pow-suc, mul_assoc, zero-add}
use Rattle.std.proofs.Math.Nat.{mul-mod_left}
use lib.Count.{count_leading_zeros, count_trailing_zeros, under, ones, leading_unique, ones_step}

pub leading_at : (n m a : ℕ) → m < n → 2 ^ m ≤ a → a < 2 ^ (m + 1) → count_leading_zeros n a + (m + 1) ≡ n
leading_at n m a inside low high =
    let rest : (n - (m + 1)) + (m + 1) ≡ n = omega arith in
    let twice : 2 ^ (m + 1) ≡ 2 ^ m * 2 = ap (λ (x : ℕ). 2 ^ x) (omega arith) ∙ pow-suc 2 m in
    let above : 2 ^ (m + 1) ≤ 2 * a + 1 = omega arith in
    ap (λ (x : ℕ). x + (m + 1)) (sym (leading_unique n a (n - (m + 1)) (m + 1) rest high above)) ∙ rest

pub trailing_at : (n m d : ℕ) → m < n → count_trailing_zeros n ((2 * d + 1) * 2 ^ m) ≡ m
unfolding count_trailing_zeros
trailing_at zero m d inside = absurd (omega arith)
trailing_at (suc n) zero d inside =
    let odd : ((2 * d + 1) * 1) % 2 ≡ 1 = omega arith in
    ap (λ (x : ℕ). under x (count_trailing_zeros n ((2 * d + 1) * 1 / 2))) odd
trailing_at (suc n) (suc m) d inside =
    let half : ℕ = (2 * d + 1) * 2 ^ m in
    let twice : (2 * d + 1) * 2 ^ suc m ≡ half * 2 = ap (λ (x : ℕ). (2 * d + 1) * x) (pow-suc 2 m) ∙ sym (mul_assoc (2 * d + 1) (2 ^ m) 2) in
    let less : m < n = omega arith in
    let halved : half * 2 / 2 ≡ half = omega arith in
    ap (λ (x : ℕ). under (x % 2) (count_trailing_zeros n (x / 2))) twice
    ∙ ap (λ (x : ℕ). under x (count_trailing_zeros n (half * 2 / 2))) (mul-mod_left half 2)
    ∙ ap (λ (x : ℕ). suc (count_trailing_zeros n x)) halved
    ∙ ap suc (trailing_at n m d less)

pub ones_twice : (n : ℕ) → ones (2 * n) ≡ ones n
ones_twice n =
    let even : 2 * n % 2 ≡ 0 = omega arith in
    let half : 2 * n / 2 ≡ n = omega arith in
    ones_step (2 * n) ∙ ap (λ (x : ℕ). x + ones (2 * n / 2)) even ∙ ap (λ (x : ℕ). 0 + ones x) half ∙ zero-add (ones n)

pub ones_after : (n : ℕ) → ones (2 * n + 1) ≡ ones n + 1
ones_after n =
    let odd : (2 * n + 1) % 2 ≡ 1 = omega arith in
    let half : (2 * n + 1) / 2 ≡ n = omega arith in
    ones_step (2 * n + 1) ∙ ap (λ (x : ℕ). x + ones ((2 * n + 1) / 2)) odd ∙ ap (λ (x : ℕ). 1 + ones x) half ∙ omega arith
