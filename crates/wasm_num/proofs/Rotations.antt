-- Shifts to both sides, joined, are a rotation.
use Rattle.std.proofs.Common.{◌≡◌, ℕ, zero, suc, ◌+◌, ◌-◌, ◌*◌, ◌/◌, ◌%◌, ◌^◌, ◌<◌, sym, ap, subst, ◌∙◌, bit_or, arith, add-zero, add_comm}
use Rattle.std.proofs.lemmas.Nat.{shl-shr, mod-pow-add, or_shifted, or_comm, shr_below}
use Rattle.std.proofs.Math.Nat.{mul-mod_left, mul-one, div-one, mod_self, mod-one, mod-eq_of_lt, div-eq_of_lt}
use Rattle.std.specs.Int.Bits.{or_self}

-- what is shifted, cut to its lowest bits
cut : (j k a : ℕ) → (a * 2 ^ k) % 2 ^ (j + k) ≡ a % 2 ^ j * 2 ^ k
cut j k a =
    mod-pow-add (a * 2 ^ k) j k
    ∙ ap (λ (x : ℕ). x % 2 ^ j * 2 ^ k + a * 2 ^ k % 2 ^ k) (shl-shr a k)
    ∙ ap (λ (x : ℕ). a % 2 ^ j * 2 ^ k + x) (mul-mod_left a (2 ^ k))
    ∙ add-zero (a % 2 ^ j * 2 ^ k)

turned : (j k n a : ℕ) → j + k ≡ n → a < 2 ^ n → bit_or ((a * 2 ^ k) % 2 ^ n) (a / 2 ^ j) ≡ a % 2 ^ j * 2 ^ k + a / 2 ^ j
turned j k n a e below =
    let within : a < 2 ^ (k + j) = subst (λ (x : ℕ). a < 2 ^ x) (sym e ∙ add_comm j k) below in
    ap (λ (x : ℕ). bit_or ((a * 2 ^ k) % 2 ^ x) (a / 2 ^ j)) (sym e)
    ∙ ap (λ (x : ℕ). bit_or x (a / 2 ^ j)) (cut j k a)
    ∙ or_shifted (a % 2 ^ j) k (a / 2 ^ j) (shr_below a k j within)

-- a shift by nothing
unshifted : (n a : ℕ) → a < 2 ^ n → (a * 2 ^ 0) % 2 ^ n ≡ a
unshifted n a below = ap (λ (x : ℕ). x % 2 ^ n) (mul-one a) ∙ mod-eq_of_lt below

pub rotl_is : (n k a : ℕ) → k < n → a < 2 ^ n → bit_or ((a * 2 ^ k) % 2 ^ n) (a / 2 ^ ((n - k) % n)) ≡ a % 2 ^ (n - k) * 2 ^ k + a / 2 ^ (n - k)
rotl_is n zero a less below =
    let whole : n - 0 ≡ n = omega arith in
    let full : (n - 0) % n ≡ 0 = ap (λ (x : ℕ). x % n) whole ∙ mod_self n in
    ap (λ (x : ℕ). bit_or x (a / 2 ^ ((n - 0) % n))) (unshifted n a below)
    ∙ ap (λ (x : ℕ). bit_or a (a / 2 ^ x)) full
    ∙ ap (λ (x : ℕ). bit_or a x) (div-one a)
    ∙ or_self a
    ∙ sym (ap (λ (x : ℕ). a % 2 ^ x * 1 + a / 2 ^ x) whole
    ∙ ap (λ (x : ℕ). x * 1 + a / 2 ^ n) (mod-eq_of_lt below)
    ∙ ap (λ (x : ℕ). a * 1 + x) (div-eq_of_lt below)
    ∙ omega arith)
rotl_is n (suc k) a less below =
    let within : n - suc k < n = omega arith in
    let whole : (n - suc k) + suc k ≡ n = omega arith in
    ap (λ (x : ℕ). bit_or ((a * 2 ^ suc k) % 2 ^ n) (a / 2 ^ x)) (mod-eq_of_lt within) ∙ turned (n - suc k) (suc k) n a whole below

pub rotr_is : (n k a : ℕ) → k < n → a < 2 ^ n → bit_or (a / 2 ^ k) ((a * 2 ^ ((n - k) % n)) % 2 ^ n) ≡ a % 2 ^ k * 2 ^ (n - k) + a / 2 ^ k
rotr_is n zero a less below =
    let whole : n - 0 ≡ n = omega arith in
    let full : (n - 0) % n ≡ 0 = ap (λ (x : ℕ). x % n) whole ∙ mod_self n in
    ap (λ (x : ℕ). bit_or (a / 1) ((a * 2 ^ x) % 2 ^ n)) full
    ∙ ap (λ (x : ℕ). bit_or (a / 1) x) (unshifted n a below)
    ∙ ap (λ (x : ℕ). bit_or x a) (div-one a)
    ∙ or_self a
    ∙ sym (ap (λ (x : ℕ). x * 2 ^ (n - 0) + a / 1) (mod-one a) ∙ ap (λ (x : ℕ). 0 * 2 ^ (n - 0) + x) (div-one a) ∙ omega arith)
rotr_is n (suc k) a less below =
    let within : n - suc k < n = omega arith in
    let whole : suc k + (n - suc k) ≡ n = omega arith in
    ap (λ (x : ℕ). bit_or (a / 2 ^ suc k) ((a * 2 ^ x) % 2 ^ n)) (mod-eq_of_lt within)
    ∙ or_comm (a / 2 ^ suc k) ((a * 2 ^ (n - suc k)) % 2 ^ n)
    ∙ turned (suc k) (n - suc k) n a whole below
