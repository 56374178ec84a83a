use Rattle.std.proofs.Common.{◌≡◌, ℕ, ◌-◌, ◌%◌, ◌^◌, ◌<◌, ◌≤◌, ap, subst, arith, ℤ, of_z}
use Rattle.std.proofs.lemmas.Int.{to_z_pos}
use Rattle.std.proofs.lemmas.Nat.{mod_below}
use Rattle.wasm_num.specs.Numbers.{size}
use Rattle.wasm_num.proofs.Signs.{below_half, half_bits, shifted_minus}
use Rattle.wasm_num.proofs.laws.shifts_the_sign.Goals as goal
use lib.Signed.{shr_z}
use mir.Val.{hbits, bits}

pub returns-clause-plus : goal.returns-clause-plus
returns-clause-plus c w a b small = ap (λ (z : ℤ). of_z w (shr_z z (2 ^ (b % size w)))) (to_z_pos w a (below_half w a small))

pub returns-clause-minus : goal.returns-clause-minus
returns-clause-minus c w a b low high =
    let half : bits w - 1 ≡ hbits w = omega (arith, half_bits w) in
    let some : 0 < bits w = omega (arith, half_bits w) in
    let count : b % bits w < bits w = mod_below b (bits w) some in
    shifted_minus w a (b % size w) (omega arith) (subst (λ (x : ℕ). 2 ^ x ≤ a) half low) high
