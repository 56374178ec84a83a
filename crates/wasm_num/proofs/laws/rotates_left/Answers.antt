use Rattle.std.proofs.Common.{ℕ, ◌+◌, ◌-◌, ◌*◌, ◌/◌, ◌%◌, ◌^◌, ap, ◌∙◌}
use Rattle.std.proofs.lemmas.Nat.{shr_high, mod_low}
use Rattle.wasm_num.specs.Numbers.{size}
use Rattle.wasm_num.proofs.laws.rotates_left.Goals as goal

pub returns : goal.returns
returns c w high low b below =
    let k : ℕ = b % size w in
    let j : ℕ = size w - b % size w in
    ap (λ (x : ℕ). x * 2 ^ k + (high * 2 ^ j + low) / 2 ^ j) (mod_low high j low below) ∙ ap (λ (x : ℕ). low * 2 ^ k + x) (shr_high high j low below)
