use Rattle.std.proofs.Common.{ℕ, ◌+◌, ◌-◌, ◌*◌, ◌/◌, ◌%◌, ◌^◌, ap, ◌∙◌}
use Rattle.std.proofs.lemmas.Nat.{shr_high, mod_low}
use Rattle.wasm_num.specs.Numbers.{size}
use Rattle.wasm_num.proofs.laws.rotates_right.Goals as goal

pub returns : goal.returns
returns c w high low b below =
    let k : ℕ = b % size w in
    let j : ℕ = size w - b % size w in
    ap (λ (x : ℕ). x * 2 ^ j + (high * 2 ^ k + low) / 2 ^ k) (mod_low high k low below) ∙ ap (λ (x : ℕ). low * 2 ^ j + x) (shr_high high k low below)
