use Rattle.std.proofs.Common.{rules, ℕ, ◌<◌, ◌-◌, ◌*◌, ◌/◌, ◌%◌, ◌^◌, ap, ◌∙◌, bit_or, mod-eq_of_lt, lit<}
use Rattle.std.proofs.lemmas.Nat.{mod_below}
use Rattle.wasm_num.proofs.Rotations.{rotl_is}
use Rattle.wasm_num.proofs.wide.rotl.Goals as goal

pub returns : goal.returns
returns c =
    let small : c.args.b % 64 < 64 = mod_below c.args.b 64 (lit< tt) in
    c.rotate_left.ensures ∙ ap (λ (k : ℕ). bit_or ((c.args.a * 2 ^ k) % 2 ^ 64) (c.args.a / 2 ^ ((64 - k) % 64))) (mod-eq_of_lt small) ∙ rotl_is 64 (c.args.b % 64) c.args.a small (search rules)
