use Rattle.std.proofs.Common.{rules, ◌∙◌, ◌%◌}
use Rattle.wasm_num.proofs.Rotations.{rotr_is}
use Rattle.wasm_num.proofs.narrow.rotr.Goals as goal

pub returns : goal.returns
returns c = c.rotate_right.ensures ∙ rotr_is 32 (c.args.b % 32) c.args.a (search rules) (search rules)
