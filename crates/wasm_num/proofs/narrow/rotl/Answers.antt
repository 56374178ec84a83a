use Rattle.std.proofs.Common.{rules, ◌∙◌, ◌%◌}
use Rattle.wasm_num.proofs.Rotations.{rotl_is}
use Rattle.wasm_num.proofs.narrow.rotl.Goals as goal

pub returns : goal.returns
returns c = c.rotate_left.ensures ∙ rotl_is 32 (c.args.b % 32) c.args.a (search rules) (search rules)
