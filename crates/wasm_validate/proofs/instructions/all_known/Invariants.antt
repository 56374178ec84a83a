use Rattle.std.proofs.Common.{◌≡◌, drop}
use Rattle.wasm_validate.specs.Rules.{all_known}
use Rattle.wasm_validate.proofs.instructions.all_known.Given as goal

abbrev pub invariant-loop-index : goal.invariant-loop-index
invariant-loop-index l = all_known l.labels (drop l.index-index l.indices) ≡ all_known l.labels l.indices
