use Rattle.std.proofs.Common.{◌≡◌, drop}
use Rattle.wasm_validate.specs.Rules.{all_same}
use Rattle.wasm_validate.proofs.instructions.all_same.Given as goal

abbrev pub invariant-loop-index : goal.invariant-loop-index
invariant-loop-index l = all_same l.labels l.kind (drop l.index-index l.indices) ≡ all_same l.labels l.kind l.indices
