use Rattle.std.proofs.Common.{◌≡◌, drop}
use Rattle.wasm_validate.specs.Parts.{all_below}
use Rattle.wasm_validate.proofs.parts.all_below.Given as goal

abbrev pub invariant-loop-index : goal.invariant-loop-index
invariant-loop-index l = all_below l.count (drop l.index-index l.indices) ≡ all_below l.count l.indices
