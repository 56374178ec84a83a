use Rattle.std.proofs.Common.{◌≡◌, ◌++◌, drop}
use Rattle.wasm_flat.proofs.Zeros.{zeros_of}
use Rattle.wasm_flat.proofs.cells.Cells.extend_zeros.Given as goal

abbrev pub invariant-loop-group : goal.invariant-loop-group
invariant-loop-group l = l.self ++ zeros_of (drop l.group-index l.groups) ≡ l.fn.self ++ zeros_of l.groups
