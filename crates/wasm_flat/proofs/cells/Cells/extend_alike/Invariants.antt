use Rattle.std.proofs.Common.{◌≡◌, ◌++◌, replicate}
use Rattle.wasm_meaning.specs.Kinds.{zero_of}
use Rattle.wasm_flat.proofs.cells.Cells.extend_alike.Given as goal

abbrev pub invariant-loop : goal.invariant-loop
invariant-loop l = l.self ≡ l.initial.self ++ replicate l.counter (zero_of l.kind)
