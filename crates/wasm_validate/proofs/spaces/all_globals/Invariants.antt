use Rattle.std.proofs.Common.{◌≡◌, ◌++◌, drop}
use Rattle.wasm_validate.specs.Spaces.{kinds_of}
use Rattle.wasm_validate.proofs.spaces.all_globals.Given as goal

abbrev pub invariant-loop-item : goal.invariant-loop-item
invariant-loop-item l = l.found.items ++ kinds_of (drop l.item-index l.items) ≡ l.imported ++ kinds_of l.items
