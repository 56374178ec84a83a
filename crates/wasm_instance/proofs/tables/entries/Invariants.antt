use Rattle.std.proofs.Common.{◌≡◌, take, map, Some}
use Rattle.wasm_instance.proofs.tables.entries.Given as goal

abbrev pub invariant-loop-function : goal.invariant-loop-function
invariant-loop-function l = l.entries.items ≡ map Some (take l.function-index l.functions)
