use Rattle.std.proofs.Common.{◌≡◌, ◌++◌, drop}
use Rattle.wasm_types.specs.Locals.{locals_of}
use Rattle.wasm_types.proofs.locals.Locals.add_to.Given as goal

abbrev pub invariant-loop-group : goal.invariant-loop-group
invariant-loop-group l = l.kinds.items ++ locals_of (drop l.group-index l.groups) ≡ l.fn.kinds.items ++ locals_of l.groups
