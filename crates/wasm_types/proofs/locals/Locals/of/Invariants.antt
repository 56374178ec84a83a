use Rattle.std.proofs.Common.{◌≡◌, take}
use Rattle.wasm_types.proofs.locals.Locals.of.Given as goal

abbrev pub invariant-loop-kind : goal.invariant-loop-kind
invariant-loop-kind l = l.locals ≡ take l.kind-index l.kinds
