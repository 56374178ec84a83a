use Rattle.std.proofs.Common.{◌≡◌, map}
use Rattle.wasm_writer.proofs.build.guest.Given as goal

abbrev pub invariant-loop-kind : goal.invariant-loop-kind
invariant-loop-kind l = (l.kinds.items ≡ map (λ f. f.0) l.yielded) × (l.code.items ≡ map (λ f. f.1) l.yielded)
