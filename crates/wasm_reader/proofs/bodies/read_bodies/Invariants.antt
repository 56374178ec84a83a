use Rattle.std.proofs.Common.{◌≡◌, ◌-◌}
use Rattle.wasm_code.proofs.Loop.{with_front}
use Rattle.wasm_reader.specs.Sections.{bodies_at}
use Rattle.wasm_reader.proofs.bodies.read_bodies.Given as goal

abbrev pub invariant-loop-index : goal.invariant-loop-index
invariant-loop-index l = with_front l.bodies.items (bodies_at l.types l.functions l.index (l.count - l.index) l.scope l.rest) ≡ bodies_at l.types l.functions 0 l.count l.scope l.bytes
