use Rattle.std.proofs.Common.{◌≡◌, ◌-◌, ◌≤◌, [], length}
use Rattle.wasm_reader.specs.Sections.{locals_from}
use Rattle.wasm_reader.proofs.bodies.read_all_groups.Given as goal

abbrev pub invariant-loop : goal.invariant-loop
invariant-loop l = (locals_from l.params l.locals (l.count - l.counter) l.scope l.rest ≡ locals_from l.params [] l.count l.scope l.bytes) × (l.len ≡ length l.locals) × (l.len ≤ 4096)
