use Rattle.std.proofs.Common.{◌≡◌, ◌-◌}
use Rattle.wasm_code.specs.Reading.{many_at}
use Rattle.wasm_code.proofs.Loop.{with_front}
use Rattle.wasm_code.proofs.vectors.many.Given as goal

abbrev pub invariant-loop : goal.invariant-loop
invariant-loop g l = with_front l.items.items (many_at (g.F.Field.reading l.field l.scope) (l.count - l.counter) l.rest) ≡ many_at (g.F.Field.reading l.field l.scope) l.count l.bytes
