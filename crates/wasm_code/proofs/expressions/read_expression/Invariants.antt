use Rattle.std.proofs.Common.{◌≡◌, ◌-◌, length}
use Rattle.wasm_code.specs.Instructions.{instrs_at, expression_at}
use Rattle.wasm_code.proofs.Loop.{with_front}
use Rattle.wasm_code.proofs.expressions.read_expression.Given as goal

abbrev pub invariant-loop : goal.invariant-loop
invariant-loop l = with_front l.code.items (instrs_at (length l.bytes - l.counter) l.opens.items l.scope l.rest) ≡ expression_at l.scope l.bytes
