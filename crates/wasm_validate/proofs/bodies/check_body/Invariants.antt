use Rattle.std.proofs.Common.{◌≡◌, ◌≤◌, Some, drop}
use Rattle.wasm_validate.specs.Operands.{stacked}
use Rattle.wasm_validate.specs.Scanning.{scan, outset}
use Rattle.wasm_validate.proofs.bodies.check_body.Given as goal

abbrev pub invariant-loop-instr : goal.invariant-loop-instr
invariant-loop-instr l = record {
  limit : stacked l.checker.current.operands ≤ 1024;
  number : l.checker.number ≤ l.instr-index;
  so_far : scan (drop l.instr-index l.code) l.context (Some l.checker) ≡ scan l.code l.context (Some (outset l.context.result));
}
