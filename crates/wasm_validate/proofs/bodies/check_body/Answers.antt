use Rattle.std.proofs.Common.{◌+◌, Some, None, drop, refl, sym, ◌∙◌, arith}
use Rattle.wasm_validate.proofs.Lows.{step_low}
use Rattle.wasm_validate.proofs.Loops.{one_more, no_more}
use Rattle.wasm_validate.proofs.bodies.check_body.Goals as goal

pub returns-in-Ok-true : goal.returns-in-Ok-true
returns-in-Ok-true c =
    let code = c.args.code.now in
    let k = c.loop-instr.instr-index in
    let taken = rw c.in-Ok-true.field-0-test at c.in-Ok-true.ensures in
    let last = one_more code k c.instr-item.result c.args.context.now c.loop-instr.checker None c.loop-instr-test.true c.instr-item.is taken in
    rw (← c.loop-instr.invariant.so_far, last, no_more (drop (k + 1) code) c.args.context.now) refl

pub loop-instr-preserved : goal.loop-instr-preserved
loop-instr-preserved c =
    let code = c.args.code.now in
    let k = c.loop-instr.instr-index in
    let taken = rw c.in-Ok-false.field-0-test at c.in-Ok-false.ensures in
    let low = step_low c.instr-item.result c.args.context.now c.loop-instr.checker c.step.new.self c.loop-instr.invariant.limit taken in
    record {
      limit = low.limit;
      number = omega (arith, low.number, c.loop-instr.invariant.number);
      so_far = sym (one_more code k c.instr-item.result c.args.context.now c.loop-instr.checker (Some c.step.new.self) c.loop-instr-test.true c.instr-item.is taken) ∙ c.loop-instr.invariant.so_far;
    }
