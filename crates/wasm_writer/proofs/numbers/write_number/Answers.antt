use Rattle.std.proofs.Common.{◌+◌, ◌/◌, ◌%◌}
use Rattle.wasm_writer.specs.Numbers.{number_text}
use Rattle.wasm_writer.proofs.Leb.{number_last, number_step, goes_on}
use Rattle.wasm_writer.proofs.numbers.write_number.Goals as goal

pub loop-left-preserved : goal.loop-left-preserved
loop-left-preserved c =
    let step = number_step c.loop-left.left c.loop-left-test.true in
    goes_on c.loop-left.out.items c.push.new.self.items (number_text (c.loop-left.left / 128)) _ (128 + c.loop-left.left % 128) c.in_ok-push.ensures.items (rw (← step) c.loop-left.invariant)

pub returns : goal.returns
returns c =
    let last = number_last c.loop-left.left c.loop-left-test.false in
    rw (c.in_ok-push-2.ensures.items, ← last) c.loop-left.invariant
