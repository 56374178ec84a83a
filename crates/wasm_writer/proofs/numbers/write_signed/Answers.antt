use Rattle.std.proofs.Common.{◌+◌, ◌/◌, ◌%◌}
use Rattle.wasm_writer.specs.Numbers.{seven_bits, signed_text}
use Rattle.wasm_writer.proofs.Leb.{signed_last, signed_step, goes_on}
use Rattle.wasm_writer.proofs.numbers.write_signed.Goals as goal

pub loop-left-preserved : goal.loop-left-preserved
loop-left-preserved c =
    let step = signed_step c.args.negative c.loop-left.left c.loop-left-test.true in
    goes_on c.loop-left.out.items c.push.new.self.items (signed_text c.args.negative (c.loop-left.left / 128)) _ (128 + seven_bits c.args.negative (c.loop-left.left % 128)) (rw (← c.seven_bits.ensures) c.in_ok-push.ensures.items) (rw (← step) c.loop-left.invariant)

pub returns : goal.returns
returns c =
    let last = signed_last c.args.negative c.loop-left.left c.loop-left-test.false in
    rw (c.in_ok-push-2.ensures.items, c.seven_bits-2.ensures, ← last) c.loop-left.invariant
