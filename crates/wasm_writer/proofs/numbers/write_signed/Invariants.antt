use Rattle.std.proofs.Common.{◌+◌, ◌-◌, ◌≡◌, ◌++◌}
use Rattle.wasm_writer.specs.Numbers.{signed_text}
use Rattle.wasm_writer.proofs.numbers.write_signed.Given as goal

abbrev pub invariant-loop-left : goal.invariant-loop-left
invariant-loop-left l = l.out.items ++ signed_text l.negative l.left ≡ l.fn.out.items ++ signed_text l.negative l.number

abbrev pub decreases-loop-left : goal.decreases-loop-left
decreases-loop-left l = l.left + 1 - 64
