use Rattle.std.proofs.Common.{◌+◌, ◌-◌, ◌≡◌, ◌++◌}
use Rattle.wasm_writer.specs.Numbers.{number_text}
use Rattle.wasm_writer.proofs.numbers.write_number.Given as goal

abbrev pub invariant-loop-left : goal.invariant-loop-left
invariant-loop-left l = l.out.items ++ number_text l.left ≡ l.fn.out.items ++ number_text l.number

abbrev pub decreases-loop-left : goal.decreases-loop-left
decreases-loop-left l = l.left + 1 - 128
