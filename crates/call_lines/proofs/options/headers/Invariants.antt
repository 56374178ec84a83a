use Rattle.std.proofs.Common.{◌≡◌, length}
use Rattle.call_lines.specs.Reading.{heads_in}
use Rattle.call_lines.proofs.Loops.{read_with}
use Rattle.call_lines.proofs.options.headers.Given as goal

-- what was read before what is left
abbrev pub invariant-loop-fields : goal.invariant-loop-fields
invariant-loop-fields l = read_with l.fields.items (heads_in l.left) ≡ heads_in l.fn.words

abbrev pub decreases-loop-fields : goal.decreases-loop-fields
decreases-loop-fields l = length l.left
