use Rattle.std.proofs.Common.{◌≡◌, ◌+◌, ◌≤◌, length}
use Rattle.edge_words.specs.Reading.{whole_lines, after_lines}
use Rattle.line_reader.specs.ByLines.{told, told_of}
use Rattle.line_reader.proofs.reader.read_lines.Given as goal

-- what the lines that are left tell from now on is what all tell
abbrev pub invariant-loop-line : goal.invariant-loop-line
invariant-loop-line g l =
    let machine = g.M.LineMachine.machine in
    let said = g.M.LineMachine.said in
    (told machine l.number (said l.state) (whole_lines l.rest) (after_lines l.rest) ≡ told_of machine l.bytes)
    × g.M.LineMachine.Stands (said l.state)
    × (l.number + length l.rest ≤ length l.bytes + 1)

abbrev pub decreases-loop-line : goal.decreases-loop-line
decreases-loop-line g l = length l.rest
