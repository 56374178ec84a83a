use Rattle.std.proofs.Common.{◌≡◌, length}
use Rattle.edge_words.specs.Reading.{listed_in}
use Rattle.call_lines.specs.Reading.{name_in}
use Rattle.call_lines.proofs.Loops.{pieces_with}
use Rattle.call_lines.proofs.pieces.names.Given as goal

-- what was read before what is left
abbrev pub invariant-loop-name : goal.invariant-loop-name
invariant-loop-name l = pieces_with l.names.items (listed_in name_in l.rest) ≡ listed_in name_in l.text

abbrev pub decreases-loop-name : goal.decreases-loop-name
decreases-loop-name l = length l.rest
