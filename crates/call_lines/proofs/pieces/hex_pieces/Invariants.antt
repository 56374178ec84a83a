use Rattle.std.proofs.Common.{◌≡◌, length}
use Rattle.edge_words.specs.Reading.{listed_in, hex_in}
use Rattle.call_lines.proofs.Loops.{pieces_with}
use Rattle.call_lines.proofs.pieces.hex_pieces.Given as goal

-- what was read before what is left
abbrev pub invariant-loop-piece : goal.invariant-loop-piece
invariant-loop-piece l = pieces_with l.pieces.items (listed_in hex_in l.rest) ≡ listed_in hex_in l.text

abbrev pub decreases-loop-piece : goal.decreases-loop-piece
decreases-loop-piece l = length l.rest
