use Rattle.std.proofs.Common.{◌≡◌, length}
use Rattle.edge_words.specs.Reading.{listed_in, number_in}
use Rattle.journal_reader.proofs.TicketLaws.{with}
use Rattle.journal_reader.proofs.read_numbers.tickets.Given as goal

-- with the numbers that are left those so far are all
abbrev pub invariant-loop-piece : goal.invariant-loop-piece
invariant-loop-piece l = with l.tickets.items l.rest ≡ listed_in number_in l.fn.word

abbrev pub decreases-loop-piece : goal.decreases-loop-piece
decreases-loop-piece l = length l.rest
