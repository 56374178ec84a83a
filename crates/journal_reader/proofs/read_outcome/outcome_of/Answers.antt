use Rattle.std.proofs.Common.{sym}
use Rattle.journal_reader.proofs.EventLaws.{outcome_trapped}
use Rattle.journal_reader.proofs.read_outcome.outcome_of.Goals as goal

pub returns-then-eq-3 : goal.returns-then-eq-3
returns-then-eq-3 c =
    outcome_trapped c.args.words c.in_ok-name.name.now c.in_ok-name.words c.trapped.result c.in_ok-name.ensures
    (rw c.as_slice.ensures at (sym c.if-eq.ensures)) (rw c.as_slice-2.ensures at (sym c.if-eq-2.ensures)) (rw c.as_slice-3.ensures at (sym c.if-eq-3.ensures))
    c.trapped.ensures
