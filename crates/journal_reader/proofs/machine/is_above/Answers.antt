use Rattle.std.proofs.Common.{arith}
use Rattle.journal_reader.proofs.Taken.{above_at}
use Rattle.journal_reader.proofs.machine.is_above.Goals as goal

pub returns : goal.returns
returns c = above_at c.args.guests.now c.index-guests-count.result c.args.index _ (omega (arith, c.if-count-eq0.false))
