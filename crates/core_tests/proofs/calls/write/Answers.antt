use Rattle.core_tests.proofs.Making.{may_write}
use Rattle.core_tests.proofs.calls.write.Goals as goal

pub returns : goal.returns
returns c = may_write c.args.object c.in_ok-piece.piece c.in_ok-piece.ensures
