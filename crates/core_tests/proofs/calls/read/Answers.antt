use Rattle.core_tests.proofs.Making.{may_read}
use Rattle.core_tests.proofs.calls.read.Goals as goal

pub returns : goal.returns
returns c = may_read c.args.hit c.args.place
