use Rattle.guest_run.proofs.Offering.{over_advances}
use Rattle.guest_run.proofs.playing.advance_over.Goals as goal

pub returns-clause-advanced : goal.returns-clause-advanced
returns-clause-advanced c = λ next trace plays. rw c.set.ensures (over_advances c.args.guest.now next trace c.args.outcome plays)
