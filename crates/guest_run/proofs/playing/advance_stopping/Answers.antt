use Rattle.guest_run.proofs.Offering.{stopping_advances}
use Rattle.guest_run.proofs.playing.advance_stopping.Goals as goal

pub returns-clause-advanced : goal.returns-clause-advanced
returns-clause-advanced c = λ next trace plays. rw c.set.ensures (stopping_advances c.args.guest.now next trace c.args.outcome plays)
