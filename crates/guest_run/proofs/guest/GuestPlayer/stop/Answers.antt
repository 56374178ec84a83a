use Rattle.guest_run.proofs.Answering.{stopped_with}
use Rattle.guest_run.proofs.guest.GuestPlayer.stop.Goals as goal

pub returns-clause-plays : goal.returns-clause-plays
returns-clause-plays c = λ next trace plays.
    let g = c.args.self.now in
    rw c.set.ensures
    (stopped_with g next c.args.outcome g.phase trace c.stopped-phase.result c.stopped-phase.new.events plays.phase plays.events plays.room
    (rw c.replace-phase.ensures.value at c.stopped-phase.ensures))
