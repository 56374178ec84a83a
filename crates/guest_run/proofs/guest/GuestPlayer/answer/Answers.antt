use Rattle.guest_run.proofs.Answering.{answered, given_true}
use Rattle.guest_run.proofs.guest.GuestPlayer.answer.Goals as goal

pub returns-clause-plays : goal.returns-clause-plays
returns-clause-plays c = λ next trace plays.
    let g = c.args.self.now in
    let is_given = given_true g.given g.phase c.args.reply c.requires in
    rw (c.set.ensures, c.makes_end-self.ensures, is_given)
    (answered g next c.args.reply g.phase trace c.heard-phase.result c.heard-phase.new.events (rw is_given at c.requires) plays.phase plays.events (rw is_given at plays.room)
    (rw c.replace-phase.ensures.value at c.heard-phase.ensures))
