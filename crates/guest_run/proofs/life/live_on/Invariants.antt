use Rattle.player.specs.Plays.{Program}
use Rattle.guest_run.specs.Lives.{IsGoing, weight}
use Rattle.guest_run.proofs.life.live_on.Given as goal

abbrev pub invariant-loop-left : goal.invariant-loop-left
invariant-loop-left l = (meaning : Program) → IsGoing l.fn.calls meaning l.fn.left l.fn.machine l.fn.tables → IsGoing l.fn.calls meaning l.rest l.machine l.tables

abbrev pub decreases-loop-left : goal.decreases-loop-left
decreases-loop-left l = weight l.rest
