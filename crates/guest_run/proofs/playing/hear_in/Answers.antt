use Rattle.guest_run.proofs.Runs.{in_some}
use Rattle.guest_run.proofs.playing.hear_in.Goals as goal

pub returns-in-Some : goal.returns-in-Some
returns-in-Some c = λ meaning h. in_some c.args.calls.now c.hear_on.result c.hear_on.new.machine c.hear_on.new.tables meaning (c.hear_on.ensures meaning (rw c.in-Some.is at h))
