use Rattle.std.specs.Prelude.{None}
use Rattle.guest_run.proofs.Runs.{begins_next, none_next}
use Rattle.guest_run.proofs.life.returned.Goals as goal

pub returns-in_ok-start-in-Some-clause-lives : goal.returns-in_ok-start-in-Some-clause-lives
returns-in_ok-start-in-Some-clause-lives c = λ cs meaning t next.
    begins_next cs meaning c.args.fuel c.in-Some.function None c.args.machine.now c.start.new.self t (rw c.in-Some.is at next) c.in_ok-start-in-Some.ensures.stands

pub returns-in-None-clause-lives : goal.returns-in-None-clause-lives
returns-in-None-clause-lives c = λ cs meaning t next. rw c.ending.ensures (none_next cs meaning c.args.fuel c.args.machine.now t (rw c.in-None.is at next))
