use Rattle.guest_run.proofs.life.hear_on.Goals as goal

pub returns-in-Going : goal.returns-in-Going
returns-in-Going c = λ meaning h. c.live_on.ensures meaning ((rw c.in-Going.is at c.in_ok-left.ensures) c.args.calls.now meaning h)

pub returns-in-Paused : goal.returns-in-Paused
returns-in-Paused c = λ meaning h. (rw c.in-Paused.is at c.in_ok-left.ensures) c.args.calls.now meaning h
