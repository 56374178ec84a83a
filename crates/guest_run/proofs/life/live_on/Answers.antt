use Rattle.guest_run.proofs.life.live_on.Goals as goal

pub loop-left-preserved : goal.loop-left-preserved
loop-left-preserved c = λ meaning h. (rw c.in-Going.is at c.in_ok-left.ensures.lives) meaning (c.loop-left.invariant meaning h)

pub loop-left-smaller : goal.loop-left-smaller
loop-left-smaller c = rw c.in-Going.is at c.in_ok-left.ensures.less

pub returns-in-Paused : goal.returns-in-Paused
returns-in-Paused c = λ meaning h. (rw c.in-Paused.is at c.in_ok-left.ensures.lives) meaning (c.loop-left.invariant meaning h)
