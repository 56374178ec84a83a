use Rattle.guest_run.proofs.Offering.{new_advances, new_starves}
use Rattle.guest_run.proofs.playing.advance_new.Goals as goal

pub returns-in-Ok-clause-advanced : goal.returns-in-Ok-clause-advanced
returns-in-Ok-clause-advanced c = λ next trace plays.
    rw c.set.ensures (new_advances c.args.guest.now next trace c.reserve.new.self plays c.reserve.ensures.items c.in-Ok.ensures.ok)

pub returns-in-Err-clause-advanced : goal.returns-in-Err-clause-advanced
returns-in-Err-clause-advanced c = λ next trace plays.
    rw c.set-in-Err.ensures (new_starves c.args.guest.now next trace c.reserve.new.self plays c.reserve.ensures.items c.reserve.ensures.len c.reserve.ensures.capacity)
