use Rattle.std.proofs.Common.{refl}
use Rattle.guest_run.proofs.Offering.{offers_pause, offers_none}
use Rattle.std.specs.Prelude.{Ok}
use Rattle.guest_run.proofs.playing.offer_pause.Goals as goal

pub returns-in-Ok-clause-tells : goal.returns-in-Ok-clause-tells
returns-in-Ok-clause-tells c = record { given = refl; told = rw (c.set.ensures, c.in-Ok.ensures.call) refl; ended = refl }

pub returns-in-Ok-clause-advanced : goal.returns-in-Ok-clause-advanced
returns-in-Ok-clause-advanced c = λ next trace offers.
    rw (c.set.ensures, c.in-Ok.ensures.call) (offers_pause c.args.guest.now next trace c.args.pause c.offered.new.events offers c.in-Ok.ensures.same (c.in-Ok.ensures.room offers.room))

pub returns-in-Err-clause-tells : goal.returns-in-Err-clause-tells
returns-in-Err-clause-tells c = rw (c.starved.ensures.guest, c.starved.ensures.turn) (record { given = refl; told = refl; ended = refl })

pub returns-in-Err-clause-advanced : goal.returns-in-Err-clause-advanced
returns-in-Err-clause-advanced c = λ next trace offers.
    rw (c.starved.ensures.guest, c.starved.ensures.turn) (offers_none c.args.guest.now next trace (Ok c.args.pause) c.offered.new.events offers c.in-Err.ensures.same c.in-Err.ensures.len c.in-Err.ensures.capacity)
