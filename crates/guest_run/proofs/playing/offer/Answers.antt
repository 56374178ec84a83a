use Rattle.std.proofs.Common.{refl, arith}
use Rattle.guest_run.proofs.Offering.{offers_none}
use Rattle.guest_run.proofs.playing.offer.Goals as goal

pub returns-in-Ok-clause-advanced : goal.returns-in-Ok-clause-advanced
returns-in-Ok-clause-advanced c = λ next trace offers. c.offer_pause.ensures.advanced next trace (rw c.in-Ok.is at offers)

pub returns-in-Err-clause-tells : goal.returns-in-Err-clause-tells
returns-in-Err-clause-tells c = rw (c.starved.ensures.guest, c.starved.ensures.turn) (record { given = refl; told = refl; ended = refl })

pub returns-in-Err-clause-advanced : goal.returns-in-Err-clause-advanced
returns-in-Err-clause-advanced c = λ next trace offers.
    rw (c.starved.ensures.guest, c.starved.ensures.turn) (offers_none c.args.guest.now next trace c.args.pause c.args.guest.now.events offers refl refl (omega arith))
