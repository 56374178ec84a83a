use Rattle.guest_run.proofs.Offering.{alive_offers}
use Rattle.guest_run.proofs.playing.advance_alive.Goals as goal

pub returns-clause-advanced : goal.returns-clause-advanced
returns-clause-advanced c = λ next trace plays. c.offer_pause.ensures.advanced next trace (alive_offers c.args.guest.now next trace c.args.pause plays)
