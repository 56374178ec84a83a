use Rattle.std.proofs.Common.{◌∙◌}
use Rattle.guest_run.proofs.Offering.{begun_offers}
use Rattle.guest_run.proofs.playing.advance_begun.Goals as goal

pub returns-clause-advanced : goal.returns-clause-advanced
returns-clause-advanced c = λ next trace plays.
    let offered = c.offer.ensures.advanced next trace
    (begun_offers c.args.guest.now next trace c.go_begun-pause.new.guest c.go_begun-pause.result plays c.go_begun-pause.ensures.same c.go_begun-pause.ensures.events c.go_begun-pause.ensures.comes_to) in
    rw c.go_begun-pause.ensures.same.stopped at offered

pub returns-clause-tells : goal.returns-clause-tells
returns-clause-tells c =
    let told = c.offer.ensures.tells in
    record { given = told.given; told = told.told; ended = told.ended ∙ c.go_begun-pause.ensures.same.ended }
