use Rattle.std.proofs.Common.{◌∙◌}
use Rattle.guest_run.proofs.Offering.{heard_offers}
use Rattle.guest_run.proofs.playing.advance_heard.Goals as goal

pub returns-clause-advanced : goal.returns-clause-advanced
returns-clause-advanced c = λ next trace plays.
    let offered = c.offer.ensures.advanced next trace
    (heard_offers c.args.guest.now next trace c.args.left c.args.call c.args.under c.args.reply c.go_heard-pause.new.guest c.go_heard-pause.result plays c.go_heard-pause.ensures.same c.go_heard-pause.ensures.noted c.go_heard-pause.ensures.comes_to) in
    rw c.go_heard-pause.ensures.same.stopped at offered

pub returns-clause-tells : goal.returns-clause-tells
returns-clause-tells c =
    let told = c.offer.ensures.tells in
    record { given = told.given; told = told.told; ended = told.ended ∙ c.go_heard-pause.ensures.same.ended }
