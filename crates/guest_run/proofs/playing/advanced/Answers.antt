use Rattle.std.proofs.Common.{sym}
use Rattle.guest_run.specs.declared.phase.Phase.TheVariants.{New, Begun, Alive, Heard, Stopping, Over}
use Rattle.guest_run.proofs.Offering.{at_phase}
use Rattle.guest_run.proofs.playing.advanced.Goals as goal

pub returns-in-New-clause-advanced : goal.returns-in-New-clause-advanced
returns-in-New-clause-advanced c = λ next trace plays.
    c.advance_new.ensures.advanced next trace (at_phase c.args.guest.now New next trace (sym c.in-New.ensures.value) plays)

pub returns-in-Begun-clause-advanced : goal.returns-in-Begun-clause-advanced
returns-in-Begun-clause-advanced c = λ next trace plays.
    c.advance_begun.ensures.advanced next trace (at_phase c.args.guest.now Begun next trace (sym c.in-Begun.ensures.value) plays)

pub returns-in-Alive-clause-advanced : goal.returns-in-Alive-clause-advanced
returns-in-Alive-clause-advanced c = λ next trace plays.
    c.advance_alive.ensures.advanced next trace (at_phase c.args.guest.now (Alive c.in-Alive.pause) next trace (sym c.in-Alive.ensures.value) plays)

pub returns-in-Heard-clause-advanced : goal.returns-in-Heard-clause-advanced
returns-in-Heard-clause-advanced c = λ next trace plays.
    c.advance_heard.ensures.advanced next trace (at_phase c.args.guest.now (Heard c.in-Heard.left c.in-Heard.call c.in-Heard.under c.in-Heard.reply) next trace (sym c.in-Heard.ensures.value) plays)

pub returns-in-Stopping-clause-advanced : goal.returns-in-Stopping-clause-advanced
returns-in-Stopping-clause-advanced c = λ next trace plays.
    c.advance_stopping.ensures.advanced next trace (at_phase c.args.guest.now (Stopping c.in-Stopping.outcome) next trace (sym c.in-Stopping.ensures.value) plays)

pub returns-in-Over-clause-advanced : goal.returns-in-Over-clause-advanced
returns-in-Over-clause-advanced c = λ next trace plays.
    c.advance_over.ensures.advanced next trace (at_phase c.args.guest.now (Over c.in-Over.outcome) next trace (sym c.in-Over.ensures.value) plays)

pub returns-in-New-clause-tells : goal.returns-in-New-clause-tells
returns-in-New-clause-tells c =
    let told = c.advance_new.ensures.tells in
    record { given = told.given; told = told.told; ended = told.ended }

pub returns-in-Begun-clause-tells : goal.returns-in-Begun-clause-tells
returns-in-Begun-clause-tells c =
    let told = c.advance_begun.ensures.tells in
    record { given = told.given; told = told.told; ended = told.ended }

pub returns-in-Alive-clause-tells : goal.returns-in-Alive-clause-tells
returns-in-Alive-clause-tells c =
    let told = c.advance_alive.ensures.tells in
    record { given = told.given; told = told.told; ended = told.ended }

pub returns-in-Heard-clause-tells : goal.returns-in-Heard-clause-tells
returns-in-Heard-clause-tells c =
    let told = c.advance_heard.ensures.tells in
    record { given = told.given; told = told.told; ended = told.ended }

pub returns-in-Stopping-clause-tells : goal.returns-in-Stopping-clause-tells
returns-in-Stopping-clause-tells c =
    let told = c.advance_stopping.ensures.tells in
    record { given = told.given; told = told.told; ended = told.ended }

pub returns-in-Over-clause-tells : goal.returns-in-Over-clause-tells
returns-in-Over-clause-tells c =
    let told = c.advance_over.ensures.tells in
    record { given = told.given; told = told.told; ended = told.ended }
