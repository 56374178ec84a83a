use Rattle.std.proofs.Common.{subst}
use Rattle.std.specs.Prelude.{Bool}
use Rattle.player.specs.May.{IsStopAfter}
use Rattle.guest_run.specs.Guests.{GuestWants}
use Rattle.guest_run.proofs.Offering.{over_told, may_take, waits_given}
use Rattle.guest_run.proofs.guest.GuestPlayer.advance.Goals as goal

pub returns : goal.returns
returns c =
    let old = c.args.self.now in
    let now = c.advanced.new.guest in
    let told = c.advanced.ensures.tells in
    record {
      waits = waits_given now.given now.phase c.advanced.result told.given told.told;
      over = over_told now.phase c.advanced.result told.told;
      plays = λ next trace plays. (c.advanced.ensures.advanced next trace plays).plays;
      turn = λ next trace plays. (c.advanced.ensures.advanced next trace plays).due_is;
      stopped = λ next trace plays. subst (λ (b : Bool). IsStopAfter (GuestWants next trace) b old.stopped now.stopped) told.ended (c.advanced.ensures.advanced next trace plays).stops;
      ended = told.ended;
      may = λ next trace plays fresh. may_take now next trace c.advanced.result now.phase (c.advanced.ensures.advanced next trace plays).plays.phase told.told;
    }
