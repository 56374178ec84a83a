use Rattle.std.proofs.Common.{[], List, ℕ, IfOk, subst}
use Rattle.edge_imports.specs.Links.{LinkedModule}
use Rattle.edge_body.specs.Heads.{Request}
use Rattle.player.specs.Plays.{Program}
use Rattle.guest_run.specs.Services.{fuel_in, settings_in, random_in, IsServiceOf, IsGuestProgram}
use Rattle.guest_run.specs.Guests.{GuestPlays}
use Rattle.guest_play.proofs.guests.new_guest.Goals as goal

pub returns-clause-plays : goal.returns-clause-plays
returns-clause-plays c =
    let service = c.args.service.now in
    subst (λ (body : List ℕ). IfOk c.new.result (λ guest. (l : LinkedModule) (program : Program) → IsServiceOf l service → IsGuestProgram l (settings_in service) (fuel_in service) (random_in service) c.args.index c.args.request.now.head body program → GuestPlays guest program [])) c.in_ok-body.ensures
    (subst (λ (head : Request). IfOk c.new.result (λ guest. (l : LinkedModule) (program : Program) → IsServiceOf l service → IsGuestProgram l (settings_in service) (fuel_in service) (random_in service) c.args.index head c.in_ok-body.body program → GuestPlays guest program [])) c.in_ok-head.ensures c.new.ensures.plays)
