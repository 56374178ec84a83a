use Rattle.std.proofs.Common.{◌∙◌, length, ap, subst, sym}
use Rattle.std.specs.Prelude.{IsTrue}
use Rattle.schedule_play.specs.Schedule.{are_steps_of}
use Rattle.schedule_play.specs.Sits.{AreNew}
use Rattle.guest_run.specs.Services.{fuel_in, settings_in, random_in}
use Rattle.guest_run.specs.Guests.{GuestPlays, stopped_of, ended_of}
use Rattle.guest_play.specs.Guests.{Answers}
use Rattle.guest_play.proofs.NewGuests.{programs-exist, programs-count, new-count}
use Rattle.guest_play.proofs.play.play_guests.Goals as goal

pub play-requires-clause-players : goal.play-requires-clause-players
play-requires-clause-players g c =
    let of = c.requires.service in
    let service = c.args.service.now in
    let Is = Answers of.0 (settings_in service) (fuel_in service) (random_in service) in
    let some = programs-exist Is (λ index request. c.each_guest_has_a_program.ensures of.0 service index request.head request.body of.1) 1 c.args.requests.now in
    (some.0, subst (λ guests. AreNew GuestPlays stopped_of ended_of guests some.0) (sym c.as_mut_slice.ensures.value) (c.in_ok-guests.ensures of.0 some.0 of.1 some.1))

pub play-requires-clause-steps : goal.play-requires-clause-steps
play-requires-clause-steps g c =
    let of = c.requires.service in
    let service = c.args.service.now in
    let Is = Answers of.0 (settings_in service) (fuel_in service) (random_in service) in
    let some = programs-exist Is (λ index request. c.each_guest_has_a_program.ensures of.0 service index request.head request.body of.1) 1 c.args.requests.now in
    let players = new-count GuestPlays stopped_of ended_of c.in_ok-guests.guests.items some.0 (c.in_ok-guests.ensures of.0 some.0 of.1 some.1) in
    let programs = programs-count Is 1 c.args.requests.now some.0 some.1 in
    subst (λ n. IsTrue (are_steps_of n c.args.steps.now)) (sym (ap length c.as_mut_slice.ensures.value ∙ players ∙ programs)) c.requires.steps
