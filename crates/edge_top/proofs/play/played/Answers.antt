use Rattle.std.proofs.Common.{ℕ, ◌∙◌}
use Rattle.schedule_play.proofs.Results.{ifok-one}
use Rattle.guest_run.specs.Services.{fuel_in, settings_in, random_in}
use Rattle.guest_play.specs.Guests.{Answers}
use Rattle.guest_play.proofs.NewGuests.{programs-exist}
use Rattle.edge_top.proofs.PlayParts.{journal-of}
use Rattle.edge_top.proofs.play.played.Goals as goal

pub returns-clause-journal : goal.returns-clause-journal
returns-clause-journal c =
    let l = c.args.linked.now in
    let service = c.in-Ok.service in
    let of = c.in-Ok.ensures in
    let requests = c.items-requests.result.now in
    let some = programs-exist (Answers l (settings_in service) (fuel_in service) (random_in service)) (λ index request. c.each_guest_has_a_program.ensures l service index request.head request.body of.made) 1 requests in
    ifok-one c.guests_journal.result (c.guests_journal.ensures.journal l some.0 of.made some.1)
    (λ text journal. journal-of l c.args.settings.now c.args.file.now (settings_in service) (fuel_in service) (random_in service) requests c.items-steps.result.now _ _ _ of.settings of.fuel (of.random ∙ (c.seed_of-seed.ensures ∙ c.bytes.ensures)) c.items-requests.ensures c.items-steps.ensures c.new-cache.ensures.most c.new-3.ensures some.0 some.1 text journal)
