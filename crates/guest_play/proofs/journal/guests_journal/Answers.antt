use Rattle.std.proofs.Common.{◌<◌, length, subst, sym}
use Rattle.journal_writer.specs.Journal.{IsJournal}
use Rattle.schedule_play.proofs.Results.{ifok-one}
use Rattle.guest_run.specs.Services.{fuel_in, settings_in, random_in}
use Rattle.guest_play.specs.Guests.{Answers}
use Rattle.guest_play.proofs.NewGuests.{programs-exist}
use Rattle.guest_play.proofs.Journals.{has-journal, journal-some}
use Rattle.guest_play.proofs.journal.guests_journal.Goals as goal

pub journal_text-requires : goal.journal_text-requires
journal_text-requires g c =
    let of = c.requires.service in
    let service = c.args.service.now in
    let Is = Answers of.0 (settings_in service) (fuel_in service) (random_in service) in
    let some = programs-exist Is (λ index request. c.each_guest_has_a_program.ensures of.0 service index request.head request.body of.1) 1 c.args.requests.now in
    subst (λ blocks. IsJournal c.into_history-history.result blocks) (sym c.as_slice.ensures.value)
    (subst (λ history. IsJournal history c.in_ok-blocks.blocks.items) (sym c.into_history-history.ensures.history)
    (has-journal (g.S.OneCache.history c.play_guests.new.cache) some.0 c.in_ok-blocks.blocks.items c.in_ok-blocks.ensures.legal c.in_ok-blocks.ensures.limits (c.in_ok-blocks.ensures.blocks of.0 some.0 of.1 some.1)))

pub returns-clause-some : goal.returns-clause-some
returns-clause-some g c =
    ifok-one c.journal_text.result c.journal_text.ensures
    (λ text is. subst (λ bytes. 0 < length bytes) (sym is) (journal-some c.into_history-history.result c.as_slice.result.now))
