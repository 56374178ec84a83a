-- Entries are read as they are spelled.
use Rattle.std.proofs.Common.{◌≡◌, ℕ, List, ◌++◌, refl}
use Rattle.cache_types.specs.declared.calls.CacheCall.{CacheCall}
use Rattle.cache_types.specs.declared.replies.Reply.{Reply}
use Rattle.cache_types.specs.declared.entries.Entry.{Entry}
use Rattle.edge_words.specs.Reading.{one, both, number_in}
use Rattle.edge_words.specs.Choices.{first_then}
use Rattle.edge_words.proofs.Laws.{IsLawful, IsWhole, IsNumber, FitBoth, both_lawful}
use Rattle.edge_words.proofs.ChoiceLaws.{first_then_whole, before_then_whole, made_whole}
use Rattle.journal_writer.specs.Journal.{entry_words, reply_words}
use Rattle.call_lines.specs.Lines.{IsCall, plain_words}
use Rattle.call_lines.specs.Reading.{call_in}
use Rattle.call_lines.proofs.TermLaws.{IsBehind}
use Rattle.call_lines.proofs.CallLaws.{call_law}
use Rattle.journal_reader.specs.Readable.{IsEntry, IsReply}
use Rattle.journal_reader.specs.Replies.{reply_in}
use Rattle.journal_reader.specs.Events.{after_sign}
use Rattle.journal_reader.specs.Entries.{EntrySaid, entry_of, entry_said, entry_in}
use Rattle.journal_reader.proofs.ReplyLaws.{number_words, one_number, reply_law}
use Rattle.journal_reader.proofs.EventLaws.{IsNothing, sign_words, signed_law, two_numbers}

abbrev Three : Type 0
Three = ℕ × (ℕ × ℕ)

abbrev head_words : Three → List (List ℕ)
head_words said = number_words said.0 ++ two_numbers said.1

abbrev FitHead : Three → Type 0
FitHead = FitBoth IsNumber (FitBoth IsNumber IsNumber)

head_lawful : IsLawful head_words FitHead (both (one number_in) (both (one number_in) (one number_in)))
head_lawful =
    both_lawful number_words IsNumber (one number_in) two_numbers (FitBoth IsNumber IsNumber) (both (one number_in) (one number_in)) one_number
    (both_lawful number_words IsNumber (one number_in) number_words IsNumber (one number_in) one_number one_number)

abbrev answer_words : Unit {0} × Reply → List (List ℕ)
answer_words said = sign_words said.0 ++ reply_words said.1

abbrev FitAnswer : Unit {0} × Reply → Type 0
FitAnswer = FitBoth IsNothing IsReply

answer_law : IsWhole answer_words FitAnswer (after_sign reply_in)
answer_law = signed_law reply_words IsReply reply_in reply_law

abbrev asked_words : CacheCall × (Unit {0} × Reply) → List (List ℕ)
asked_words said = plain_words said.0 ++ answer_words said.1

asked_law : IsWhole asked_words (FitBoth IsCall FitAnswer) (first_then call_in (after_sign reply_in))
asked_law = before_then_whole IsBehind plain_words IsCall call_in answer_words FitAnswer (after_sign reply_in) call_law answer_law (λ answer. refl)

abbrev said_words : EntrySaid → List (List ℕ)
said_words said = head_words said.0 ++ asked_words said.1

abbrev FitSaid : EntrySaid → Type 0
FitSaid = FitBoth FitHead (FitBoth IsCall FitAnswer)

said_law : IsWhole said_words FitSaid entry_said
said_law =
    first_then_whole head_words FitHead (both (one number_in) (both (one number_in) (one number_in))) asked_words (FitBoth IsCall FitAnswer) (first_then call_in (after_sign reply_in))
    head_lawful asked_law

abbrev back : Entry → EntrySaid
back e = ((e.number, (e.guest, e.moment)), (e.call, (tt, e.reply)))

said_fits : (said : EntrySaid) → FitSaid said → (said_words said ≡ entry_words (entry_of said)) × IsEntry (entry_of said)
said_fits said fits = (
  refl,
  record {
    number = fits.0.0;
    guest = fits.0.1.0;
    moment = fits.0.1.1;
    call = fits.1.0;
    reply = fits.1.1.1;
  },
)

entry_said_so : (e : Entry) → IsEntry e → (entry_of (back e) ≡ e) × (said_words (back e) ≡ entry_words e) × FitSaid (back e)
entry_said_so e fits = (refl, refl, ((fits.number, (fits.guest, fits.moment)), (fits.call, (tt, fits.reply))))

pub entry_law : IsWhole entry_words IsEntry entry_in
entry_law = made_whole said_words FitSaid entry_said entry_of back entry_words IsEntry said_law said_fits entry_said_so
