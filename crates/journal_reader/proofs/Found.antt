-- What is told of a journal, in the words of the texts alone.
use Rattle.std.proofs.Common.{◌≡◌, ℕ, true, List, [], ◌∷◌, refl, Result, Ok, Err, inl, inr}
use Rattle.std.specs.Prelude.{not}
use Rattle.std.specs.List.{list_all}
use Rattle.std.specs.Result.{IfOk, IfErr}
use Rattle.cache_types.specs.declared.entries.Entry.{Entry}
use Rattle.cache_types.specs.declared.replies.Reply.{Reply}
use Rattle.cache_types.specs.declared.replies.Reply.TheVariants as reply
use Rattle.cache_types.specs.declared.outer.Event.{Event}
use Rattle.cache_types.specs.declared.outer.Event.TheVariants as event
use Rattle.cache_types.specs.declared.outer.Done.{Done}
use Rattle.cache_types.specs.Entries.{is_not_yet}
use Rattle.edge_words.specs.Reading.{AllFit}
use Rattle.line_reader.specs.declared.fault.RunFault.{RunFault}
use Rattle.line_reader.specs.declared.fault.RunFault.TheVariants as fault
use Rattle.journal_reader.specs.declared.journal.Journal.{Journal}
use Rattle.journal_writer.specs.Journal.{journal_bytes, is_told, is_event, IsJournal}
use Rattle.journal_reader.specs.Readable.{IsEntry, IsEvent, IsDone, IsReply, IsReadable}
use Rattle.line_reader.specs.ByLines.{told_of, Tells, IsReadAs, IsFirstBad}
use Rattle.journal_reader.specs.Machine.{machine, spell, lines_to, Stands}
use Rattle.line_reader.proofs.ByLines.{IsExact, answer_found, answer_only, answer_line, one_value}
use Rattle.journal_reader.proofs.Taken.{takes, begins, ends}
use Rattle.journal_reader.proofs.Again.{goes, feed}

exact : IsExact machine IsReadable spell lines_to Stands
exact = record {
  starts = tt;
  at_start = refl;
  takes = takes;
  begins = begins;
  ends = ends;
  goes = goes;
  feed = feed;
}

-- ---- what is read can be written

reply_seen : (r : Reply) → IsReply r → not (is_not_yet r) ≡ true
reply_seen reply.NotYet fits = absurd fits
reply_seen _ fits = refl

entries_told : (history : List Entry) → AllFit IsEntry history → list_all is_told history ≡ true
entries_told [] fits = refl
entries_told (e ∷ history) fits = rw (reply_seen e.reply fits.0.reply, fits.0.call.limits) (entries_told history fits.1)

event_told : (e : Event) → IsEvent e → is_event e ≡ true
event_told (event.Entry number) fits = refl
event_told (event.Outer call reply) fits = fits.0

events_told : (trace : List Event) → AllFit IsEvent trace → list_all is_event trace ≡ true
events_told [] fits = refl
events_told (e ∷ trace) fits = rw (event_told e fits.0) (events_told trace fits.1)

guests_told : (guests : List Done) → AllFit IsDone guests → list_all (λ (done : Done). list_all is_event done.trace) guests ≡ true
guests_told [] fits = refl
guests_told (done ∷ guests) fits = rw (events_told done.trace fits.0.trace) (guests_told guests fits.1)

pub is_journal : (journal : Journal) → IsReadable journal → IsJournal journal.history journal.guests
is_journal journal fits = record {
  entries = entries_told journal.history fits.entries;
  events = guests_told journal.guests fits.guests;
  indexes = fits.indexes;
}

-- ---- the answer

pub found : (bytes : List ℕ) (answer : Result Journal RunFault) → Tells answer (told_of machine bytes) → IfOk answer (λ journal. IsReadable journal × (bytes ≡ journal_bytes journal.history journal.guests))
unfolding journal_bytes
found bytes answer tells = answer_found machine IsReadable spell lines_to Stands exact bytes answer tells

pub writable : (bytes : List ℕ) (answer : Result Journal RunFault) → Tells answer (told_of machine bytes) → IfOk answer (λ journal. IsJournal journal.history journal.guests)
writable bytes (Ok journal) tells = is_journal journal (found bytes (Ok journal) tells).0
writable bytes (Err _) tells = tt

pub only : (bytes : List ℕ) (answer : Result Journal RunFault) (journal : Journal) → Tells answer (told_of machine bytes) → IsReadable journal → bytes ≡ journal_bytes journal.history journal.guests → IsReadAs journal answer
unfolding journal_bytes
only bytes answer journal tells fits e = answer_only machine IsReadable spell lines_to Stands exact bytes answer journal tells fits e

pub line : (bytes : List ℕ) (answer : Result Journal RunFault) → Tells answer (told_of machine bytes) → IfErr answer (IsFirstBad IsReadable spell bytes)
line bytes answer tells = answer_line machine IsReadable spell lines_to Stands exact bytes answer tells

pub one_journal : (bytes : List ℕ) (one other : Journal) → IsReadable one → bytes ≡ journal_bytes one.history one.guests → IsReadable other → bytes ≡ journal_bytes other.history other.guests → one ≡ other
unfolding journal_bytes
one_journal bytes one other fits is fits' is' = one_value machine IsReadable spell lines_to Stands exact bytes one other fits is fits' is'

-- ---- there and back

pub same_value : (history : List Entry) (guests : List Done) (answer : Result Journal RunFault) → IsReadAs (record { history = history; guests = guests }) answer → IfOk answer (λ journal. (journal.history ≡ history) × (journal.guests ≡ guests))
same_value history guests answer (inl read) = rw read (refl, refl)
same_value history guests answer (inr memory) = rw memory tt

pub no_line : (history : List Entry) (guests : List Done) (answer : Result Journal RunFault) → IsReadAs (record { history = history; guests = guests }) answer → IfErr answer (λ f. f ≡ fault.OutOfMemory)
no_line history guests answer (inl read) = rw read tt
no_line history guests answer (inr memory) = rw memory refl
