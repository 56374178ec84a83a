-- What a schedule of programs gives has a journal.
use Rattle.std.specs.Prelude.{◌≡◌, ℕ, ◌+◌, ◌<◌, Bool, true, false, not, List, [], ◌∷◌, length, nat_lt, refl}
use Rattle.std.specs.List.{list_all}
use Rattle.std.proofs.Common.{arith, subst, sym}
use Rattle.std.proofs.lemmas.Bool.{and_parts, and_from, lt-ltb, ltb-true}
use Rattle.cache_types.specs.declared.entries.Entry.{Entry}
use Rattle.cache_types.specs.declared.outer.Done.{Done}
use Rattle.cache_types.specs.declared.outer.OuterCall.{OuterCall}
use Rattle.cache_types.specs.declared.outer.OuterCall.TheVariants as outer
use Rattle.cache_types.specs.declared.outer.OuterReply.{OuterReply}
use Rattle.cache_types.specs.declared.outer.OuterReply.TheVariants as told
use Rattle.cache_types.specs.Entries.{newest_first, is_not_yet}
use Rattle.cache_types.specs.Limits.{is_within_limits}
use Rattle.cache_types.specs.Legal.{IsLegal, IsLegalPast}
use Rattle.journal_writer.specs.Journal.{is_told, is_event, rise, IsJournal, journal_bytes}
use Rattle.player.specs.Plays.{Program, Answered, event_with, events_of}
use Rattle.player.specs.Runs.{is_answer, are_answers}
use Rattle.schedule_play.specs.Blocks.{AreBlocks, HasBlocks, keep_limits}
use Rattle.schedule_play.proofs.Ends.{list_all-reverse}

-- each entry of a legal history was answered
answered-past : (past : List Entry) → IsLegalPast past → list_all (λ (e : Entry). not (is_not_yet e.reply)) past ≡ true
answered-past [] legal = refl
answered-past (e ∷ past) legal = and_from (not (is_not_yet e.reply)) (list_all (λ (f : Entry). not (is_not_yet f.reply)) past) legal.0.answered (answered-past past legal.1)

both-tests : (entries : List Entry) → list_all (λ (e : Entry). not (is_not_yet e.reply)) entries ≡ true → keep_limits entries ≡ true → list_all is_told entries ≡ true
both-tests [] answered limits = refl
both-tests (e ∷ entries) answered limits =
    let told = and_parts (not (is_not_yet e.reply)) (list_all (λ (f : Entry). not (is_not_yet f.reply)) entries) answered in
    let kept = and_parts (is_within_limits e.call) (keep_limits entries) limits in
    and_from (is_told e) (list_all is_told entries) (and_from (not (is_not_yet e.reply)) (is_within_limits e.call) told.0 kept.0) (both-tests entries told.1 kept.1)

none-below : (n : ℕ) → nat_lt n 0 ≡ true → ⊥
none-below n is = let below : n < 0 = ltb-true n 0 is in omega (arith, below)

-- an answered call stands in a block, as an entry or with its reply
event-is : (call : OuterCall) (reply : OuterReply) → is_answer call reply ≡ true → is_event (event_with call reply) ≡ true
event-is (outer.Cache c) (told.Cache stepped) is = refl
event-is (outer.Now clock) (told.Now reading) is = refl
event-is (outer.Start address request) (told.Started ticket) is = refl
event-is (outer.Start address request) told.LinkFailed is = refl
event-is (outer.Poll ticket) told.NotReady is = refl
event-is (outer.Poll ticket) (told.Ready bytes) is = refl
event-is (outer.Poll ticket) told.LinkFailed is = refl
event-is (outer.WaitFor ticket) (told.Ready bytes) is = refl
event-is (outer.WaitFor ticket) told.LinkFailed is = refl
event-is (outer.AnyOf []) (told.Index index) is = absurd (none-below index is)
event-is (outer.AnyOf (ticket ∷ tickets)) (told.Index index) is = refl
event-is (outer.Head bytes) told.Sent is = refl
event-is (outer.Piece bytes) told.Sent is = refl
event-is (outer.Close whole) told.Sent is = refl
event-is (outer.Log endpoint line) told.Sent is = refl
event-is _ _ is = cc is

trace-is : (trace : List Answered) → are_answers trace ≡ true → list_all is_event (events_of trace) ≡ true
trace-is [] are = refl
trace-is (a ∷ trace) are =
    let parts = and_parts (is_answer a.call a.reply) (are_answers trace) are in
    and_from (is_event (event_with a.call a.reply)) (list_all is_event (events_of trace)) (event-is a.call a.reply parts.0) (trace-is trace parts.1)

events-are : (past : List Entry) (index : ℕ) (programs : List Program) (blocks : List Done) → AreBlocks past index programs blocks → list_all (λ (done : Done). list_all is_event done.trace) blocks ≡ true
events-are past index [] [] are = refl
events-are past index [] (done ∷ blocks) are = absurd are
events-are past index (program ∷ programs) [] are = absurd are
events-are past index (program ∷ programs) (done ∷ blocks) are =
    and_from (list_all is_event done.trace) (list_all (λ (d : Done). list_all is_event d.trace) blocks)
    (subst (λ trace. list_all is_event trace ≡ true) (sym are.0.events_are) (trace-is are.0.trace are.0.answers)) (events-are past (index + 1) programs blocks are.1)

-- indexes that rise by one rise
indexes-rise : (past : List Entry) (index : ℕ) (programs : List Program) (blocks : List Done) → AreBlocks past index programs blocks → rise blocks ≡ true
indexes-rise past index [] [] are = refl
indexes-rise past index [] (done ∷ blocks) are = absurd are
indexes-rise past index (program ∷ programs) [] are = absurd are
indexes-rise past index (program ∷ []) (done ∷ []) are = refl
indexes-rise past index (program ∷ []) (done ∷ (next ∷ blocks)) are = absurd are.1
indexes-rise past index (program ∷ (other ∷ programs)) (done ∷ []) are = absurd are.1
indexes-rise past index (program ∷ (other ∷ programs)) (done ∷ (next ∷ blocks)) are =
    let here : done.index ≡ index = are.0.index_is in
    let there : next.index ≡ index + 1 = are.1.0.index_is in
    and_from (nat_lt done.index next.index) (rise (next ∷ blocks)) (lt-ltb done.index next.index (omega arith)) (indexes-rise past (index + 1) (other ∷ programs) (next ∷ blocks) are.1)

pub has-journal : (history : List Entry) (programs : List Program) (blocks : List Done) → IsLegal history → keep_limits history ≡ true → HasBlocks history programs blocks → IsJournal history blocks
has-journal history programs blocks legal limits has = record {
  entries = both-tests history (list_all-reverse (λ (e : Entry). not (is_not_yet e.reply)) history (answered-past (newest_first history) legal)) limits;
  events = events-are (newest_first history) 1 programs blocks has.blocks_are;
  indexes = indexes-rise (newest_first history) 1 programs blocks has.blocks_are;
}

-- a journal has bytes
abbrev pub is_nothing : List ℕ → Bool
is_nothing [] = true
is_nothing (first ∷ rest) = false

some-length : (xs : List ℕ) → is_nothing xs ≡ false → 0 < length xs
some-length [] some = cc
some-length (first ∷ rest) some = omega arith

pub journal-some : (history : List Entry) (blocks : List Done) → 0 < length (journal_bytes history blocks)
unfolding journal_bytes
journal-some history blocks = some-length (journal_bytes history blocks) refl
