-- A journal line by line.
use Rattle.std.specs.Prelude.{ℕ, Bool, true, List, [], ◌∷◌, ◌++◌, length, codes, bytes_eq, map, nat_lt, ◌==◌, Option, None, Some, if◌then◌else◌, IsTrue}
use Rattle.std.specs.List.{flat_map}
use Rattle.std.specs.Option.{option_map}
use Rattle.cache_types.specs.declared.entries.Entry.{Entry}
use Rattle.cache_types.specs.declared.outer.Outcome.{Outcome}
use Rattle.cache_types.specs.declared.outer.Outcome.TheVariants as outcome
use Rattle.cache_types.specs.declared.outer.Event.{Event}
use Rattle.cache_types.specs.declared.outer.Done.{Done}
use Rattle.edge_words.specs.Reading.{AllFit, words_in, ◌>>=◌}
use Rattle.journal_reader.specs.declared.journal.Journal.{Journal}
use Rattle.journal_reader.specs.declared.machine.Stage.{Stage}
use Rattle.journal_reader.specs.declared.machine.Stage.TheVariants as stage
use Rattle.journal_writer.specs.Journal.{entry_text, event_text, done_lines, guest_text, journal_lines}
use Rattle.journal_reader.specs.Readable.{IsEvent, IsU64, IsReadable}
use Rattle.journal_reader.specs.Entries.{entry_in}
use Rattle.journal_reader.specs.Events.{event_in, outcome_in, number_said, numbers_said}
use Rattle.line_reader.specs.ByLines.{Machine}

-- What the lines so far say: nothing; some entries; closed blocks and an open one, whose index and guest are given;
-- entries and closed blocks; all.
pub data Progress : Type 0 where
  Start : Progress
  Entries : List Entry → Progress
  Block : List Entry → List Done → ℕ × ℕ → List Event → Progress
  Between : List Entry → List Done → Progress
  Over : List Entry → List Done → Progress

-- the same without where it lies in memory
abbrev pub seen : Stage → Progress
seen stage.Start = Start
seen (stage.Entries entries) = Entries entries.items
seen (stage.Block told opened) = Block told.entries.items told.guests.items (opened.index, opened.guest) opened.trace.items
seen (stage.Between told) = Between told.entries.items told.guests.items
seen (stage.Over told) = Over told.entries.items told.guests.items

-- a closed block
abbrev pub done_of : ℕ × ℕ → List Event → Outcome → Done
done_of said trace outcome = record { index = said.0; guest = said.1; trace = trace; outcome = outcome }

-- the index is above that of the last block
abbrev pub is_above : List Done → ℕ → Bool
is_above [] index = true
is_above (done ∷ []) index = nat_lt done.index index
is_above (done ∷ (next ∷ guests)) index = is_above (next ∷ guests) index

-- a block is opened, if its index rises
abbrev pub opens_at : List Entry → List Done → ℕ × ℕ → Option Progress
opens_at history guests said = if is_above guests said.0 then Some (Block history guests said []) else None

abbrev pub opens : List Entry → List Done → List (List ℕ) → Option Progress
opens history guests words = numbers_said words >>= opens_at history guests

-- all was said, if the number is that of the entries
abbrev pub closes_with : List Entry → List Done → ℕ → Option Progress
closes_with history guests number = if number == length history then Some (Over history guests) else None

abbrev pub closes : List Entry → List Done → List (List ℕ) → Option Progress
closes history guests words = number_said words >>= closes_with history guests

-- a block or the end, or what another line leads to
abbrev pub after_blocks : List Entry → List Done → Option Progress → List (List ℕ) → Option Progress
after_blocks history guests others [] = None
after_blocks history guests others (name ∷ words) =
    if bytes_eq name (codes "guest") then opens history guests words
    else if bytes_eq name (codes "end") then closes history guests words
    else others

-- so many entries have a number that fits the last line
abbrev pub most_entries : ℕ
most_entries = 18446744073709551615

abbrev pub entry_more : List Entry → Entry → Option Progress
entry_more history entry =
    if nat_lt (length history) most_entries then Some (Entries (history ++ entry ∷ [])) else None

-- how the block ended
abbrev pub over : List Entry → List Done → ℕ × ℕ → List Event → List (List ℕ) → Option Progress
over history guests said trace words =
    option_map (λ outcome. Between history (guests ++ done_of said trace outcome ∷ [])) (outcome_in words)

-- an event, or the end of the block
abbrev pub after_events : List Entry → List Done → ℕ × ℕ → List Event → List (List ℕ) → Option Progress
after_events history guests said trace [] = None
after_events history guests said trace (name ∷ words) =
    if bytes_eq name (codes "over")
    then over history guests said trace words
    else option_map (λ event. Block history guests said (trace ++ event ∷ [])) (event_in name words)

-- one more line
abbrev pub after_line : Progress → List ℕ → Option Progress
after_line Start line = if bytes_eq line (codes "edge-journal 1") then Some (Entries []) else None
after_line (Entries history) line =
    after_blocks history [] (entry_in (words_in line) >>= entry_more history) (words_in line)
after_line (Block history guests said trace) line = after_events history guests said trace (words_in line)
after_line (Between history guests) line = after_blocks history guests None (words_in line)
after_line (Over history guests) line = None

-- the journal, where all was said and nothing stands behind it
abbrev pub finished : Progress → List ℕ → Option Journal
finished (Over history guests) [] = Some (record { history = history; guests = guests })
finished _ rest = None

abbrev pub machine : Machine Progress Journal
machine = record { start = Start; after = after_line; finished = finished }

-- the lines of a journal
abbrev pub spell : Journal → List (List ℕ)
spell journal = journal_lines journal.history journal.guests

-- ---- what the lines so far were

abbrev pub entry_lines : List Entry → List (List ℕ)
entry_lines history = codes "edge-journal 1" ∷ map entry_text history

abbrev pub lines_to : Progress → List (List ℕ)
lines_to Start = []
lines_to (Entries history) = entry_lines history
lines_to (Block history guests said trace) =
    entry_lines history ++ (flat_map done_lines guests ++ (guest_text (done_of said trace (outcome.Returned)) ∷ map event_text trace))
lines_to (Between history guests) = entry_lines history ++ flat_map done_lines guests
lines_to (Over history guests) = journal_lines history guests

-- entries and closed blocks
abbrev pub AreTold : List Entry → List Done → Type 0
AreTold history guests = IsReadable (record { history = history; guests = guests })

abbrev pub Stands : Progress → Type 0
Stands Start = Unit {0}
Stands (Entries history) = AreTold history []
Stands (Block history guests said trace) = AreTold history guests × IsTrue (is_above guests said.0) × (IsU64 said.0 × IsU64 said.1) × AllFit IsEvent trace
Stands (Between history guests) = AreTold history guests
Stands (Over history guests) = AreTold history guests
