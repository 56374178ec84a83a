-- The machine takes each journal, whose lines have no line feed in them.
use Rattle.std.proofs.Common.{◌≡◌, ◌<◌, ◌^◌, ℕ, true, List, [], ◌∷◌, ◌++◌, length, map, refl, sym, ◌∙◌, ap, subst, Option, None, Some, append_assoc, append-nil, ◌+◌, arith, length-append}
use Rattle.std.specs.Prelude.{codes, decimal, ◌==◌}
use Rattle.std.specs.Option.{option_map}
use Rattle.std.specs.List.{flat_map, list_all}
use Rattle.std.proofs.lemmas.Bool.{lt-ltb}
use Rattle.std.proofs.lemmas.Bool.Decides.{nat_tests}
use Rattle.std.proofs.lemmas.List.Folds.{list_all-append}
use Rattle.cache_types.specs.declared.entries.Entry.{Entry}
use Rattle.cache_types.specs.declared.outer.OuterCall.TheVariants as outer
use Rattle.cache_types.specs.declared.outer.Event.{Event}
use Rattle.cache_types.specs.declared.outer.Event.TheVariants as event
use Rattle.cache_types.specs.declared.outer.Done.{Done}
use Rattle.edge_words.specs.Reading.{AllFit, at_end, words_in, ◌>>=◌}
use Rattle.edge_words.specs.Choices.{by_name}
use Rattle.edge_words.proofs.Lines.{lacks, line_lacks_feed, words_of_line}
use Rattle.journal_reader.specs.declared.journal.Journal.{Journal}
use Rattle.journal_writer.specs.Journal.{entry_words, entry_text, event_text, event_words, outcome_words, guest_text, over_text, done_lines, end_text, rise}
use Rattle.journal_reader.specs.Readable.{IsEntry, IsEvent, IsDone, IsReadable}
use Rattle.journal_reader.specs.Events.{event_rows, event_in}
use Rattle.journal_reader.specs.Entries.{entry_in}
use Rattle.line_reader.specs.ByLines.{after_all}
use Rattle.journal_reader.specs.Machine.{Progress, Start, Entries, Block, Between, Over, entry_more, is_above, after_blocks, after_events, after_line, finished, machine, spell}
use Rattle.journal_reader.proofs.EntryLaws.{entry_law}
use Rattle.journal_reader.proofs.EventLaws.{number_law, numbers_law, event_law, outcome_law}
use Rattle.line_reader.proofs.LineLaws.{line_words, line_feed, number_no_name}
use Rattle.journal_reader.proofs.Taken.{rise_above}

-- ---- entries

entry_goes : (history : List Entry) (e : Entry) → IsEntry e → length history < 18446744073709551615 → after_line (Entries history) (entry_text e) ≡ Some (Entries (history ++ e ∷ []))
entry_goes history e fits room =
    let words = line_words entry_words IsEntry entry_in entry_law e refl fits in
    rw (
      words,
      number_no_name e.number (codes "guest") fits.number refl,
      number_no_name e.number (codes "end") fits.number refl,
      entry_law.again e fits,
      lt-ltb (length history) 18446744073709551615 room,
    ) refl

entries_go : (front more : List Entry) (lines : List (List ℕ)) → AllFit IsEntry more → length front + length more < 2 ^ 64 → after_all machine (Entries front) (map entry_text more ++ lines) ≡ after_all machine (Entries (front ++ more)) lines
entries_go front [] lines fits few = ap (λ (es : List Entry). after_all machine (Entries es) lines) (sym (append-nil front))
entries_go front (e ∷ more) lines fits few =
    ap (λ (o : Option Progress). o >>= λ q. after_all machine q (map entry_text more ++ lines)) (entry_goes front e fits.0 (omega (arith, few)))
    ∙ entries_go (front ++ e ∷ []) more lines fits.1 (omega (arith, few, length-append front (e ∷ [])))
    ∙ ap (λ (es : List Entry). after_all machine (Entries es) lines) (append_assoc front (e ∷ []) more)

-- ---- events

-- an event's first word isn't that of a block's end
no_over : (history : List Entry) (guests : List Done) (said : ℕ × ℕ) (trace : List Event) (e : Event) → after_events history guests said trace (event_words e) ≡ option_map (λ event. Block history guests said (trace ++ event ∷ [])) (by_name event_rows (event_words e))
unfolding event_in
no_over history guests said trace (event.Entry number) = refl
no_over history guests said trace (event.Outer (outer.Cache call) reply) = refl
no_over history guests said trace (event.Outer (outer.Now clock) reply) = refl
no_over history guests said trace (event.Outer (outer.Start address request) reply) = refl
no_over history guests said trace (event.Outer (outer.Poll ticket) reply) = refl
no_over history guests said trace (event.Outer (outer.WaitFor ticket) reply) = refl
no_over history guests said trace (event.Outer (outer.AnyOf tickets) reply) = refl
no_over history guests said trace (event.Outer (outer.Head bytes) reply) = refl
no_over history guests said trace (event.Outer (outer.Piece bytes) reply) = refl
no_over history guests said trace (event.Outer (outer.Close whole) reply) = refl
no_over history guests said trace (event.Outer (outer.Log endpoint line) reply) = refl

some_words : (e : Event) → at_end (event_words e) ≡ None
some_words (event.Entry number) = refl
some_words (event.Outer call reply) = refl

event_goes : (history : List Entry) (guests : List Done) (said : ℕ × ℕ) (trace : List Event) (e : Event) → IsEvent e → after_line (Block history guests said trace) (event_text e) ≡ Some (Block history guests said (trace ++ e ∷ []))
event_goes history guests said trace e fits =
    let words = line_words event_words IsEvent (by_name event_rows) event_law e (some_words e) fits in
    ap (after_events history guests said trace) words
    ∙ no_over history guests said trace e
    ∙ ap (option_map (λ event. Block history guests said (trace ++ event ∷ []))) (event_law.again e fits)

events_go : (history : List Entry) (guests : List Done) (said : ℕ × ℕ) (front more : List Event) (lines : List (List ℕ)) → AllFit IsEvent more → after_all machine (Block history guests said front) (map event_text more ++ lines) ≡ after_all machine (Block history guests said (front ++ more)) lines
events_go history guests said front [] lines fits = ap (λ (es : List Event). after_all machine (Block history guests said es) lines) (sym (append-nil front))
events_go history guests said front (e ∷ more) lines fits =
    ap (λ (o : Option Progress). o >>= λ q. after_all machine q (map event_text more ++ lines)) (event_goes history guests said front e fits.0)
    ∙ events_go history guests said (front ++ e ∷ []) more lines fits.1
    ∙ ap (λ (es : List Event). after_all machine (Block history guests said es) lines) (append_assoc front (e ∷ []) more)

-- ---- blocks

guest_words : (done : Done) → IsDone done → words_in (guest_text done) ≡ codes "guest" ∷ (decimal done.index ∷ (decimal done.guest ∷ []))
guest_words done fits = words_of_line (codes "guest" ∷ (decimal done.index ∷ (decimal done.guest ∷ []))) refl (numbers_law.words (done.index, done.guest) (fits.index, fits.guest))

-- whatever another line would lead to
guest_goes : (history : List Entry) (guests : List Done) (others : Option Progress) (done : Done) → IsDone done → is_above guests done.index ≡ true → after_blocks history guests others (words_in (guest_text done)) ≡ Some (Block history guests (done.index, done.guest) [])
guest_goes history guests others done fits above =
    ap (after_blocks history guests others) (guest_words done fits)
    ∙ rw (numbers_law.again (done.index, done.guest) (fits.index, fits.guest), above) refl

over_goes : (history : List Entry) (guests : List Done) (done : Done) → IsDone done → after_line (Block history guests (done.index, done.guest) done.trace) (over_text done) ≡ Some (Between history (guests ++ done ∷ []))
over_goes history guests done fits =
    let words = words_of_line (codes "over" ∷ outcome_words done.outcome) refl (outcome_law.words done.outcome fits.outcome) in
    rw (words, outcome_law.again done.outcome fits.outcome) refl

-- the lines of a block behind the first
rest_goes : (history : List Entry) (guests : List Done) (done : Done) (lines : List (List ℕ)) → IsDone done → after_all machine (Block history guests (done.index, done.guest) []) ((map event_text done.trace ++ over_text done ∷ []) ++ lines) ≡ after_all machine (Between history (guests ++ done ∷ [])) lines
rest_goes history guests done lines fits =
    ap (after_all machine (Block history guests (done.index, done.guest) [])) (append_assoc (map event_text done.trace) (over_text done ∷ []) lines)
    ∙ events_go history guests (done.index, done.guest) [] done.trace (over_text done ∷ lines) fits.trace
    ∙ ap (λ (o : Option Progress). o >>= λ q. after_all machine q lines) (over_goes history guests done fits)

guests_go : (history : List Entry) (front more : List Done) (lines : List (List ℕ)) → AllFit IsDone more → rise (front ++ more) ≡ true → after_all machine (Between history front) (flat_map done_lines more ++ lines) ≡ after_all machine (Between history (front ++ more)) lines
guests_go history front [] lines fits rises = ap (λ (gs : List Done). after_all machine (Between history gs) lines) (sym (append-nil front))
guests_go history front (done ∷ more) lines fits rises =
    let block = map event_text done.trace ++ over_text done ∷ [] in
    let P : List Done → Type 0 = λ gs. rise gs ≡ true in
    let regrouped = append_assoc front (done ∷ []) more in
    ap (λ (ls : List (List ℕ)). after_all machine (Between history front) (guest_text done ∷ ls)) (append_assoc block (flat_map done_lines more) lines)
    ∙ ap (λ (o : Option Progress). o >>= λ q. after_all machine q (block ++ (flat_map done_lines more ++ lines))) (guest_goes history front None done fits.0 (rise_above front done more rises))
    ∙ rest_goes history front done (flat_map done_lines more ++ lines) fits.0
    ∙ guests_go history (front ++ done ∷ []) more lines fits.1 (subst P (sym regrouped) rises)
    ∙ ap (λ (gs : List Done). after_all machine (Between history gs) lines) regrouped

-- ---- the end

end_words : (history : List Entry) → length history < 2 ^ 64 → words_in (end_text history) ≡ codes "end" ∷ (decimal (length history) ∷ [])
end_words history fits = words_of_line (codes "end" ∷ (decimal (length history) ∷ [])) refl (number_law.words (length history) fits)

end_goes : (history : List Entry) (guests : List Done) (others : Option Progress) → length history < 2 ^ 64 → after_blocks history guests others (words_in (end_text history)) ≡ Some (Over history guests)
end_goes history guests others fits =
    let same : (length history == length history) ≡ true = grind (arith, nat_tests) in
    ap (after_blocks history guests others) (end_words history fits)
    ∙ rw (number_law.again (length history) fits, same) refl

-- behind the entries
blocks_go : (history : List Entry) (guests : List Done) → length history < 2 ^ 64 → AllFit IsDone guests → rise guests ≡ true → after_all machine (Entries history) (flat_map done_lines guests ++ end_text history ∷ []) ≡ Some (Over history guests)
blocks_go history [] few fits rises = ap (λ (o : Option Progress). o >>= λ q. after_all machine q []) (end_goes history [] (entry_in (words_in (end_text history)) >>= entry_more history) few)
blocks_go history (done ∷ guests) few fits rises =
    let block = map event_text done.trace ++ over_text done ∷ [] in
    let last = end_text history ∷ [] in
    ap (λ (ls : List (List ℕ)). after_all machine (Entries history) (guest_text done ∷ ls)) (append_assoc block (flat_map done_lines guests) last)
    ∙ ap (λ (o : Option Progress). o >>= λ q. after_all machine q (block ++ (flat_map done_lines guests ++ last))) (guest_goes history [] (entry_in (words_in (guest_text done)) >>= entry_more history) done fits.0 refl)
    ∙ rest_goes history [] done (flat_map done_lines guests ++ last) fits.0
    ∙ guests_go history (done ∷ []) guests last fits.1 rises
    ∙ ap (λ (o : Option Progress). o >>= λ q. after_all machine q []) (end_goes history (done ∷ guests) None few)

pub goes : (journal : Journal) → IsReadable journal → (p : Progress) × (after_all machine Start (spell journal) ≡ Some p) × (finished p [] ≡ Some journal)
goes journal fits = (
  Over journal.history journal.guests,
  entries_go [] journal.history (flat_map done_lines journal.guests ++ end_text journal.history ∷ []) fits.entries (omega (arith, fits.counted))
      ∙ blocks_go journal.history journal.guests fits.counted fits.guests fits.indexes,
  refl,
)

-- ---- line feeds

entries_feed : (history : List Entry) → AllFit IsEntry history → list_all (lacks 10) (map entry_text history) ≡ true
entries_feed [] fits = refl
entries_feed (e ∷ history) fits = rw (line_feed entry_words IsEntry entry_in entry_law e fits.0) (entries_feed history fits.1)

events_feed : (trace : List Event) → AllFit IsEvent trace → list_all (lacks 10) (map event_text trace) ≡ true
events_feed [] fits = refl
events_feed (e ∷ trace) fits = rw (line_feed event_words IsEvent (by_name event_rows) event_law e fits.0) (events_feed trace fits.1)

done_feed : (done : Done) → IsDone done → list_all (lacks 10) (done_lines done) ≡ true
done_feed done fits =
    rw (
      line_lacks_feed (codes "guest" ∷ (decimal done.index ∷ (decimal done.guest ∷ []))) (numbers_law.words (done.index, done.guest) (fits.index, fits.guest)),
      list_all-append (lacks 10) (map event_text done.trace) (over_text done ∷ []),
      events_feed done.trace fits.trace,
      line_lacks_feed (codes "over" ∷ outcome_words done.outcome) (outcome_law.words done.outcome fits.outcome),
    ) refl

guests_feed : (guests : List Done) → AllFit IsDone guests → list_all (lacks 10) (flat_map done_lines guests) ≡ true
guests_feed [] fits = refl
guests_feed (done ∷ guests) fits =
    rw (list_all-append (lacks 10) (done_lines done) (flat_map done_lines guests), done_feed done fits.0) (guests_feed guests fits.1)

pub feed : (journal : Journal) → IsReadable journal → list_all (lacks 10) (spell journal) ≡ true
feed journal fits =
    let last = end_text journal.history ∷ [] in
    rw (
      list_all-append (lacks 10) (map entry_text journal.history) (flat_map done_lines journal.guests ++ last),
      entries_feed journal.history fits.entries,
      list_all-append (lacks 10) (flat_map done_lines journal.guests) last,
      guests_feed journal.guests fits.guests,
      line_lacks_feed (codes "end" ∷ (decimal (length journal.history) ∷ [])) (number_law.words (length journal.history) fits.counted),
    ) refl
