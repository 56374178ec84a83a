-- The machine of journals takes exactly what a journal is spelled as.
use Rattle.std.proofs.Common.{◌≡◌, ◌<◌, ◌^◌, ℕ, true, nat_lt, List, [], ◌∷◌, ◌++◌, length, map, refl, sym, ◌∙◌, ap, subst, Option, None, Some, ◌⊎◌, inl, inr, append_assoc, append-nil, arith, lit<, length-append, slice_index_or, zero, suc, ◌+◌}
use Rattle.std.specs.Prelude.{bytes_eq, codes, ◌==◌}
use Rattle.std.specs.List.{flat_map}
use Rattle.std.proofs.lemmas.Bool.{and_parts, eqb-true, ltb-true}
use Rattle.std.proofs.lemmas.Bool.Decides.{nat_tests}
use Rattle.std.proofs.lemmas.List.{map-append}
use Rattle.std.proofs.lemmas.List.Concat.{flat_map-append}
use Rattle.std.proofs.lemmas.Option.{cond_some, same_Some}
use Rattle.cache_types.specs.declared.entries.Entry.{Entry}
use Rattle.cache_types.specs.declared.outer.Outcome.{Outcome}
use Rattle.cache_types.specs.declared.outer.Outcome.TheVariants as outcome
use Rattle.cache_types.specs.declared.outer.Event.{Event}
use Rattle.cache_types.specs.declared.outer.Done.{Done}
use Rattle.edge_words.specs.Words.{line_of}
use Rattle.edge_words.specs.Reading.{AllFit, words_in, ◌>>=◌}
use Rattle.edge_words.proofs.Numbers.{same_bytes}
use Rattle.edge_words.proofs.Laws.{bind_some, map_some}
use Rattle.edge_words.proofs.Lines.{words_takes}
use Rattle.journal_reader.specs.declared.journal.Journal.{Journal}
use Rattle.journal_writer.specs.Journal.{entry_words, entry_text, event_text, outcome_words, guest_text, over_text, done_lines, end_text, journal_lines, rise}
use Rattle.journal_reader.specs.Readable.{IsEntry, IsEvent, IsDone, IsOutcome, IsReadable}
use Rattle.journal_reader.specs.Events.{number_said, numbers_said, event_in, outcome_in}
use Rattle.journal_reader.specs.Entries.{entry_in}
use Rattle.line_reader.specs.ByLines.{Begins}
use Rattle.journal_reader.specs.Machine.{Progress, Start, Entries, Block, Between, Over, done_of, is_above, opens_at, most_entries, entry_more, closes_with, after_blocks, after_events, after_line, finished, spell, entry_lines, lines_to, AreTold, Stands}
use Rattle.edge_words.proofs.ChoiceLaws.{chosen}
use Rattle.journal_reader.proofs.EntryLaws.{entry_law}
use Rattle.journal_reader.proofs.EventLaws.{number_law, numbers_law, two_numbers, event_law, event_named, outcome_law}
use Rattle.journal_reader.proofs.ReplyLaws.{number_words}
use Rattle.line_reader.proofs.LineLaws.{line_takes}

-- ---- one more

pub all_more : {X : Type 0} (Fits : X → Type 0) (xs : List X) (x : X) → AllFit Fits xs → Fits x → AllFit Fits (xs ++ x ∷ [])
all_more Fits [] x fits last = (last, tt)
all_more Fits (first ∷ xs) x fits last = (fits.0, all_more Fits xs x fits.1 last)

pub rise_more : (guests : List Done) (done : Done) → rise guests ≡ true → is_above guests done.index ≡ true → rise (guests ++ done ∷ []) ≡ true
rise_more [] done rises above = refl
rise_more (first ∷ []) done rises above = rw above refl
rise_more (first ∷ (next ∷ guests)) done rises above =
    let both = and_parts (nat_lt first.index next.index) (rise (next ∷ guests)) rises in
    rw (both.0, rise_more (next ∷ guests) done both.1 above) refl

pub rise_above : (front : List Done) (done : Done) (guests : List Done) → rise (front ++ done ∷ guests) ≡ true → is_above front done.index ≡ true
rise_above [] done guests rises = refl
rise_above (first ∷ []) done guests rises = (and_parts (nat_lt first.index done.index) (rise (done ∷ guests)) rises).0
rise_above (first ∷ (next ∷ front)) done guests rises = rise_above (next ∷ front) done guests (and_parts (nat_lt first.index next.index) (rise (next ∷ (front ++ done ∷ guests))) rises).1

done_more : (guests : List Done) (done : Done) → flat_map done_lines (guests ++ done ∷ []) ≡ flat_map done_lines guests ++ done_lines done
done_more guests done =
    flat_map-append done_lines guests (done ∷ []) ∙ ap (λ (ls : List (List ℕ)). flat_map done_lines guests ++ ls) (append-nil (done_lines done))

-- ---- what it takes

abbrev Takes : Progress → List ℕ → Progress → Type 0
Takes p line q = Stands q × (lines_to q ≡ lines_to p ++ line ∷ [])

-- a line of a name and what a reading took
named_line : (line name first : List ℕ) (words rest : List (List ℕ)) → words_in line ≡ first ∷ words → bytes_eq first name ≡ true → words ≡ rest → line ≡ line_of (name ∷ rest)
named_line line name first words rest cut same taken =
    sym (words_takes line) ∙ ap line_of (cut ∙ ap (λ (w : List ℕ). w ∷ words) (same_bytes first name same) ∙ ap (λ (ws : List (List ℕ)). name ∷ ws) taken)

opened_takes : (history : List Entry) (guests : List Done) (said : ℕ × ℕ) (line : List ℕ) (q : Progress) → AreTold history guests → (said.0 < 2 ^ 64) × (said.1 < 2 ^ 64) → line ≡ line_of (codes "guest" ∷ two_numbers said) → opens_at history guests said ≡ Some q → Takes (Between history guests) line q
opened_takes history guests said line q told fits spelled e =
    let P : Progress → Type 0 = λ q. Takes (Between history guests) line q in
    let found = cond_some (is_above guests said.0) (Block history guests said []) q e in
    subst P found.1 (
      (told, found.0, fits, tt),
      ap (λ (l : List ℕ). entry_lines history ++ (flat_map done_lines guests ++ l ∷ [])) (sym spelled)
          ∙ sym (append_assoc (entry_lines history) (flat_map done_lines guests) (line ∷ [])),
    )

closed_takes : (history : List Entry) (guests : List Done) (number : ℕ) (line : List ℕ) (q : Progress) → AreTold history guests → line ≡ line_of (codes "end" ∷ number_words number) → closes_with history guests number ≡ Some q → Takes (Between history guests) line q
closed_takes history guests number line q told spelled e =
    let P : Progress → Type 0 = λ q. Takes (Between history guests) line q in
    let found = cond_some (number == length history) (Over history guests) q e in
    let last : line ≡ end_text history = spelled ∙ ap (λ (n : ℕ). line_of (codes "end" ∷ number_words n)) (eqb-true number (length history) found.0) in
    subst P found.1 (
      told,
      ap (λ (l : List ℕ). entry_lines history ++ (flat_map done_lines guests ++ l ∷ [])) (sym last)
          ∙ sym (append_assoc (entry_lines history) (flat_map done_lines guests) (line ∷ [])),
    )

-- a block, the end, or what another line leads to
blocks_take_words : (history : List Entry) (guests : List Done) (others : Option Progress) (line : List ℕ) (q : Progress) → AreTold history guests
    → (words : List (List ℕ)) → words_in line ≡ words → after_blocks history guests others words ≡ Some q → Takes (Between history guests) line q ⊎ (others ≡ Some q)
blocks_take_words history guests others line q told [] cut e = cc e
blocks_take_words history guests others line q told (name ∷ words) cut e =
    elim (chosen (bytes_eq name (codes "guest")) _ _ (Some q) e) [
      | inl guest ↦
          let said = bind_some (numbers_said words) (opens_at history guests) q guest.1 in
          let taken = numbers_law.takes words said.0 said.1 in
          inl (opened_takes history guests said.0 line q told taken.1 (named_line line (codes "guest") name words (two_numbers said.0) cut guest.0 taken.0) said.2)
      | inr other ↦
          elim (chosen (bytes_eq name (codes "end")) _ _ (Some q) other.1) [
            | inl end ↦
                let said = bind_some (number_said words) (closes_with history guests) q end.1 in
                let taken = number_law.takes words said.0 said.1 in
                inl (closed_takes history guests said.0 line q told (named_line line (codes "end") name words (number_words said.0) cut end.0 taken.0) said.2)
            | inr left ↦ inr left.1
          ]
    ]

entry_taken : (history : List Entry) (e : Entry) (line : List ℕ) (q : Progress) → AreTold history [] → IsEntry e → line ≡ entry_text e → entry_more history e ≡ Some q → Takes (Entries history) line q
entry_taken history e line q told fits spelled more =
    let found = cond_some (nat_lt (length history) most_entries) (Entries (history ++ e ∷ [])) q more in
    let room = ltb-true (length history) most_entries found.0 in
    let P : Progress → Type 0 = λ q. Takes (Entries history) line q in
    subst P found.1 (
      record {
        entries = all_more IsEntry history e told.entries fits;
        counted = omega (arith, room, length-append history (e ∷ []));
        guests = tt;
        indexes = refl;
      },
      ap (λ (ls : List (List ℕ)). codes "edge-journal 1" ∷ ls) (map-append entry_text history (e ∷ []))
          ∙ ap (λ (l : List ℕ). entry_lines history ++ l ∷ []) (sym spelled),
    )

entry_takes : (history : List Entry) (line : List ℕ) (q : Progress) → AreTold history [] → (entry_in (words_in line) >>= entry_more history) ≡ Some q → Takes (Entries history) line q
entry_takes history line q told e =
    let read = bind_some (entry_in (words_in line)) (entry_more history) q e in
    let found = line_takes entry_words IsEntry entry_in entry_law line read.0 read.1 in
    entry_taken history read.0 line q told found.1 found.0 read.2

entries_take : (history : List Entry) (line : List ℕ) (q : Progress) → AreTold history [] → after_line (Entries history) line ≡ Some q → Takes (Entries history) line q
entries_take history line q told e =
    elim (blocks_take_words history [] (entry_in (words_in line) >>= entry_more history) line q told (words_in line) refl e) [
      | inl taken ↦ (taken.0, taken.1 ∙ ap (λ (ls : List (List ℕ)). ls ++ line ∷ []) (append-nil (entry_lines history)))
      | inr entry ↦ entry_takes history line q told entry
    ]

between_takes : (history : List Entry) (guests : List Done) (line : List ℕ) (q : Progress) → AreTold history guests → after_line (Between history guests) line ≡ Some q → Takes (Between history guests) line q
between_takes history guests line q told e =
    elim (blocks_take_words history guests None line q told (words_in line) refl e) [ inl taken ↦ taken | inr none ↦ cc none ]

-- the lines up to a block that is open
abbrev open_lines : List Entry → List Done → ℕ × ℕ → List Event → List (List ℕ)
open_lines history guests said trace = lines_to (Block history guests said trace)

-- one more line behind an open block
open_more : (history : List Entry) (guests : List Done) (said : ℕ × ℕ) (trace : List Event) (line : List ℕ)
    → entry_lines history ++ (flat_map done_lines guests ++ (guest_text (done_of said trace outcome.Returned) ∷ (map event_text trace ++ line ∷ []))) ≡ open_lines history guests said trace ++ line ∷ []
open_more history guests said trace line =
    let block = guest_text (done_of said trace outcome.Returned) ∷ map event_text trace in
    ap (λ (ls : List (List ℕ)). entry_lines history ++ ls) (sym (append_assoc (flat_map done_lines guests) block (line ∷ [])))
    ∙ sym (append_assoc (entry_lines history) (flat_map done_lines guests ++ block) (line ∷ []))

over_takes : (history : List Entry) (guests : List Done) (said : ℕ × ℕ) (trace : List Event) (result : Outcome) (line : List ℕ) → Stands (Block history guests said trace) → IsOutcome result → line ≡ line_of (codes "over" ∷ outcome_words result) → Takes (Block history guests said trace) line (Between history (guests ++ done_of said trace result ∷ []))
over_takes history guests said trace result line stands fits spelled =
    let done = done_of said trace result in (
      record {
        entries = stands.0.entries;
        counted = stands.0.counted;
        guests = all_more IsDone guests done stands.0.guests (record {
          index = stands.2.0;
          guest = stands.2.1;
          trace = stands.3;
          outcome = fits;
        });
        indexes = rise_more guests done stands.0.indexes stands.1;
      },
      ap (λ (ls : List (List ℕ)). entry_lines history ++ ls) (done_more guests done)
          ∙ ap (λ (l : List ℕ). entry_lines history ++ (flat_map done_lines guests ++ (guest_text done ∷ (map event_text trace ++ l ∷ [])))) (sym spelled)
          ∙ open_more history guests said trace line,
    )

event_takes : (history : List Entry) (guests : List Done) (said : ℕ × ℕ) (trace : List Event) (e : Event) (line : List ℕ) → Stands (Block history guests said trace) → IsEvent e → line ≡ event_text e → Takes (Block history guests said trace) line (Block history guests said (trace ++ e ∷ []))
event_takes history guests said trace e line stands fits spelled = (
  (stands.0, stands.1, stands.2, all_more IsEvent trace e stands.3 fits),
  ap (λ (ls : List (List ℕ)). entry_lines history ++ (flat_map done_lines guests ++ (guest_text (done_of said trace outcome.Returned) ∷ ls))) (map-append event_text trace (e ∷ []))
      ∙ ap (λ (l : List ℕ). entry_lines history ++ (flat_map done_lines guests ++ (guest_text (done_of said trace outcome.Returned) ∷ (map event_text trace ++ l ∷ [])))) (sym spelled)
      ∙ open_more history guests said trace line,
)

block_takes_words : (history : List Entry) (guests : List Done) (said : ℕ × ℕ) (trace : List Event) (line : List ℕ) (q : Progress) → Stands (Block history guests said trace)
    → (words : List (List ℕ)) → words_in line ≡ words → after_events history guests said trace words ≡ Some q → Takes (Block history guests said trace) line q
block_takes_words history guests said trace line q stands [] cut e = cc e
block_takes_words history guests said trace line q stands (name ∷ words) cut e =
    let P : Progress → Type 0 = λ q. Takes (Block history guests said trace) line q in
    elim (chosen (bytes_eq name (codes "over")) _ _ (Some q) e) [
      | inl last ↦
          let read = map_some (λ (result : Outcome). Between history (guests ++ done_of said trace result ∷ [])) (outcome_in words) q last.1 in
          let taken = outcome_law.takes words read.0 read.1 in
          subst P read.2 (over_takes history guests said trace read.0 line stands taken.1 (named_line line (codes "over") name words (outcome_words read.0) cut last.0 taken.0))
      | inr other ↦
          let read = map_some (λ (event : Event). Block history guests said (trace ++ event ∷ [])) (event_in name words) q other.1 in
          let taken = event_law.takes (name ∷ words) read.0 (sym (event_named name words) ∙ read.1) in
          subst P read.2 (event_takes history guests said trace read.0 line stands taken.1 (sym (words_takes line) ∙ ap line_of (cut ∙ taken.0)))
    ]

none_told : AreTold [] []
none_told = record { entries = tt; counted = lit< tt; guests = tt; indexes = refl }

pub takes : (p q : Progress) (line : List ℕ) → Stands p → after_line p line ≡ Some q → Takes p line q
takes Start q line stands e =
    let P : Progress → Type 0 = λ q. Takes Start line q in
    let found = cond_some (bytes_eq line (codes "edge-journal 1")) (Entries []) q e in
    subst P found.1 (none_told, ap (λ (l : List ℕ). l ∷ []) (sym (same_bytes _ _ found.0)))
takes (Entries history) q line stands e = entries_take history line q stands e
takes (Block history guests said trace) q line stands e = block_takes_words history guests said trace line q stands (words_in line) refl e
takes (Between history guests) q line stands e = between_takes history guests line q stands e
takes (Over history guests) q line stands e = cc e

-- ---- each state has a finished text

pub begins : (p : Progress) → Stands p → Begins IsReadable spell (lines_to p)
begins Start stands = record {
  value = record { history = []; guests = [] };
  fits = none_told;
  rest = journal_lines [] [];
  begins = refl;
}
begins (Entries history) stands = record {
  value = record { history = history; guests = [] };
  fits = stands;
  rest = end_text history ∷ [];
  begins = refl;
}
begins (Block history guests said trace) stands =
    let done = done_of said trace outcome.Returned in
    let last = end_text history ∷ [] in
    let block = guest_text done ∷ map event_text trace in
    let regrouped =
    append_assoc (flat_map done_lines guests) (done_lines done) last
    ∙ ap (λ (ls : List (List ℕ)). flat_map done_lines guests ++ (guest_text done ∷ ls)) (append_assoc (map event_text trace) (over_text done ∷ []) last)
    ∙ sym (append_assoc (flat_map done_lines guests) block (over_text done ∷ last)) in
    record {
      value = record { history = history; guests = guests ++ done ∷ [] };
      fits = (over_takes history guests said trace outcome.Returned (over_text done) stands tt refl).0;
      rest = over_text done ∷ last;
      begins =
          ap (λ (ls : List (List ℕ)). entry_lines history ++ (ls ++ last)) (done_more guests done)
          ∙ ap (λ (ls : List (List ℕ)). entry_lines history ++ ls) (regrouped)
          ∙ sym (append_assoc (entry_lines history) (flat_map done_lines guests ++ block) (over_text done ∷ last));
    }
begins (Between history guests) stands = record {
  value = record { history = history; guests = guests };
  fits = stands;
  rest = end_text history ∷ [];
  begins = sym (append_assoc (entry_lines history) (flat_map done_lines guests) (end_text history ∷ []));
}
begins (Over history guests) stands = record {
  value = record { history = history; guests = guests };
  fits = stands;
  rest = [];
  begins = sym (append-nil (journal_lines history guests));
}

pub ends : (p : Progress) (rest : List ℕ) (journal : Journal) → Stands p → finished p rest ≡ Some journal → IsReadable journal × (spell journal ≡ lines_to p) × (rest ≡ [])
ends Start rest journal stands e = cc e
ends (Entries history) rest journal stands e = cc e
ends (Block history guests said trace) rest journal stands e = cc e
ends (Between history guests) rest journal stands e = cc e
ends (Over history guests) [] journal stands e =
    let P : Journal → Type 0 = λ j. IsReadable j × (spell j ≡ journal_lines history guests) in
    let same = subst P (same_Some _ _ e) (stands, refl) in
    (same.0, same.1, refl)
ends (Over history guests) (b ∷ rest) journal stands e = cc e

-- the index of the last block
pub above_at : (guests : List Done) (other : Done) (index n : ℕ) → length guests ≡ n + 1 → nat_lt (slice_index_or guests n other).index index ≡ is_above guests index
above_at [] other index n e = absurd (omega (arith, e))
above_at (done ∷ []) other index zero e = refl
above_at (done ∷ []) other index (suc n) e = absurd (omega (arith, e))
above_at (done ∷ (next ∷ guests)) other index zero e = absurd (omega (arith, e))
above_at (done ∷ (next ∷ guests)) other index (suc n) e = above_at (next ∷ guests) other index n (omega (arith, e))

-- so many entries as memory holds can be counted
pub entry_added : (history : List Entry) (e : Entry) → length history < 2 ^ 63 → entry_more history e ≡ Some (Entries (history ++ e ∷ []))
entry_added history e few =
    let room : nat_lt (length history) most_entries ≡ true = grind (arith, nat_tests) in
    rw room refl
