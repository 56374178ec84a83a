-- Players whose blocks are told, one after the other.
use Rattle.std.specs.Prelude.{◌≡◌, ℕ, ◌+◌, ◌<◌, ◌≤◌, Bool, true, false, ◌||◌, None, Some, is_some, List, [], ◌∷◌, ◌++◌, length, take, drop, slice_set, refl, Option}
use Rattle.std.specs.List.{slice_index_or}
use Rattle.std.proofs.Common.{inl, inr, arith, ap, sym, ◌∙◌, subst, zero, suc, add-one, append_assoc, append-nil}
use Rattle.std.proofs.Math.Seq.{drop-cons}
use Rattle.std.proofs.lemmas.List.{take_all, drop_all}
use Rattle.cache_types.specs.declared.outer.Outcome.{Outcome}
use Rattle.cache_types.specs.declared.outer.Done.{Done}
use Rattle.cache_types.specs.declared.outer.OuterCall.{OuterCall}
use Rattle.player.specs.declared.turn.Turn.TheVariants.{Outer, Over}
use Rattle.player.specs.Plays.{Program, Answered, due, stopped_due}
use Rattle.player.specs.May.{MayTake, IsStopAfter}
use Rattle.schedule_play.specs.declared.place.Place.{Place}
use Rattle.schedule_play.specs.Schedule.{Seat, seat_at, no_seat, due_of, blocks_from}
use Rattle.schedule_play.specs.Sits.{MayTell, OverState, IsTold, AllMayTell, AllTell, AreTold, TellsOn}
use Rattle.schedule_play.proofs.Closings.{drop-set_before}

tell-push : (seats : List Seat) (at : ℕ) → at < length seats → (how : Outcome) → due_of (seat_at seats at) ≡ Over how → AllTell (take at seats) → AllTell (take (suc at) seats)
tell-push [] at within how is tell = absurd (omega arith)
tell-push (seat ∷ seats) zero within how is tell = ((how, is), tt)
tell-push (seat ∷ seats) (suc at) within how is tell = (tell.0, tell-push seats at (omega arith) how is tell.1)

module _ {P : Type 0} (Plays : P → Program → List Answered → Type 0) (stopped : P → Option Outcome) (ended : P → Bool) where
  pub tell-count : (players : List P) (places : List Place) (seats : List Seat) → AllMayTell Plays stopped ended players places seats → length seats ≡ length players
  tell-count [] [] [] all = refl
  tell-count (player ∷ players) (place ∷ places) (seat ∷ seats) all = let rest = tell-count players places seats all.1 in omega arith
  tell-count [] [] (seat ∷ seats) all = absurd all
  tell-count [] (place ∷ places) seats all = absurd all
  tell-count (player ∷ players) [] seats all = absurd all
  tell-count (player ∷ players) (place ∷ places) [] all = absurd all

  -- the player at the place may tell, and so may those after it
  pub tells-here : (players : List P) (places : List Place) (seats : List Seat) (at : ℕ) (d : P) (e : Place) → at < length players → at < length places → at < length seats → AllMayTell Plays stopped ended (drop at players) (drop at places) (drop at seats)
      → MayTell Plays stopped ended (slice_index_or players at d) (slice_index_or places at e) (seat_at seats at) × AllMayTell Plays stopped ended (drop (suc at) players) (drop (suc at) places) (drop (suc at) seats)
  tells-here [] places seats at d e one two three all = absurd (omega arith)
  tells-here (p ∷ players) [] seats at d e one two three all = absurd (omega arith)
  tells-here (p ∷ players) (q ∷ places) [] at d e one two three all = absurd (omega arith)
  tells-here (p ∷ players) (q ∷ places) (s ∷ seats) zero d e one two three all = (all.0, all.1)
  tells-here (p ∷ players) (q ∷ places) (s ∷ seats) (suc at) d e one two three all = tells-here players places seats at d e (omega arith) (omega arith) (omega arith) all

  -- one more block
  pub tells-more : (at : ℕ) (players : List P) (places : List Place) (seats : List Seat) (blocks : List Done) (d now : P) (e : Place) (block : Done) → at < length players → at < length places → at < length seats → TellsOn Plays stopped ended at players places seats blocks → IsTold (at + 1) (seat_at seats at) block → TellsOn Plays stopped ended (at + 1) (slice_set players at now) places seats (blocks ++ block ∷ [])
  tells-more at players places seats blocks d now e block one two three on told =
      let rest : drop at seats ≡ seat_at seats at ∷ drop (suc at) seats = drop-cons seats at no_seat three in
      let next : drop (at + 1) seats ≡ drop (suc at) seats = rw add-one refl in
      let assoc : (blocks ++ block ∷ []) ++ blocks_from (at + 1 + 1) (drop (suc at) seats) ≡ blocks ++ block ∷ blocks_from (at + 1 + 1) (drop (suc at) seats) = simp append_assoc in
      let left = (tells-here players places seats at d e one two three on.left).1 in
      record {
        left = rw (add-one, drop-set_before players at now) left;
        rest = rw next (assoc ∙ (ap (λ b. blocks ++ b ∷ blocks_from (at + 1 + 1) (drop (suc at) seats)) told.block_is ∙ (ap (λ ss. blocks ++ blocks_from (at + 1) ss) (sym rest) ∙ on.rest)));
        tell = rw add-one (tell-push seats at three told.how told.due_is on.tell);
      }

  -- all of them
  pub tells-all : (at : ℕ) (players : List P) (places : List Place) (seats : List Seat) (blocks : List Done) → length seats ≤ at → TellsOn Plays stopped ended at players places seats blocks → AreTold seats blocks
  tells-all at players places seats blocks end on =
      let none : drop at seats ≡ [] = drop_all at seats end in
      let flat : blocks ++ [] ≡ blocks = simp append-nil in
      record {
        blocks_are = sym flat ∙ (ap (λ ss. blocks ++ blocks_from (at + 1) ss) (sym none) ∙ on.rest);
        tell = subst AllTell (take_all at seats end) on.tell;
      }

-- a guest that is over asks nothing more
stopped-none : (Wants : Type 0) (ended : Bool) (why now : Option Outcome) → IsStopAfter Wants ended why now → is_some why ≡ true → now ≡ why
stopped-none Wants ended None now is some = cc some
stopped-none Wants ended (Some why) now is some = is

over-due : (seat : Seat) (call : OuterCall) (stopped : Option Outcome) → OverState seat stopped → is_some stopped ≡ true → seat.ended ≡ false → Outer call ≡ due seat.program seat.trace seat.ended stopped → ⊥
over-due seat call None state some goes is = cc some
over-due seat call (Some why) state some goes is = elim state [
  | inl none ↦ never why (subst (λ (t : List Answered). Outer call ≡ stopped_due t seat.ended why) none is)
  | inr ended ↦ cc (ended, goes)
]
  where
    never : (why : Outcome) → Outer call ≡ Over why → ⊥
    never why is = cc is

module _ {P : Type 0} (Plays : P → Program → List Answered → Type 0) (stopped : P → Option Outcome) (ended : P → Bool) (MayWant : Program → List Answered → Type 0) (player now : P) (place : Place) (seat : Seat) (call : OuterCall) (tells : MayTell Plays stopped ended player place seat) where
  pub over-asks : ended now ≡ ended player → IsStopAfter (MayWant seat.program seat.trace) (ended player) (stopped player) (stopped now) → Outer call ≡ due seat.program seat.trace (ended now) (stopped now) → MayTake seat.trace (ended now) (stopped now) (Outer call) → ⊥
  over-asks same stop is may =
      let goes : seat.ended ≡ false = sym tells.sits.holds.ended_is ∙ (sym same ∙ may.0) in
      let some : is_some seat.stopped ≡ true = or-right seat.ended (is_some seat.stopped) goes tells.over in
      let was : stopped now ≡ stopped player = stopped-none (MayWant seat.program seat.trace) (ended player) (stopped player) (stopped now) stop (ap is_some tells.sits.holds.stopped_is ∙ some) in
      over-due seat call seat.stopped tells.state some goes (is ∙ (ap (λ e. due seat.program seat.trace e (stopped now)) (same ∙ tells.sits.holds.ended_is) ∙ ap (due seat.program seat.trace seat.ended) (was ∙ tells.sits.holds.stopped_is)))
    where
      or-right : (a b : Bool) → a ≡ false → (a || b) ≡ true → b ≡ true
      or-right true b goes is = cc goes
      or-right false b goes is = is
