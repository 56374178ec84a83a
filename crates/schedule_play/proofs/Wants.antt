-- Want of memory shows in the blocks: where no block tells it, each step went the one way.
use Rattle.std.specs.Prelude.{◌≡◌, ℕ, ◌+◌, ◌-◌, ◌<◌, Bool, true, false, ◌||◌, nat_le, List, [], ◌∷◌, ◌++◌, length, map, reverse, slice_set, refl, Option, None, Some, is_some}
use Rattle.std.specs.List.{list_any}
use Rattle.std.proofs.Common.{arith, ap, sym, ◌∙◌, inl, inr, zero, suc}
use Rattle.std.proofs.lemmas.Bool.{and_parts, or_left, or_right, leb-true}
use Rattle.std.proofs.lemmas.List.{length-set, length-map, reverse-reverse}
use Rattle.cache_types.specs.declared.entries.Entry.{Entry}
use Rattle.cache_types.specs.declared.outer.Outcome.{Outcome}
use Rattle.cache_types.specs.declared.outer.Outcome.TheVariants as outcome
use Rattle.cache_types.specs.declared.outer.Done.{Done}
use Rattle.player.specs.declared.turn.Turn.{Turn}
use Rattle.player.specs.declared.turn.Turn.TheVariants.{Outer, Over}
use Rattle.player.specs.Plays.{Program, Answered, due}
use Rattle.script_lines.specs.declared.step.Step.{Step}
use Rattle.schedule_play.specs.Schedule.{Seat, Moved, World, seat_at, stop_seat, makes_end, due_of, is_closed, outcome_in, stopped, turned, next_answer, left_after, Goes, MayTurn, StepGives, PlayGives, start_of, closed_turn, closed, blocks_from, IsPlayed, is_step_of, are_steps_of, new_seat}
use Rattle.schedule_play.specs.Sits.{AllTell}
use Rattle.schedule_play.specs.OneResult.{seat_of, after_step, after_steps, all_closed, played, IsOneResult, is_memory, one_wanted}

-- memory ran out
abbrev pub is_short : Option Outcome → Bool
is_short None = false
is_short (Some ended) = is_memory ended

abbrev pub is_short_seat : Seat → Bool
is_short_seat seat = is_short seat.stopped

abbrev pub any_short : List Seat → Bool
any_short seats = list_any is_short_seat seats

short-closed : (ended : Bool) (o : Option Outcome) → is_short o ≡ true → (ended || is_some o) ≡ true
short-closed ended None short = cc short
short-closed true (Some why) short = refl
short-closed false (Some why) short = refl

-- ---- turns

abbrev is_short_in : Moved → Bool
is_short_in turn = is_short turn.seat.stopped

stopped-short : (past : List Entry) (seat : Seat) (reading : ℕ) → is_short_in (stopped past seat reading outcome.OutOfMemory) ≡ true
stopped-short past seat reading =
    let with : (due : Turn) → is_short_in (makes_end past (stop_seat seat outcome.OutOfMemory) reading due) ≡ true = elim [ Outer call ↦ refl | Over how ↦ refl ]
    in with (due_of (stop_seat seat outcome.OutOfMemory))

module _ (MayWant : Program → List Answered → Type 0) (most reading : ℕ) (answers left : List Answered) (past after : List Entry) (seat moved : Seat) (turn : MayTurn MayWant most reading answers left past seat after moved) where
  -- a guest that was stopped so stays as it is
  turn-keeps : is_short_seat seat ≡ true → is_short_seat moved ≡ true
  turn-keeps short =
      let over : is_closed seat ≡ true = short-closed seat.ended seat.stopped short in
      let same : (turned most reading (next_answer answers) past seat).seat ≡ seat = rw over refl in
      elim turn [
        | inl t ↦ ap is_short_seat (t.is.seat_is ∙ same) ∙ short
        | inr wants ↦ let open_is = wants.open_is in cc (over, open_is)
      ]

  -- where it wasn't, the turn went its one way
  turn-goes : is_short_seat moved ≡ false → Goes most reading answers left past seat after moved
  turn-goes isnt =
      elim turn [
        | inl t ↦ t
        | inr wants ↦
            let short : is_short_seat moved ≡ true = ap is_short_seat wants.is.seat_is ∙ stopped-short past seat reading in
            cc (short, isnt)
      ]

-- ---- seats

any-first : (seat : Seat) (seats : List Seat) → is_short_seat seat ≡ true → any_short (seat ∷ seats) ≡ true
any-first seat seats short = rw short refl

any-later : (seat : Seat) (seats : List Seat) → any_short seats ≡ true → any_short (seat ∷ seats) ≡ true
any-later seat seats short =
    let with : (b : Bool) → (b || any_short seats) ≡ true = elim [ true ↦ refl | false ↦ short ] in with (is_short_seat seat)

set-new : (seats : List Seat) (place : ℕ) (moved : Seat) → place < length seats → is_short_seat moved ≡ true → any_short (slice_set seats place moved) ≡ true
set-new [] place moved within short = absurd (omega arith)
set-new (seat ∷ seats) zero moved within short = any-first moved seats short
set-new (seat ∷ seats) (suc place) moved within short = any-later seat (slice_set seats place moved) (set-new seats place moved (omega arith) short)

set-kept : (seats : List Seat) (place : ℕ) (moved : Seat) → (is_short_seat (seat_at seats place) ≡ true → is_short_seat moved ≡ true) → any_short seats ≡ true → any_short (slice_set seats place moved) ≡ true
set-kept [] place moved keeps short = short
set-kept (seat ∷ seats) zero moved keeps short =
    let with : (b : Bool) → is_short_seat seat ≡ b → (b || any_short seats) ≡ true → any_short (moved ∷ seats) ≡ true =
    elim [ true ↦ λ is _. any-first moved seats (keeps is) | false ↦ λ _ later. any-later moved seats later ]
    in with (is_short_seat seat) refl short
set-kept (seat ∷ seats) (suc place) moved keeps short =
    let with : (b : Bool) → is_short_seat seat ≡ b → (b || any_short seats) ≡ true → any_short (seat ∷ slice_set seats place moved) ≡ true =
    elim [ true ↦ λ is _. any-first seat (slice_set seats place moved) is | false ↦ λ _ later. any-later seat (slice_set seats place moved) (set-kept seats place moved keeps later) ]
    in with (is_short_seat seat) refl short

-- ---- steps

step-keeps : (MayWant : Program → List Answered → Type 0) (most : ℕ) (step : Step) (answers left : List Answered) (world next : World) → StepGives MayWant most step answers left world next → any_short world.seats ≡ true → any_short next.seats ≡ true
step-keeps MayWant most step answers left world next gives short =
    ap any_short gives.seats
    ∙ set-kept world.seats (step.player - 1) gives.seat (turn-keeps MayWant most step.reading answers left world.past next.past (seat_of world step) gives.seat gives.turn) short

play-keeps : (MayWant : Program → List Answered → Type 0) (most : ℕ) (steps : List Step) (answers : List Answered) (world end : World) → PlayGives MayWant most steps answers world end → any_short world.seats ≡ true → any_short end.seats ≡ true
play-keeps MayWant most [] answers world end is short = ap (λ (w : World). any_short w.seats) is.1 ∙ short
play-keeps MayWant most (step ∷ steps) answers world end gives short =
    play-keeps MayWant most steps gives.1 gives.0 end gives.3 (step-keeps MayWant most step answers gives.1 world gives.0 gives.2 short)

step-goes : (MayWant : Program → List Answered → Type 0) (most : ℕ) (step : Step) (answers left : List Answered) (world next : World) → step.player - 1 < length world.seats → StepGives MayWant most step answers left world next → any_short next.seats ≡ false → (left ≡ left_after (seat_of world step) answers) × (next ≡ after_step most answers world step)
step-goes MayWant most step answers left world next within gives isnt =
    let place : ℕ = step.player - 1 in
    let calm : (b : Bool) → is_short_seat gives.seat ≡ b → is_short_seat gives.seat ≡ false =
    elim [ true ↦ λ short. let is : any_short next.seats ≡ true = ap any_short gives.seats ∙ set-new world.seats place gives.seat within short in cc (is, isnt) | false ↦ λ no. no ]
    in
    let goes = turn-goes MayWant most step.reading answers left world.past next.past (seat_of world step) gives.seat gives.turn (calm (is_short_seat gives.seat) refl) in (
      goes.left_is,
      ap (λ (p : List Entry). record { past = p; seats = next.seats }) goes.is.past_is
          ∙ ap (λ (s : List Seat). record { past = (turned most step.reading (next_answer answers) world.past (seat_of world step)).past; seats = s }) (gives.seats ∙ ap (slice_set world.seats place) goes.is.seat_is),
    )

step-within : (count : ℕ) (step : Step) → is_step_of count step ≡ true → step.player - 1 < count
step-within count step is = let parts = and_parts (nat_le 1 step.player) (nat_le step.player count) is in omega (arith, leb-true 1 step.player parts.0, leb-true step.player count parts.1)

play-goes : (MayWant : Program → List Answered → Type 0) (most : ℕ) (steps : List Step) (answers : List Answered) (world end : World) → are_steps_of (length world.seats) steps ≡ true → PlayGives MayWant most steps answers world end → any_short end.seats ≡ false → end ≡ after_steps most answers world steps
play-goes MayWant most [] answers world end good is isnt = is.1
play-goes MayWant most (step ∷ steps) answers world end good gives isnt =
    let next : World = gives.0 in
    let left : List Answered = gives.1 in
    let parts = and_parts (is_step_of (length world.seats) step) (are_steps_of (length world.seats) steps) good in
    let calm : (b : Bool) → any_short next.seats ≡ b → any_short next.seats ≡ false =
    elim [ true ↦ λ short. let is : any_short end.seats ≡ true = play-keeps MayWant most steps left next end gives.3 short in cc (is, isnt) | false ↦ λ no. no ]
    in
    let one = step-goes MayWant most step answers left world next (step-within (length world.seats) step parts.0) gives.2 (calm (any_short next.seats) refl) in
    let count : length next.seats ≡ length world.seats = ap (λ (w : World). length w.seats) one.1 ∙ length-set world.seats (step.player - 1) (turned most step.reading (next_answer answers) world.past (seat_of world step)).seat in
    play-goes MayWant most steps left next end (ap (λ n. are_steps_of n steps) count ∙ parts.1) gives.3 isnt
    ∙ (ap (λ (l : List Answered). after_steps most l next steps) one.0 ∙ ap (λ (w : World). after_steps most (left_after (seat_of world step) answers) w steps) one.1)

-- ---- closing, and blocks

closed-turn-keeps : (past : List Entry) (seat : Seat) → is_short_seat seat ≡ true → is_short_seat (closed_turn past seat).seat ≡ true
closed-turn-keeps past seat short = let over : is_closed seat ≡ true = short-closed seat.ended seat.stopped short in rw over short

any-append : (xs ys : List Seat) → any_short (xs ++ ys) ≡ (any_short xs || any_short ys)
any-append [] ys = refl
any-append (x ∷ xs) ys =
    let with : (b : Bool) → (b || any_short (xs ++ ys)) ≡ ((b || any_short xs) || any_short ys) = elim [ true ↦ refl | false ↦ any-append xs ys ] in
    with (is_short_seat x)

closed-keeps-over : (past : List Entry) (over seats : List Seat) → any_short over ≡ true → any_short (closed past over seats).seats ≡ true
closed-keeps-over past over [] short = short
closed-keeps-over past over (seat ∷ seats) short =
    let seat_over : Seat = (closed_turn past seat).seat in
    closed-keeps-over (closed_turn past seat).past (over ++ seat_over ∷ []) seats (any-append over (seat_over ∷ []) ∙ or_left (any_short over) (any_short (seat_over ∷ [])) short)

closed-keeps : (past : List Entry) (over seats : List Seat) → any_short seats ≡ true → any_short (closed past over seats).seats ≡ true
closed-keeps past over [] short = cc short
closed-keeps past over (seat ∷ seats) short =
    let seat_over : Seat = (closed_turn past seat).seat in
    let here : is_short_seat seat ≡ true → any_short (over ++ seat_over ∷ []) ≡ true = λ is.
    any-append over (seat_over ∷ []) ∙ or_right (any_short over) (any_short (seat_over ∷ [])) (any-first seat_over [] (closed-turn-keeps past seat is))
    in
    let with : (b : Bool) → is_short_seat seat ≡ b → (b || any_short seats) ≡ true → any_short (closed (closed_turn past seat).past (over ++ seat_over ∷ []) seats).seats ≡ true =
    elim [
      | true ↦ λ is _. closed-keeps-over (closed_turn past seat).past (over ++ seat_over ∷ []) seats (here is)
      | false ↦ λ _ later. closed-keeps (closed_turn past seat).past (over ++ seat_over ∷ []) seats later
    ]
    in with (is_short_seat seat) refl short

-- a guest that was stopped for want of memory tells it
short-told : (program : Program) (trace : List Answered) (ended : Bool) (stopped : Option Outcome) → (how : Outcome) → due program trace ended stopped ≡ Over how → is_short stopped ≡ true → is_memory (outcome_in (due program trace ended stopped)) ≡ true
short-told program trace ended None how is short = cc short
short-told program [] ended (Some why) how is short = short
short-told program (begin ∷ trace) true (Some why) how is short = short
short-told program (begin ∷ trace) false (Some why) how is short = cc is

blocks-tell : (index : ℕ) (seats : List Seat) → AllTell seats → any_short seats ≡ true → one_wanted (blocks_from index seats) ≡ true
blocks-tell index [] tell short = cc short
blocks-tell index (seat ∷ seats) tell short =
    let with : (b : Bool) → is_short_seat seat ≡ b → (b || any_short seats) ≡ true → one_wanted (blocks_from index (seat ∷ seats)) ≡ true =
    elim [
      | true ↦ λ is _. or_left (is_memory (outcome_in (due_of seat))) (one_wanted (blocks_from (index + 1) seats)) (short-told seat.program seat.trace seat.ended seat.stopped tell.0.0 tell.0.1 is)
      | false ↦ λ _ later. or_right (is_memory (outcome_in (due_of seat))) (one_wanted (blocks_from (index + 1) seats)) (blocks-tell (index + 1) seats tell.1 later)
    ]
    in with (is_short_seat seat) refl short

-- a schedule has one result where no block tells want of memory
pub one-result : (MayWant : Program → List Answered → Type 0) (most : ℕ) (programs : List Program) (steps : List Step) (answers : List Answered) (history : List Entry) (blocks : List Done) → are_steps_of (length programs) steps ≡ true → (is_played : IsPlayed MayWant most programs steps answers history blocks) → AllTell (all_closed is_played.last).seats → one_wanted blocks ≡ false → IsOneResult most programs steps answers history blocks
one-result MayWant most programs steps answers history blocks good is_played tell isnt =
    let last : World = is_played.last in
    let none : one_wanted (blocks_from 1 (all_closed last).seats) ≡ false = ap one_wanted (sym is_played.blocks_are) ∙ isnt in
    let at_end : (b : Bool) → any_short (all_closed last).seats ≡ b → any_short (all_closed last).seats ≡ false =
    elim [ true ↦ λ short. let one : one_wanted (blocks_from 1 (all_closed last).seats) ≡ true = blocks-tell 1 (all_closed last).seats tell short in cc (one, none) | false ↦ λ no_one. no_one ]
    in
    let told : any_short (all_closed last).seats ≡ false = at_end (any_short (all_closed last).seats) refl in
    let calm : (b : Bool) → any_short last.seats ≡ b → any_short last.seats ≡ false =
    elim [ true ↦ λ short. let is : any_short (all_closed last).seats ≡ true = closed-keeps last.past [] last.seats short in cc (is, told) | false ↦ λ no. no ]
    in
    let in_range : are_steps_of (length (map new_seat programs)) steps ≡ true = ap (λ n. are_steps_of n steps) (length-map programs new_seat) ∙ good in
    let one : last ≡ after_steps most answers (start_of programs) steps = play-goes MayWant most steps answers (start_of programs) last in_range is_played.steps_give (calm (any_short last.seats) refl) in
    let same : all_closed last ≡ played most programs steps answers = ap all_closed one in
    record {
      history_is = sym (reverse-reverse history) ∙ ap reverse (is_played.history_is ∙ ap (λ (w : World). w.past) same);
      blocks_are = is_played.blocks_are ∙ ap (λ (w : World). blocks_from 1 w.seats) same;
    }
