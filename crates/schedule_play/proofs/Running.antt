-- Steps that were taken, and guests that were closed.
use Rattle.std.specs.Prelude.{◌≡◌, ℕ, ◌+◌, ◌<◌, ◌≤◌, Bool, List, [], ◌∷◌, ◌++◌, length, take, drop, refl, Option}
use Rattle.std.proofs.Common.{arith, ap, sym, ◌∙◌, subst, append_assoc, append-nil}
use Rattle.std.proofs.lemmas.List.{take_all, drop_all}
use Rattle.std.proofs.lemmas.List.Elements.{filter_map-append}
use Rattle.cache_types.specs.declared.entries.Entry.{Entry}
use Rattle.cache_types.specs.declared.outer.Outcome.{Outcome}
use Rattle.script_lines.specs.declared.step.Step.{Step}
use Rattle.player.specs.Plays.{Program, Answered}
use Rattle.schedule_play.specs.declared.place.Place.{Place}
use Rattle.schedule_play.specs.Links.{LinkCall, answered_call, answers_in}
use Rattle.schedule_play.specs.Schedule.{Seat, PlayGives, seat_at, closed_turn, closed}
use Rattle.schedule_play.specs.Ready.{AllOver}
use Rattle.schedule_play.specs.Sits.{IsAtPlay, IsStepped, AreStepped, RunsOn, ClosesAt, ClosesOn, AreClosed}
use Rattle.schedule_play.proofs.Closings.{close-step, over-step}
use Rattle.schedule_play.proofs.Programs.{programs-set, closed-program}
use Rattle.schedule_play.proofs.Sitting.{sit-count}

-- the answers to calls, and to later ones
pub answers-more : (calls more : List LinkCall) → answers_in (calls ++ more) ≡ answers_in calls ++ answers_in more
answers-more calls more = filter_map-append answered_call calls more

module _ {P : Type 0} (Plays : P → Program → List Answered → Type 0) (stopped : P → Option Outcome) (ended : P → Bool) (MayWant : Program → List Answered → Type 0) where
  -- one more step
  pub runs-more : (is_open later : ℕ → Type 0) (most : ℕ) (steps left : List Step) (step : Step) (before : List Step) (heard more : List Answered) (first past after : List Entry) (seats : List Seat) (players now : List P) (places there : List Place)
      → before ≡ step ∷ left → (on : RunsOn Plays stopped ended MayWant is_open most steps before heard first seats past players places) → IsStepped Plays stopped ended MayWant later most step more past on.now after now there → RunsOn Plays stopped ended MayWant later most steps left (heard ++ more) first seats after now there
  runs-more is_open later most steps left step before heard more first past after seats players now places there is on gives = record {
    now = gives.next;
    at_play = gives.at_play;
    programs = gives.programs ∙ on.programs;
    rest = λ end others plays.
        let all = on.rest end (more ++ others) (subst (λ (ss : List Step). PlayGives MayWant most ss (more ++ others) (record { past = past; seats = on.now }) end) (sym is) (record { past = after; seats = gives.next }, others, gives.gives others, plays)) in
        let flat : (heard ++ more) ++ others ≡ heard ++ (more ++ others) = simp append_assoc in
        subst (λ (l : List Answered). PlayGives MayWant most steps l (record { past = first; seats = seats }) end) (sym flat) all;
  }

module _ {P : Type 0} (Plays : P → Program → List Answered → Type 0) (stopped : P → Option Outcome) (ended : P → Bool) (MayWant : Program → List Answered → Type 0) (is_open : ℕ → Type 0) where
  -- before the first step
  pub runs-none : (most : ℕ) (steps : List Step) (past : List Entry) (seats : List Seat) (players : List P) (places : List Place) → IsAtPlay Plays stopped ended is_open past players places seats → RunsOn Plays stopped ended MayWant is_open most steps steps [] past seats past players places
  runs-none most steps past seats players places play = record { now = seats; at_play = play; programs = refl; rest = λ end more plays. plays }

  -- all steps were taken
  pub runs-all : (most : ℕ) (steps left : List Step) (heard : List Answered) (first past : List Entry) (seats : List Seat) (players : List P) (places : List Place) → left ≡ [] → RunsOn Plays stopped ended MayWant is_open most steps left heard first seats past players places → AreStepped Plays stopped ended MayWant is_open most steps heard first seats past players places
  runs-all most steps left heard first past seats players places none on =
      let flat : heard ++ [] ≡ heard = simp append-nil in
      let rest : PlayGives MayWant most left [] (record { past = past; seats = on.now }) (record { past = past; seats = on.now }) = rw none (refl, refl) in
      record {
        next = on.now;
        at_play = on.at_play;
        gives = subst (λ (l : List Answered). PlayGives MayWant most steps l (record { past = first; seats = seats }) (record { past = past; seats = on.now })) flat (on.rest (record { past = past; seats = on.now }) [] rest);
        programs = on.programs;
      }

module _ {P : Type 0} (Plays : P → Program → List Answered → Type 0) (stopped : P → Option Outcome) (ended : P → Bool) where
  -- one more guest is closed
  pub closes-more : (at : ℕ) (first past after : List Entry) (seats : List Seat) (players now : List P) (places there : List Place) → at < length players
      → (on : ClosesOn Plays stopped ended at first seats past players places) → ClosesAt Plays stopped ended at past on.now after now there → ClosesOn Plays stopped ended (at + 1) first seats after now there
  closes-more at first past after seats players now places there within on gives =
      let count = sit-count Plays stopped ended players places on.now on.seated.sit in
      let in_world : at < length on.now = omega (arith, count) in
      record {
        now = _;
        seated = gives.seated;
        programs = programs-set at on.now (closed_turn past (seat_at on.now at)).seat (closed-program past (seat_at on.now at)) ∙ on.programs;
        all = over-step past on.now _ at in_world refl on.all;
        rest = close-step past after on.now _ at in_world gives.past_is refl ∙ on.rest;
      }

  -- all guests are closed
  pub closes-all : (at : ℕ) (first past : List Entry) (seats : List Seat) (players : List P) (places : List Place) → length players ≤ at → (on : ClosesOn Plays stopped ended at first seats past players places) → AreClosed Plays stopped ended first seats past players places
  closes-all at first past seats players places end on =
      let count = sit-count Plays stopped ended players places on.now on.seated.sit in
      let whole : take at on.now ≡ on.now = take_all at on.now (omega (arith, count)) in
      let none : drop at on.now ≡ [] = drop_all at on.now (omega (arith, count)) in
      record {
        over = on.now;
        seated = on.seated;
        all = subst AllOver whole on.all;
        is = sym (ap (λ (l : List Seat). closed past l []) whole) ∙ (sym (ap (closed past (take at on.now)) none) ∙ on.rest);
        programs = on.programs;
      }
