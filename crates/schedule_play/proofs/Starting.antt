-- How a schedule begins and ends for its players.
use Rattle.std.specs.Prelude.{◌≡◌, ℕ, ◌+◌, Bool, false, List, [], ◌∷◌, ◌++◌, length, map, refl, IsTrue, Option, None, Some}
use Rattle.std.proofs.Common.{arith, ap, sym, ◌∙◌, subst, zero, suc}
use Rattle.cache_types.specs.declared.entries.Entry.{Entry}
use Rattle.cache_types.specs.declared.outer.Outcome.{Outcome}
use Rattle.cache_types.specs.declared.outer.OuterCall.{OuterCall}
use Rattle.cache_types.specs.declared.outer.OuterReply.{OuterReply}
use Rattle.edge_outside.specs.Made.{Made}
use Rattle.cache_types.specs.declared.outer.Done.{Done}
use Rattle.cache_types.specs.Entries.{newest_first}
use Rattle.script_lines.specs.declared.step.Step.{Step}
use Rattle.player.specs.Plays.{Program, Answered}
use Rattle.schedule_play.specs.declared.place.Place.{Place}
use Rattle.schedule_play.specs.Schedule.{Seat, World, new_seat, blocks_from, IsPlayed, are_steps_of}
use Rattle.schedule_play.specs.Blocks.{HasBlocks}
use Rattle.schedule_play.specs.Ready.{IsSeatState, AllStand, AllOver}
use Rattle.schedule_play.specs.Links.{LinkCall, answers_in}
use Rattle.schedule_play.specs.Scheduled.{IsScheduled}
use Rattle.schedule_play.specs.Sits.{AllSit, AreNew, IsSeated, IsAtPlay, AllMayTell, OverState, AreStepped, AreClosed, AreTold, AllTell, new_places}
use Rattle.schedule_play.specs.OneResult.{IsOneResult, one_wanted}
use Rattle.schedule_play.proofs.TicketLaws.{new-have}
use Rattle.schedule_play.proofs.Wants.{one-result}
use Rattle.schedule_play.proofs.Ends.{start-ready, programs-start, has-blocks}

pub places-count : (count : ℕ) → length (new_places count) ≡ count
places-count zero = refl
places-count (suc count) = let rest = places-count count in omega (arith, rest)

-- one more place
places-next : (count : ℕ) → new_places count ++ record { guest = 0; over = false } ∷ [] ≡ new_places (suc count)
places-next zero = refl
places-next (suc count) = ap (λ rest. record { guest = 0; over = false } ∷ rest) (places-next count)

pub places-more : (count : ℕ) → new_places count ++ record { guest = 0; over = false } ∷ [] ≡ new_places (count + 1)
places-more count = let next : suc count ≡ count + 1 = omega arith in places-next count ∙ ap new_places next

over-state : (past : List Entry) (seat : Seat) (stopped : Option Outcome) → IsSeatState past seat stopped → OverState seat stopped
over-state past seat None state = tt
over-state past seat (Some why) state = state.2

module _ {P : Type 0} (Plays : P → Program → List Answered → Type 0) (stopped : P → Option Outcome) (ended : P → Bool) where
  new-sit : (players : List P) (programs : List Program) → AreNew Plays stopped ended players programs → AllSit Plays stopped ended players (new_places (length players)) (map new_seat programs)
  new-sit [] [] new = tt
  new-sit (player ∷ players) (program ∷ programs) new =
      (record { holds = record { plays = new.0.0; stopped_is = new.0.1; ended_is = new.0.2; guest_is = refl }; over_is = refl }, new-sit players programs new.1)
  new-sit [] (program ∷ programs) new = absurd new
  new-sit (player ∷ players) [] new = absurd new

  -- new players over an empty history
  pub new-seated : (past : List Entry) (players : List P) (places : List Place) (programs : List Program) → past ≡ [] → places ≡ new_places (length players) → AreNew Plays stopped ended players programs → IsSeated Plays stopped ended past players places (map new_seat programs)
  new-seated past players places programs none fresh new = record {
    sit = subst (λ ps. AllSit Plays stopped ended players ps (map new_seat programs)) (sym fresh) (new-sit players programs new);
    ready = rw none (start-ready programs);
  }

  -- players that are over may tell
  pub may-tell : (past : List Entry) (players : List P) (places : List Place) (seats : List Seat) → AllSit Plays stopped ended players places seats → AllOver seats → AllStand past seats → AllMayTell Plays stopped ended players places seats
  may-tell past [] [] [] sit over stand = tt
  may-tell past (player ∷ players) (place ∷ places) (seat ∷ seats) sit over stand =
      (record { sits = sit.0; over = over.0; fresh = stand.0.fresh; state = over-state past seat seat.stopped stand.0.state }, may-tell past players places seats sit.1 over.1 stand.1)
  may-tell past [] [] (seat ∷ seats) sit over stand = absurd sit
  may-tell past [] (place ∷ places) seats sit over stand = absurd sit
  may-tell past (player ∷ players) [] seats sit over stand = absurd sit
  may-tell past (player ∷ players) (place ∷ places) [] sit over stand = absurd sit

  -- and with their tickets
  pub new-at-play : (is_open : ℕ → Type 0) (past : List Entry) (players : List P) (places : List Place) (programs : List Program) → past ≡ [] → places ≡ new_places (length players) → AreNew Plays stopped ended players programs → IsAtPlay Plays stopped ended is_open past players places (map new_seat programs)
  new-at-play is_open past players places programs none fresh new = record { seated = new-seated past players places programs none fresh new; tickets = new-have is_open programs }

  module _ (MayWant : Program → List Answered → Type 0) (is_open : ℕ → Type 0) (most : ℕ) (steps : List Step) (heard : List Answered) (first middle : List Entry) (history : List Entry) (programs : List Program) (none : first ≡ []) (players now : List P) (places there : List Place)
      (stepped : AreStepped Plays stopped ended MayWant is_open most steps heard first (map new_seat programs) middle players places) (all_closed : AreClosed Plays stopped ended middle stepped.next (newest_first history) now there) (blocks : List Done) (told : AreTold all_closed.over blocks) where
    abbrev pub played : IsPlayed MayWant most programs steps heard history blocks
    played = record {
      last = record { past = middle; seats = stepped.next };
      steps_give = rw none at stepped.gives;
      history_is = ap (λ (w : World). w.past) all_closed.is;
      blocks_are = told.blocks_are ∙ ap (λ (w : World). blocks_from 1 w.seats) all_closed.is;
    }

    pub have : HasBlocks history programs blocks
    have = subst (HasBlocks history programs) (sym told.blocks_are) (has-blocks history programs all_closed.over all_closed.seated.ready told.tell (all_closed.programs ∙ (stepped.programs ∙ programs-start programs)))

    pub one : IsTrue (are_steps_of (length programs) steps) → one_wanted blocks ≡ false → IsOneResult most programs steps heard history blocks
    one good calm = one-result MayWant most programs steps heard history blocks good played (subst AllTell (ap (λ (w : World). w.seats) all_closed.is) told.tell) calm

    pub scheduled : {L : Type 0} (R : L → OuterCall → Option OuterReply → L → Type 0) (before after : L) (calls : List LinkCall) → Made R before calls after → heard ≡ answers_in calls → IsTrue (are_steps_of (length programs) steps) → IsScheduled R MayWant most programs steps before after history blocks
    scheduled R before after calls made is good = record {
      calls = calls;
      made = made;
      schedule = subst (λ (l : List Answered). IsPlayed MayWant most programs steps l history blocks) is played;
      one_result = λ calm. subst (λ (l : List Answered). IsOneResult most programs steps l history blocks) is (one good calm);
    }

  pub new-count : (players : List P) (programs : List Program) → AreNew Plays stopped ended players programs → length programs ≡ length players
  new-count [] [] new = refl
  new-count (player ∷ players) (program ∷ programs) new = let rest = new-count players programs new.1 in omega arith
  new-count [] (program ∷ programs) new = absurd new
  new-count (player ∷ players) [] new = absurd new
