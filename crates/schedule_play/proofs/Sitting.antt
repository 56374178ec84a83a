-- Players, places and seats, one of which changes.
use Rattle.std.specs.Prelude.{◌≡◌, ℕ, ◌<◌, Bool, List, [], ◌∷◌, length, slice_set, refl, Option}
use Rattle.std.specs.List.{slice_index_or}
use Rattle.std.proofs.Common.{arith, zero, suc}
use Rattle.cache_types.specs.declared.outer.Outcome.{Outcome}
use Rattle.player.specs.Plays.{Program, Answered}
use Rattle.schedule_play.specs.declared.place.Place.{Place}
use Rattle.schedule_play.specs.Schedule.{Seat, seat_at}
use Rattle.schedule_play.specs.Sits.{Sits, AllSit}

module _ {P : Type 0} (Plays : P → Program → List Answered → Type 0) (stopped : P → Option Outcome) (ended : P → Bool) where
  pub sit-count : (players : List P) (places : List Place) (seats : List Seat) → AllSit Plays stopped ended players places seats → length seats ≡ length players
  sit-count [] [] [] sit = refl
  sit-count (player ∷ players) (place ∷ places) (seat ∷ seats) sit = let rest = sit-count players places seats sit.1 in omega arith
  sit-count [] [] (seat ∷ seats) sit = absurd sit
  sit-count [] (place ∷ places) seats sit = absurd sit
  sit-count (player ∷ players) [] seats sit = absurd sit
  sit-count (player ∷ players) (place ∷ places) [] sit = absurd sit

  -- the player at a place sits at its seat
  pub sit-at : (players : List P) (places : List Place) (seats : List Seat) (at : ℕ) (player : P) (place : Place) → AllSit Plays stopped ended players places seats → at < length players → player ≡ slice_index_or players at player → place ≡ slice_index_or places at place → Sits Plays stopped ended player place (seat_at seats at)
  sit-at [] [] [] at player place sit within is there = absurd (omega arith)
  sit-at (p ∷ players) (q ∷ places) (seat ∷ seats) zero player place sit within is there = rw (is, there) sit.0
  sit-at (p ∷ players) (q ∷ places) (seat ∷ seats) (suc at) player place sit within is there = sit-at players places seats at player place sit.1 (omega arith) is there
  sit-at [] [] (seat ∷ seats) at player place sit within is there = absurd sit
  sit-at [] (q ∷ places) seats at player place sit within is there = absurd sit
  sit-at (p ∷ players) [] seats at player place sit within is there = absurd sit
  sit-at (p ∷ players) (q ∷ places) [] at player place sit within is there = absurd sit

  pub sit-set : (players : List P) (places : List Place) (seats : List Seat) (at : ℕ) (player : P) (place : Place) (moved : Seat) → AllSit Plays stopped ended players places seats → Sits Plays stopped ended player place moved → AllSit Plays stopped ended (slice_set players at player) (slice_set places at place) (slice_set seats at moved)
  sit-set [] [] [] at player place moved sit one = tt
  sit-set (p ∷ players) (q ∷ places) (seat ∷ seats) zero player place moved sit one = (one, sit.1)
  sit-set (p ∷ players) (q ∷ places) (seat ∷ seats) (suc at) player place moved sit one = (sit.0, sit-set players places seats at player place moved sit.1 one)
  sit-set [] [] (seat ∷ seats) at player place moved sit one = absurd sit
  sit-set [] (q ∷ places) seats at player place moved sit one = absurd sit
  sit-set (p ∷ players) [] seats at player place moved sit one = absurd sit
  sit-set (p ∷ players) (q ∷ places) [] at player place moved sit one = absurd sit
