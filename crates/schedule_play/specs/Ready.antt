-- Guests that may go on: what every step of a schedule keeps.
use Rattle.std.specs.Prelude.{◌≡◌, ◌≢◌, ◌⊎◌, ℕ, ◌≤◌, Bool, true, false, List, [], ◌∷◌, length, map, IsTrue, Option, None, Some}
use Rattle.cache_types.specs.declared.entries.Entry.{Entry}
use Rattle.cache_types.specs.declared.outer.Outcome.{Outcome}
use Rattle.cache_types.specs.Entries.{is_live, newest_first}
use Rattle.cache_types.specs.Legal.{IsLegalPast}
use Rattle.player.specs.Plays.{Program}
use Rattle.player.specs.May.{is_empty}
use Rattle.player.specs.Runs.{Follows, IsCut, are_answers}
use Rattle.player.specs.Tickets.{AreFresh}
use Rattle.schedule_play.specs.Schedule.{Seat, World, is_closed}
use Rattle.schedule_play.specs.Blocks.{own, told_of, cache_calls, keep_limits, IsStop}

-- before its Begin, or live
abbrev pub IsGoing : List Entry → Seat → Type 0
IsGoing past seat = ((seat.guest ≡ 0) × (seat.trace ≡ [])) ⊎ (IsTrue (is_live past seat.guest) × (is_empty seat.trace ≡ false))

-- a guest that wasn't stopped follows its program and goes on, or made its End
abbrev pub IsGoingOn : List Entry → Seat → Bool → Type 0
IsGoingOn past seat true = Unit {0}
IsGoingOn past seat false = IsGoing past seat

-- one that was stopped had its trace cut, and its End is behind it
abbrev pub IsSeatState : List Entry → Seat → Option Outcome → Type 0
IsSeatState past seat None = IsGoingOn past seat seat.ended × Follows seat.program seat.trace
IsSeatState past seat (Some ended) = IsStop ended × IsCut seat.program seat.trace × ((seat.trace ≡ []) ⊎ (seat.ended ≡ true))

-- a seat stands to the entries as its guest's calls do
pub record SeatStands (past : List Entry) (seat : Seat) : Type 0 where
  pub named : seat.guest ≤ length past
  pub answers : IsTrue (are_answers seat.trace)
  pub fresh : AreFresh seat.trace
  pub tied : cache_calls seat.trace ≡ told_of (own past seat.guest)
  pub state : IsSeatState past seat seat.stopped

abbrev pub AllStand : List Entry → List Seat → Type 0
AllStand past [] = Unit {0}
AllStand past (seat ∷ seats) = SeatStands past seat × AllStand past seats

-- none of these seats has this guest
abbrev pub NoneIs : ℕ → List Seat → Type 0
NoneIs guest [] = Unit {0}
NoneIs guest (seat ∷ seats) = (seat.guest ≢ guest) × NoneIs guest seats

-- guests that began differ
abbrev pub AllDiffer : List Seat → Type 0
AllDiffer [] = Unit {0}
AllDiffer (seat ∷ seats) = ((seat.guest ≡ 0) ⊎ NoneIs seat.guest seats) × AllDiffer seats

-- one of these seats has this guest
abbrev pub OneIs : ℕ → List Seat → Type 0
OneIs guest [] = ⊥
OneIs guest (seat ∷ seats) = (seat.guest ≡ guest) ⊎ OneIs guest seats

-- each entry is one of a seat's guest
abbrev pub AllSeated : List Entry → List Seat → Type 0
AllSeated [] seats = Unit {0}
AllSeated (e ∷ past) seats = OneIs e.guest seats × AllSeated past seats

pub record IsReady (world : World) : Type 0 where
  pub legal : IsLegalPast world.past
  pub limits : IsTrue (keep_limits world.past)
  pub stand : AllStand world.past world.seats
  pub differ : AllDiffer world.seats
  pub seated : AllSeated world.past world.seats

-- each guest is over
abbrev pub AllOver : List Seat → Type 0
AllOver [] = Unit {0}
AllOver (seat ∷ seats) = (is_closed seat ≡ true) × AllOver seats

abbrev pub programs_of : List Seat → List Program
programs_of seats = map (λ (seat : Seat). seat.program) seats

-- a world of a history in its order
abbrev pub world_of : List Entry → List Seat → World
world_of history seats = record { past = newest_first history; seats = seats }
