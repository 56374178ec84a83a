-- What ties players to the seats of a world.
use Rattle.std.specs.Prelude.{◌≡◌, ◌⊎◌, ℕ, zero, suc, Bool, true, false, List, [], ◌∷◌, ◌++◌, ◌+◌, slice_set, take, drop, Option, None, Some, is_some, IsTrue}
use Rattle.cache_types.specs.declared.calls.CacheCall.{CacheCall}
use Rattle.cache_types.specs.declared.entries.Entry.{Entry}
use Rattle.cache_types.specs.declared.outer.OuterCall.{OuterCall}
use Rattle.cache_types.specs.declared.outer.OuterCall.TheVariants as outer
use Rattle.cache_types.specs.declared.outer.Outcome.{Outcome}
use Rattle.cache_types.specs.declared.outer.Outcome.TheVariants as outcome
use Rattle.cache_types.specs.declared.outer.Done.{Done}
use Rattle.script_lines.specs.declared.step.Step.{Step}
use Rattle.cache_types.specs.Entries.{is_live}
use Rattle.cache_types.specs.Legal.{IsLegalPast}
use Rattle.cache_types.specs.Step.{IsCaller}
use Rattle.cache_types.specs.Limits.{is_within_limits}
use Rattle.player.specs.declared.turn.Turn.TheVariants.{Outer, Over}
use Rattle.cache_types.specs.declared.outer.OuterReply.{OuterReply}
use Rattle.player.specs.Plays.{Program, Answered, is_end_call}
use Rattle.player.specs.May.{is_empty, MayAsk, may_want}
use Rattle.player.specs.Runs.{is_link, is_answer}
use Rattle.player.specs.Tickets.{held_behind, IsFresh, AreFresh}
use Rattle.schedule_play.specs.declared.place.Place.{Place}
use Rattle.schedule_play.specs.Schedule.{Seat, Moved, World, AreAfter, seat_at, is_closed, due_of, stopped as stopped_seat, tried, tried_cache, MayTurn, StepGives, PlayGives, closed_turn, closed, block_of, blocks_from}
use Rattle.schedule_play.specs.Ready.{SeatStands, IsReady, AllOver, programs_of}
use Rattle.schedule_play.specs.Tickets.{HasTickets, HaveTickets, TurnsTickets}

-- the player plays the seat's program behind the seat's calls, and goes by its guest's name
pub record Holds {P : Type 0} (Plays : P → Program → List Answered → Type 0) (stopped : P → Option Outcome) (ended : P → Bool) (player : P) (guest : ℕ) (seat : Seat) : Type 0 where
  pub plays : Plays player seat.program seat.trace
  pub stopped_is : stopped player ≡ seat.stopped
  pub ended_is : ended player ≡ seat.ended
  pub guest_is : guest ≡ seat.guest

-- and the place tells whether it is over
pub record Sits {P : Type 0} (Plays : P → Program → List Answered → Type 0) (stopped : P → Option Outcome) (ended : P → Bool) (player : P) (place : Place) (seat : Seat) : Type 0 where
  pub holds : Holds Plays stopped ended player place.guest seat
  pub over_is : place.over ≡ is_closed seat

-- each player sits at its seat
abbrev pub AllSit : {P : Type 0} → (P → Program → List Answered → Type 0) → (P → Option Outcome) → (P → Bool) → List P → List Place → List Seat → Type 0
AllSit Plays stopped ended [] [] [] = Unit {0}
AllSit Plays stopped ended (player ∷ players) (place ∷ places) (seat ∷ seats) = Sits Plays stopped ended player place seat × AllSit Plays stopped ended players places seats
AllSit Plays stopped ended _ _ _ = ⊥

-- a cache call that may be made now
abbrev pub MayMake : List Entry → ℕ → OuterCall → Type 0
MayMake past guest (outer.Cache c) = IsCaller past guest c × IsTrue (is_within_limits c)
MayMake past guest call = Unit {0}

-- a guest that began is live until its End
abbrev pub EndsLive : List Entry → Seat → Type 0
EndsLive past seat = is_empty seat.trace ≡ false → seat.ended ≡ false → IsTrue (is_live past seat.guest)

-- the seat of a player that is to be stopped
pub record IsStoppable {P : Type 0} (Plays : P → Program → List Answered → Type 0) (stopped : P → Option Outcome) (ended : P → Bool) (past : List Entry) (player : P) (guest : ℕ) (seat : Seat) : Type 0 where
  pub holds : Holds Plays stopped ended player guest seat
  pub live : EndsLive past seat

-- the seat of one that was stopped
pub record IsStopping {P : Type 0} (Plays : P → Program → List Answered → Type 0) (stopped : P → Option Outcome) (ended : P → Bool) (past : List Entry) (player : P) (guest : ℕ) (seat : Seat) : Type 0 where
  pub holds : Holds Plays stopped ended player guest seat
  pub was : is_some seat.stopped ≡ true
  pub live : EndsLive past seat

-- the entries and the player's seat after a turn
pub record HasMoved {P : Type 0} (Plays : P → Program → List Answered → Type 0) (stopped : P → Option Outcome) (ended : P → Bool) (player : P) (guest : ℕ) (past : List Entry) (to : Moved) : Type 0 where
  pub holds : Holds Plays stopped ended player guest to.seat
  pub past_is : past ≡ to.past

-- the seat of a player that gave this call
pub record IsAsking {P : Type 0} (Plays : P → Program → List Answered → Type 0) (stopped : P → Option Outcome) (ended : P → Bool) (past : List Entry) (player : P) (place : Place) (seat : Seat) (call : OuterCall) : Type 0 where
  pub holds : Holds Plays stopped ended player place.guest seat
  pub fresh : place.over ≡ false
  pub goes : seat.ended ≡ false
  pub may : MayMake past place.guest call
  pub asks : MayAsk seat.trace call
  pub stops : is_some seat.stopped ≡ true → is_end_call (Some call) ≡ true
  pub live : EndsLive past seat

-- want of memory stopped a guest at a call that may want it
pub record IsShort (past : List Entry) (seat : Seat) (reading : ℕ) (call : OuterCall) (after : List Entry) (moved : Seat) : Type 0 where
  pub open_is : is_closed seat ≡ false
  pub wants : IsTrue (may_want (Outer call))
  pub is : AreAfter after moved (stopped_seat past seat reading outcome.OutOfMemory)

-- what a try of a cache call leads to
pub record TryGives {P : Type 0} (Plays : P → Program → List Answered → Type 0) (stopped : P → Option Outcome) (ended : P → Bool) (most reading : ℕ) (past : List Entry) (seat : Seat) (call : CacheCall) (after : List Entry) (player : P) (place : Place) : Type 0 where
  pub moved : Seat
  pub holds : Holds Plays stopped ended player place.guest moved
  pub over_is : place.over ≡ is_closed moved
  pub turn : AreAfter after moved (tried_cache most past seat reading call) ⊎ IsShort past seat reading (outer.Cache call) after moved

-- a player that gave this call, with its tickets
pub record IsTaking {P : Type 0} (Plays : P → Program → List Answered → Type 0) (stopped : P → Option Outcome) (ended : P → Bool) (is_open : ℕ → Type 0) (past : List Entry) (player : P) (place : Place) (seat : Seat) (call : OuterCall) : Type 0 where
  pub asking : IsAsking Plays stopped ended past player place seat call
  pub tickets : HasTickets is_open seat

-- the link answered the call with this reply, or wasn't asked
abbrev pub IsHeard : Bool → List Answered → OuterCall → OuterReply → List Answered → Type 0
IsHeard true trace call reply heard = (heard ≡ record { call = call; reply = reply } ∷ []) × IsTrue (is_answer call reply) × IsFresh (held_behind [] trace) reply
IsHeard false trace call reply heard = heard ≡ []

-- the try went its one way
pub record Went (most reading : ℕ) (heard : List Answered) (past : List Entry) (seat : Seat) (call : OuterCall) (after : List Entry) (moved : Seat) : Type 0 where
  pub reply : OuterReply
  pub heard_is : IsHeard (is_link call) seat.trace call reply heard
  pub is : AreAfter after moved (tried most past seat reading reply call)

-- or memory was short, and what the link may have told is lost
pub record Lacked (reading : ℕ) (heard : List Answered) (past : List Entry) (seat : Seat) (call : OuterCall) (after : List Entry) (moved : Seat) : Type 0 where
  pub heard_is : heard ≡ []
  pub short : IsShort past seat reading call after moved

-- what a try leads to, where the link told this
pub record TakeGives {P : Type 0} (Plays : P → Program → List Answered → Type 0) (stopped : P → Option Outcome) (ended : P → Bool) (before now : ℕ → Type 0) (most reading : ℕ) (heard : List Answered) (past : List Entry) (seat : Seat) (call : OuterCall) (after : List Entry) (player : P) (place : Place) : Type 0 where
  pub moved : Seat
  pub holds : Holds Plays stopped ended player place.guest moved
  pub over_is : place.over ≡ is_closed moved
  pub tickets : TurnsTickets before now seat moved
  pub turn : Went most reading heard past seat call after moved ⊎ Lacked reading heard past seat call after moved

-- a player at its seat among these entries
pub record MaySit {P : Type 0} (Plays : P → Program → List Answered → Type 0) (stopped : P → Option Outcome) (ended : P → Bool) (past : List Entry) (player : P) (place : Place) (seat : Seat) : Type 0 where
  pub sits : Sits Plays stopped ended player place seat
  pub legal : IsLegalPast past
  pub stands : SeatStands past seat

-- with its tickets
pub record MayPlay {P : Type 0} (Plays : P → Program → List Answered → Type 0) (stopped : P → Option Outcome) (ended : P → Bool) (is_open : ℕ → Type 0) (past : List Entry) (player : P) (place : Place) (seat : Seat) : Type 0 where
  pub may_sit : MaySit Plays stopped ended past player place seat
  pub tickets : HasTickets is_open seat

-- what a turn leads to, where the link told this, whatever it tells later
pub record TurnGives {P : Type 0} (Plays : P → Program → List Answered → Type 0) (stopped : P → Option Outcome) (ended : P → Bool) (MayWant : Program → List Answered → Type 0) (before now : ℕ → Type 0) (most reading : ℕ) (heard : List Answered) (past : List Entry) (seat : Seat) (after : List Entry) (player : P) (place : Place) : Type 0 where
  pub moved : Seat
  pub sits : Sits Plays stopped ended player place moved
  pub tickets : TurnsTickets before now seat moved
  pub turn : (left : List Answered) → MayTurn MayWant most reading (heard ++ left) left past seat after moved

-- players at the seats of a world that may go on
pub record IsSeated {P : Type 0} (Plays : P → Program → List Answered → Type 0) (stopped : P → Option Outcome) (ended : P → Bool) (past : List Entry) (players : List P) (places : List Place) (seats : List Seat) : Type 0 where
  pub sit : AllSit Plays stopped ended players places seats
  pub ready : IsReady (record { past = past; seats = seats })

-- with their tickets
pub record IsAtPlay {P : Type 0} (Plays : P → Program → List Answered → Type 0) (stopped : P → Option Outcome) (ended : P → Bool) (is_open : ℕ → Type 0) (past : List Entry) (players : List P) (places : List Place) (seats : List Seat) : Type 0 where
  pub seated : IsSeated Plays stopped ended past players places seats
  pub tickets : HaveTickets is_open seats

-- what one step of the schedule leads to, where the link told this
pub record IsStepped {P : Type 0} (Plays : P → Program → List Answered → Type 0) (stopped : P → Option Outcome) (ended : P → Bool) (MayWant : Program → List Answered → Type 0) (is_open : ℕ → Type 0) (most : ℕ) (step : Step) (heard : List Answered) (past : List Entry) (seats : List Seat) (after : List Entry) (players : List P) (places : List Place) : Type 0 where
  pub next : List Seat
  pub at_play : IsAtPlay Plays stopped ended is_open after players places next
  pub gives : (left : List Answered) → StepGives MayWant most step (heard ++ left) left (record { past = past; seats = seats }) (record { past = after; seats = next })
  pub programs : programs_of next ≡ programs_of seats

-- what the steps lead to
pub record AreStepped {P : Type 0} (Plays : P → Program → List Answered → Type 0) (stopped : P → Option Outcome) (ended : P → Bool) (MayWant : Program → List Answered → Type 0) (is_open : ℕ → Type 0) (most : ℕ) (steps : List Step) (heard : List Answered) (past : List Entry) (seats : List Seat) (after : List Entry) (players : List P) (places : List Place) : Type 0 where
  pub next : List Seat
  pub at_play : IsAtPlay Plays stopped ended is_open after players places next
  pub gives : PlayGives MayWant most steps heard (record { past = past; seats = seats }) (record { past = after; seats = next })
  pub programs : programs_of next ≡ programs_of seats

-- a guest that was closed
pub record IsClosed {P : Type 0} (Plays : P → Program → List Answered → Type 0) (stopped : P → Option Outcome) (ended : P → Bool) (past : List Entry) (player : P) (place : Place) (to : Moved) : Type 0 where
  pub sits : Sits Plays stopped ended player place to.seat
  pub past_is : past ≡ to.past

-- one guest of a world was closed
pub record ClosesAt {P : Type 0} (Plays : P → Program → List Answered → Type 0) (stopped : P → Option Outcome) (ended : P → Bool) (at : ℕ) (past : List Entry) (seats : List Seat) (after : List Entry) (players : List P) (places : List Place) : Type 0 where
  pub seated : IsSeated Plays stopped ended after players places (slice_set seats at (closed_turn past (seat_at seats at)).seat)
  pub past_is : after ≡ (closed_turn past (seat_at seats at)).past

-- all of them
pub record AreClosed {P : Type 0} (Plays : P → Program → List Answered → Type 0) (stopped : P → Option Outcome) (ended : P → Bool) (past : List Entry) (seats : List Seat) (after : List Entry) (players : List P) (places : List Place) : Type 0 where
  pub over : List Seat
  pub seated : IsSeated Plays stopped ended after players places over
  pub all : AllOver over
  pub is : record { past = after; seats = over } ≡ closed past [] seats
  pub programs : programs_of over ≡ programs_of seats

-- a stopped guest never began, or made its End
abbrev pub OverState : Seat → Option Outcome → Type 0
OverState seat None = Unit {0}
OverState seat (Some why) = (seat.trace ≡ []) ⊎ (seat.ended ≡ true)

-- a guest that is over, whose block is written
pub record MayTell {P : Type 0} (Plays : P → Program → List Answered → Type 0) (stopped : P → Option Outcome) (ended : P → Bool) (player : P) (place : Place) (seat : Seat) : Type 0 where
  pub sits : Sits Plays stopped ended player place seat
  pub over : is_closed seat ≡ true
  pub fresh : AreFresh seat.trace
  pub state : OverState seat seat.stopped

-- its block
pub record IsTold (index : ℕ) (seat : Seat) (block : Done) : Type 0 where
  pub block_is : block ≡ block_of index seat
  pub how : Outcome
  pub due_is : due_of seat ≡ Over how

-- players that may tell
abbrev pub AllMayTell : {P : Type 0} → (P → Program → List Answered → Type 0) → (P → Option Outcome) → (P → Bool) → List P → List Place → List Seat → Type 0
AllMayTell Plays stopped ended [] [] [] = Unit {0}
AllMayTell Plays stopped ended (player ∷ players) (place ∷ places) (seat ∷ seats) = MayTell Plays stopped ended player place seat × AllMayTell Plays stopped ended players places seats
AllMayTell Plays stopped ended _ _ _ = ⊥

-- each guest is over, and says how
abbrev pub AllTell : List Seat → Type 0
AllTell [] = Unit {0}
AllTell (seat ∷ seats) = ((how : Outcome) × (due_of seat ≡ Over how)) × AllTell seats

-- the blocks of all guests
pub record AreTold (seats : List Seat) (blocks : List Done) : Type 0 where
  pub blocks_are : blocks ≡ blocks_from 1 seats
  pub tell : AllTell seats

-- players before their first step
abbrev pub AreNew : {P : Type 0} → (P → Program → List Answered → Type 0) → (P → Option Outcome) → (P → Bool) → List P → List Program → Type 0
AreNew Plays stopped ended [] [] = Unit {0}
AreNew Plays stopped ended (player ∷ players) (program ∷ programs) = (Plays player program [] × (stopped player ≡ None) × (ended player ≡ false)) × AreNew Plays stopped ended players programs
AreNew Plays stopped ended _ _ = ⊥

-- some steps were taken: what those that are left lead to is what all of them lead to
pub record RunsOn {P : Type 0} (Plays : P → Program → List Answered → Type 0) (stopped : P → Option Outcome) (ended : P → Bool) (MayWant : Program → List Answered → Type 0) (is_open : ℕ → Type 0) (most : ℕ) (steps left : List Step) (heard : List Answered) (past : List Entry) (seats : List Seat) (after : List Entry) (players : List P) (places : List Place) : Type 0 where
  pub now : List Seat
  pub at_play : IsAtPlay Plays stopped ended is_open after players places now
  pub programs : programs_of now ≡ programs_of seats
  pub rest : (end : World) (more : List Answered) → PlayGives MayWant most left more (record { past = after; seats = now }) end → PlayGives MayWant most steps (heard ++ more) (record { past = past; seats = seats }) end

-- so many guests were closed
pub record ClosesOn {P : Type 0} (Plays : P → Program → List Answered → Type 0) (stopped : P → Option Outcome) (ended : P → Bool) (count : ℕ) (past : List Entry) (seats : List Seat) (after : List Entry) (players : List P) (places : List Place) : Type 0 where
  pub now : List Seat
  pub seated : IsSeated Plays stopped ended after players places now
  pub programs : programs_of now ≡ programs_of seats
  pub all : AllOver (take count now)
  pub rest : closed after (take count now) (drop count now) ≡ closed past [] seats

-- so many places before the first step
abbrev pub new_places : ℕ → List Place
new_places zero = []
new_places (suc count) = record { guest = 0; over = false } ∷ new_places count

-- so many blocks were told, and the players that are left may tell
pub record TellsOn {P : Type 0} (Plays : P → Program → List Answered → Type 0) (stopped : P → Option Outcome) (ended : P → Bool) (count : ℕ) (players : List P) (places : List Place) (seats : List Seat) (blocks : List Done) : Type 0 where
  pub left : AllMayTell Plays stopped ended (drop count players) (drop count places) (drop count seats)
  pub rest : blocks ++ blocks_from (count + 1) (drop count seats) ≡ blocks_from 1 seats
  pub tell : AllTell (take count seats)
