-- How far a program has come, as its player keeps it. What a program does from some place on is a program again; each of these
-- says that this is all of it.
use Rattle.std.specs.Prelude.{◌≡◌, ℕ, ◌+◌, ◌<◌, false, List, [], ◌∷◌, Option, None, Some, slice_get}
use Rattle.cache_types.specs.declared.outer.OuterCall.{OuterCall}
use Rattle.cache_types.specs.declared.outer.OuterReply.{OuterReply}
use Rattle.cache_types.specs.declared.outer.Outcome.{Outcome}
use Rattle.wasm_types.specs.declared.values.Value.{Value}
use Rattle.wasm_types.specs.declared.values.Value.TheVariants.{I32}
use Rattle.wasm_meaning.specs.World.{World}
use Rattle.wasm_meaning.specs.Frames.{Program as Code, State}
use Rattle.wasm_meaning.specs.Runs.{resumed as goes_on}
use Rattle.module_machine.specs.declared.machine.Machine.{Machine}
use Rattle.module_machine.specs.Standing.{IsIdle, Stands, Waits, FitsImport}
use Rattle.edge_abi.specs.declared.asked.Step.{Step}
use Rattle.edge_abi.specs.declared.asked.Step.TheVariants as step
use Rattle.edge_abi.specs.Goes.{MayMake}
use Rattle.player.specs.declared.turn.Turn.TheVariants.{Outer}
use Rattle.player.specs.Plays.{Program}
use Rattle.guest_calls.specs.declared.call.Call.{Call}
use Rattle.guest_calls.specs.declared.call.Call.TheVariants.{Row}
use Rattle.guest_calls.specs.declared.call.RowCall.{RowCall}
use Rattle.guest_calls.specs.declared.rows.Under.{Under}
use Rattle.guest_calls.specs.declared.tables.GuestTables.{GuestTables}
use Rattle.body_calls.specs.Links.{asks_link}
use Rattle.guest_calls.specs.Unders.{resumed}
use Rattle.guest_run.specs.declared.life.Left.{Left}
use Rattle.guest_run.specs.declared.life.Life.{Life}
use Rattle.guest_run.specs.declared.life.Life.TheVariants.{Going, Paused}
use Rattle.guest_run.specs.declared.life.Pause.{Pause}
use Rattle.guest_run.specs.declared.life.Pause.TheVariants.{Waiting, Ending}
use Rattle.guest_run.specs.Next.{Entry, ends, memory_in, after_row, after_call, live, in_turn, begins}
use Rattle.guest_run.specs.Origins.{AreEntries}

-- an import answers any number of 32 bits
abbrev pub AnswersNumbers : Code → ℕ → Type 0
AnswersNumbers code x = (number : ℕ) → FitsImport (slice_get code.functions x) (Some (I32 number))

-- each call that has a row is that of such an import
abbrev pub AreAnswered : Code → List Call → Type 0
AreAnswered code calls = (x : ℕ) (call : RowCall) → slice_get calls x ≡ Some (Row call) → AnswersNumbers code x

-- the function that follows, where there is one
abbrev pub listed : Option ℕ → List ℕ
listed None = []
listed (Some function) = function ∷ []

-- nothing runs; these functions are to begin, one after another, with so much fuel
pub record IsNext (calls : List Call) (meaning : Program) (fuel : ℕ) (indices : List ℕ) (machine : Machine) (t : GuestTables) : Type 0 where
  pub code : Code
  pub entries : List Entry
  pub world : World
  pub answered : AreAnswered code calls
  pub follow : AreEntries code indices entries
  pub idle : IsIdle code world machine
  pub goes : (replies : List OuterReply) → meaning replies ≡ in_turn code calls entries fuel world t replies

-- the code is to be run with what it has left
pub record IsGoing (calls : List Call) (meaning : Program) (left : Left) (machine : Machine) (t : GuestTables) : Type 0 where
  pub code : Code
  pub state : State
  pub entries : List Entry
  pub bound : ℕ
  pub enough : left.fuel < bound
  pub answered : AreAnswered code calls
  pub follow : AreEntries code (listed left.follows) entries
  pub stands : Stands code state machine
  pub goes : (replies : List OuterReply) → meaning replies ≡ live bound code calls (begins code calls entries) left.fuel state t replies

-- the code called an import
pub record IsCalling (calls : List Call) (meaning : Program) (left : Left) (x : ℕ) (arguments : List Value) (machine : Machine) (t : GuestTables) : Type 0 where
  pub code : Code
  pub state : State
  pub entries : List Entry
  pub bound : ℕ
  pub enough : left.fuel < bound
  pub answered : AreAnswered code calls
  pub follow : AreEntries code (listed left.follows) entries
  pub waits : Waits code x state machine
  pub goes : (replies : List OuterReply) → meaning replies ≡ after_call (slice_get calls x) arguments left.fuel state t (live bound code calls (begins code calls entries)) replies

-- the reply to a row's call came
pub record IsHearing (calls : List Call) (meaning : Program) (left : Left) (under : Under) (reply : OuterReply) (machine : Machine) (t : GuestTables) : Type 0 where
  pub code : Code
  pub place : ℕ
  pub state : State
  pub entries : List Entry
  pub bound : ℕ
  pub enough : left.fuel < bound
  pub answered : AreAnswered code calls
  pub follow : AreEntries code (listed left.follows) entries
  pub numbers : AnswersNumbers code place
  pub waits : Waits code place state machine
  pub goes : (replies : List OuterReply) → meaning replies ≡ after_row (resumed under t (memory_in state) reply replies) left.fuel state (live bound code calls (begins code calls entries))

-- a row waits for the reply to its call
pub record IsWaiting (calls : List Call) (meaning : Program) (left : Left) (call : OuterCall) (under : Under) (machine : Machine) (t : GuestTables) : Type 0 where
  pub code : Code
  pub place : ℕ
  pub state : State
  pub entries : List Entry
  pub bound : ℕ
  pub enough : left.fuel < bound
  pub answered : AreAnswered code calls
  pub follow : AreEntries code (listed left.follows) entries
  pub numbers : AnswersNumbers code place
  pub waits : Waits code place state machine
  pub may : MayMake call
  pub unlinked : asks_link call ≡ false
  pub asks : meaning [] ≡ Outer call
  pub goes : (reply : OuterReply) (replies : List OuterReply) → meaning (reply ∷ replies) ≡ after_row (resumed under t (memory_in state) reply replies) left.fuel state (live bound code calls (begins code calls entries))

-- the program has ended
abbrev pub IsEnding : Program → Outcome → Type 0
IsEnding meaning outcome = (replies : List OuterReply) → meaning replies ≡ ends outcome replies

-- the program is to make a call
abbrev pub IsPaused : List Call → Program → Pause → Machine → GuestTables → Type 0
IsPaused calls meaning (Waiting left call under) machine t = IsWaiting calls meaning left call under machine t
IsPaused calls meaning (Ending outcome) machine t = IsEnding meaning outcome

abbrev pub LivesOn : List Call → Program → Life → Machine → GuestTables → Type 0
LivesOn calls meaning (Going left) machine t = IsGoing calls meaning left machine t
LivesOn calls meaning (Paused pause) machine t = IsPaused calls meaning pause machine t

-- what goes on has this left
abbrev pub HasLeft : Left → Life → Type 0
HasLeft left (Going now) = now ≡ left
HasLeft left _ = Unit {0}

-- a function that is to follow weighs more than any fuel
abbrev pub weight_of : Option ℕ → ℕ
weight_of None = 0
weight_of (Some function) = 18446744073709551616

abbrev pub weight : Left → ℕ
weight left = left.fuel + weight_of left.follows

-- a run that goes on has less fuel, or nothing follows it any more
abbrev pub HasLess : Left → Life → Type 0
HasLess left (Going now) = weight now < weight left
HasLess left _ = Unit {0}

-- behind a row the code goes on with the number that was answered, or the row waits
abbrev pub IsAfterRow : Step Under → Left → Machine → Life → Machine → Type 0
IsAfterRow (step.Done number) left old life new =
    (life ≡ Going left)
    × ((code : Code) (x : ℕ) (s : State) → Waits code x s old → FitsImport (slice_get code.functions x) (Some (I32 number)) → Stands code (goes_on (Some (I32 number)) s) new)
IsAfterRow (step.Outer call under) left old life new = (life ≡ Paused (Waiting left call under)) × (new ≡ old)
