-- A scripted guest as a player.
use Rattle.std.specs.Prelude.{◌≡◌, ◌⊎◌, ℕ, ◌+◌, ◌<◌, ◌≤◌, Bool, true, false, List, [], ◌∷◌, ◌++◌, IsTrue, Option, None, Some, Vec, vec_len, vec_capacity, if◌then◌else◌}
use Rattle.std.specs.declared.alloc.Global.{Global}
use Rattle.cache_types.specs.declared.calls.CacheCall.TheVariants.{End}
use Rattle.cache_types.specs.declared.outer.Event.{Event}
use Rattle.cache_types.specs.declared.outer.OuterCall.{OuterCall}
use Rattle.cache_types.specs.declared.outer.OuterCall.TheVariants as outer
use Rattle.cache_types.specs.declared.outer.OuterReply.{OuterReply}
use Rattle.cache_types.specs.declared.outer.Outcome.{Outcome}
use Rattle.cache_types.specs.declared.outer.Outcome.TheVariants.{OutOfMemory}
use Rattle.script_lines.specs.declared.line.Line.{Line}
use Rattle.player.specs.declared.turn.Turn.{Turn}
use Rattle.player.specs.declared.turn.Turn.TheVariants.{Outer, Over}
use Rattle.player.specs.Plays.{Program, Answered, replies_of, events_of, call_in, is_over, is_end_call}
use Rattle.player.specs.May.{may_want}
use Rattle.scripted_guest.specs.Script.{next_call, turn_of, script_program, values_in, is_script}

-- a guest on its way through its lines: what its answered calls are worth, their events, whether its next call was given,
-- whether its End was answered, and why it was stopped
pub record State : Type 0 where
  pub lines : List Line
  pub values : Vec ℕ Global
  pub events : Vec Event Global
  pub given : Bool
  pub ended : Bool
  pub stopped : Option Outcome

-- the turn of a guest that was stopped, whose calls so far are worth these values
abbrev pub stopped_turn : List ℕ → Bool → Outcome → Turn
stopped_turn [] ended why = Over why
stopped_turn (begin ∷ values) ended why = if ended then Over why else Outer (outer.Cache End)

abbrev pub turn_with : List Line → List ℕ → Bool → Option Outcome → Turn
turn_with lines values ended None = turn_of (next_call lines values)
turn_with lines values ended (Some why) = stopped_turn values ended why

abbrev pub turn_now : State → Turn
turn_now s = turn_with s.lines s.values.items s.ended s.stopped

-- the call that was given and isn't answered
abbrev pub waits_in : State → Option OuterCall
waits_in s = if s.given then call_in (turn_now s) else None

abbrev pub is_over_in : State → Bool
is_over_in s = if s.given then is_over (turn_now s) else false

-- so many events find room, so that answers take no memory: that of the call which waits, and that of End
abbrev pub needs : Option OuterCall → Bool → List ℕ → ℕ
needs (Some call) ended values = if is_end_call (Some call) then 1 else 2
needs None true values = 0
needs None false [] = 0
needs None false (begin ∷ values) = 1

abbrev pub needs_now : State → ℕ
needs_now s = needs (waits_in s) s.ended s.values.items

-- its End was answered exactly where no call is left
abbrev pub IsEndedAt : List Line → List ℕ → Bool → Option Outcome → Type 0
IsEndedAt lines values ended None = ended ≡ is_over (turn_of (next_call lines values))
IsEndedAt lines values ended (Some why) = Unit {0}

-- it plays this program, and these are its answered calls
pub record ScriptPlays (s : State) (next : Program) (trace : List Answered) : Type 0 where
  pub program : (replies : List OuterReply) → next replies ≡ script_program s.lines replies
  pub script : IsTrue (is_script s.lines)
  pub values : s.values.items ≡ values_in (replies_of trace)
  pub events : s.events.items ≡ events_of trace
  pub over : IsEndedAt s.lines s.values.items s.ended s.stopped
  pub value_room : vec_len s.values + needs_now s ≤ vec_capacity s.values
  pub event_room : vec_len s.events + needs_now s ≤ vec_capacity s.events

-- room for so many more of both
pub record HasRoom {A B : Type 0} (count : ℕ) (values : Vec ℕ A) (events : Vec Event B) : Type 0 where
  pub for_values : vec_len values + count ≤ vec_capacity values
  pub for_events : vec_len events + count ≤ vec_capacity events

-- the same items, with as much room or more
pub record IsSame {A : Type 0} {X : Type 0} (old new : Vec X A) : Type 0 where
  pub items : new.items ≡ old.items
  pub len : vec_len new ≡ vec_len old
  pub capacity : vec_capacity old ≤ vec_capacity new

-- one more, where there is room for it
pub record IsPushed {A : Type 0} {X : Type 0} (old : Vec X A) (x : X) (new : Vec X A) : Type 0 where
  pub pushed : vec_len old < vec_capacity old → (new.items ≡ old.items ++ x ∷ []) × (vec_len new ≡ vec_len old + 1)
  pub capacity : vec_capacity new ≡ vec_capacity old

-- how a guest that wasn't stopped went on: it has room for the event of its call, or wanted memory for it
abbrev pub WentOn : State → State → Type 0
WentOn old now =
    ((now.stopped ≡ None) × (IsTrue (may_want (turn_now now)) → HasRoom 2 now.values now.events))
    ⊎ ((now.stopped ≡ Some OutOfMemory) × (IsTrue (is_script old.lines) → IsTrue (may_want (turn_of (next_call old.lines old.values.items)))))

abbrev pub Went : State → State → Option Outcome → Type 0
Went old now None = WentOn old now
Went old now (Some why) = now.stopped ≡ Some why

-- its next turn was told
pub record Advances (old now : State) (turn : Turn) : Type 0 where
  pub lines_are : now.lines ≡ old.lines
  pub values_are : IsSame old.values now.values
  pub events_are : IsSame old.events now.events
  pub given_is : now.given ≡ true
  pub ended_is : now.ended ≡ old.ended
  pub went : Went old now old.stopped
  pub turn_is : turn ≡ turn_now now
