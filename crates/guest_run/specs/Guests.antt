-- A module guest as a player: what each phase of it says of its program behind the answered calls.
use Rattle.std.specs.Prelude.{◌≡◌, ℕ, ◌+◌, ◌<◌, ◌≤◌, Bool, true, false, List, [], ◌∷◌, ◌++◌, Option, None, Some, Result, IfOk, Vec, vec_len, vec_capacity, if◌then◌else◌}
use Rattle.std.specs.declared.alloc.AllocError.{AllocError}
use Rattle.cache_types.specs.declared.calls.CacheCall.TheVariants.{Begin, End}
use Rattle.cache_types.specs.declared.outer.Event.{Event}
use Rattle.cache_types.specs.declared.outer.OuterCall.{OuterCall}
use Rattle.cache_types.specs.declared.outer.OuterCall.TheVariants as call
use Rattle.cache_types.specs.declared.outer.OuterReply.{OuterReply}
use Rattle.cache_types.specs.declared.outer.Outcome.{Outcome}
use Rattle.cache_types.specs.declared.outer.Outcome.TheVariants.{OutOfMemory}
use Rattle.edge_body.specs.Heads.{Request}
use Rattle.edge_imports.specs.Links.{LinkedModule}
use Rattle.module_machine.specs.declared.machine.Machine.{Machine}
use Rattle.player.specs.declared.turn.Turn.{Turn}
use Rattle.player.specs.declared.turn.Turn.TheVariants as turn
use Rattle.player.specs.Plays.{Program, Answered, replies_of, events_of, event_with, due}
use Rattle.player.specs.May.{IsStopAfter}
use Rattle.guest_calls.specs.declared.call.Call.{Call}
use Rattle.guest_calls.specs.declared.tables.GuestTables.{GuestTables}
use Rattle.guest_run.specs.declared.life.Pause.{Pause}
use Rattle.guest_run.specs.declared.life.Pause.TheVariants.{Waiting, Ending}
use Rattle.guest_run.specs.declared.service.Service.{Service}
use Rattle.guest_run.specs.declared.guest.Guest.{Guest}
use Rattle.guest_run.specs.declared.phase.Phase.{Phase}
use Rattle.guest_run.specs.declared.phase.Phase.TheVariants.{New, Begun, Alive, Heard, Stopping, Over}
use Rattle.guest_run.specs.Origins.{Origin, IsOrigin, behind_begin}
use Rattle.guest_run.specs.Services.{IsServiceOf, limit_in}
use Rattle.guest_run.specs.Lives.{IsHearing, IsWaiting, IsEnding}

-- ---- what is told of a guest

abbrev pub index_of : Guest → ℕ
index_of g = g.index

abbrev pub request_of : Guest → Request
request_of g = g.tables.request

abbrev pub limit_of : Guest → ℕ
limit_of g = limit_in g.service.now

abbrev pub stopped_of : Guest → Option Outcome
stopped_of g = g.stopped

abbrev pub ended_of : Guest → Bool
ended_of g = g.ended

-- ---- turns

abbrev pub call_of_pause : Pause → OuterCall
call_of_pause (Waiting left call under) = call
call_of_pause (Ending outcome) = call.Cache End

-- what is told in a phase, where something is
abbrev pub turn_of : Phase → Option Turn
turn_of New = Some (turn.Outer (call.Cache Begin))
turn_of (Alive pause) = Some (turn.Outer (call_of_pause pause))
turn_of (Stopping outcome) = Some (turn.Outer (call.Cache End))
turn_of (Over outcome) = Some (turn.Over outcome)
turn_of _ = None

abbrev pub call_of : Phase → Option OuterCall
call_of New = Some (call.Cache Begin)
call_of (Alive pause) = Some (call_of_pause pause)
call_of (Stopping outcome) = Some (call.Cache End)
call_of _ = None

-- the call that was given and isn't answered
abbrev pub waits_in : Bool → Phase → Option OuterCall
waits_in true phase = call_of phase
waits_in false phase = None

abbrev pub is_over_in : Phase → Bool
is_over_in (Over outcome) = true
is_over_in _ = false

-- a guest that computes may want memory anywhere
abbrev pub GuestWants : Program → List Answered → Type 0
GuestWants next trace = Unit {0}

-- ---- phases

-- what the program does behind these calls
abbrev pub behind : Program → List Answered → Program
behind next trace replies = next (replies_of trace ++ replies)

abbrev pub IsBegun : List Answered → Type 0
IsBegun [] = ⊥
IsBegun (begin ∷ trace) = Unit {0}

-- the machine of the guest, which is there
abbrev pub InMachine : Option Machine → (Machine → Type 0) → Type 0
InMachine None P = ⊥
InMachine (Some machine) P = P machine

-- the instance is to be made, and this is all that is done from there on
pub record IsBeginning (service : Service) (t : GuestTables) (meaning : Program) : Type 0 where
  pub of : LinkedModule
  pub is_service : IsServiceOf of service
  pub origin : Origin
  pub begins : IsOrigin of.whole of.links.start origin
  pub goes : (replies : List OuterReply) → meaning replies ≡ behind_begin origin service.calls.items service.fuel t replies

-- a guest that is over: its program is, or it was stopped before its Begin or made its End
abbrev pub IsOver : Option Outcome → Bool → Outcome → Program → List Answered → Type 0
IsOver None ended outcome next trace = (next (replies_of trace) ≡ turn.Over outcome) × (ended ≡ true)
IsOver (Some why) ended outcome next [] = outcome ≡ why
IsOver (Some why) ended outcome next (begin ∷ trace) = (ended ≡ true) × (outcome ≡ why)

-- a guest that began, goes on and wasn't stopped
pub record GoesOn (g : Guest) (trace : List Answered) : Type 0 where
  pub begun : IsBegun trace
  pub stopped : g.stopped ≡ None
  pub ended : g.ended ≡ false

-- a pause says what the program does from there on; one that ended needs no machine
abbrev pub PauseIn : List Call → Pause → Option Machine → GuestTables → Program → Type 0
PauseIn calls (Waiting left call under) machine t meaning = InMachine machine (λ m. IsWaiting calls meaning left call under m t)
PauseIn calls (Ending outcome) machine t meaning = IsEnding meaning outcome

abbrev pub PausePlays : Guest → Pause → Program → Type 0
PausePlays g pause meaning = PauseIn g.service.now.calls.items pause g.machine g.tables meaning

-- before its Begin
pub record IsFresh (g : Guest) (next : Program) (trace : List Answered) : Type 0 where
  pub no_calls : trace ≡ []
  pub stopped : g.stopped ≡ None
  pub ended : g.ended ≡ false
  pub begins : next [] ≡ turn.Outer (call.Cache Begin)
  pub beginning : (reply : OuterReply) → IsBeginning g.service.now g.tables (λ replies. next (reply ∷ replies))

-- the phase stands for this program behind these calls
abbrev pub PhasePlays : Guest → Phase → Program → List Answered → Type 0
PhasePlays g New next trace = IsFresh g next trace
PhasePlays g Begun next trace = GoesOn g trace × IsBeginning g.service.now g.tables (behind next trace)
PhasePlays g (Alive pause) next trace = GoesOn g trace × PausePlays g pause (behind next trace)
PhasePlays g (Heard left call under reply) next trace =
    GoesOn g trace × InMachine g.machine (λ machine. IsHearing g.service.now.calls.items (behind next trace) left under reply machine g.tables)
PhasePlays g (Stopping outcome) next trace = IsBegun trace × (g.stopped ≡ Some outcome) × (g.ended ≡ false)
PhasePlays g (Over outcome) next trace = IsOver g.stopped g.ended outcome next trace

-- the events so far: those noted, and that of a reply that was heard
abbrev pub HasEvents : Guest → Phase → List Answered → Type 0
HasEvents g (Heard left call under reply) trace =
    (before : List Answered) × (trace ≡ before ++ record { call = call; reply = reply } ∷ []) × (g.events.items ≡ events_of before)
HasEvents g _ trace = g.events.items ≡ events_of trace

-- room for so many events is kept, so that answers take no memory: that of the call which waits, and that of End
abbrev pub needs_pause : Bool → Pause → ℕ
needs_pause given (Waiting left call under) = if given then 2 else 1
needs_pause given (Ending outcome) = 1

abbrev pub needs : Bool → Phase → ℕ
needs given New = if given then 2 else 0
needs given Begun = 1
needs given (Alive pause) = needs_pause given pause
needs given (Heard left call under reply) = 2
needs given (Stopping outcome) = 1
needs given (Over outcome) = 0

-- it plays this program, and these are its answered calls
pub record GuestPlays (g : Guest) (next : Program) (trace : List Answered) : Type 0 where
  pub phase : PhasePlays g g.phase next trace
  pub events : HasEvents g g.phase trace
  pub room : vec_len g.events + needs g.given g.phase ≤ vec_capacity g.events

-- ---- steps

-- the event is noted where there is room for it
pub record IsNoted {A : Type 0} (old : Vec Event A) (asked : OuterCall) (reply : OuterReply) (new : Vec Event A) : Type 0 where
  pub noted : vec_len old < vec_capacity old → (new.items ≡ old.items ++ event_with asked reply ∷ []) × (vec_len new ≡ vec_len old + 1)
  pub capacity : vec_capacity new ≡ vec_capacity old

-- the phase and the events behind the reply to the phase's call
abbrev pub IsHeardPause : {A : Type 0} → Pause → OuterReply → Vec Event A → Phase → Vec Event A → Type 0
IsHeardPause (Waiting left call under) reply old phase new = (phase ≡ Heard left call under reply) × (new ≡ old)
IsHeardPause (Ending outcome) reply old phase new = (phase ≡ Over outcome) × IsNoted old (call.Cache End) reply new

abbrev pub IsHeard : {A : Type 0} → Phase → OuterReply → Vec Event A → Phase → Vec Event A → Type 0
IsHeard New reply old phase new = (phase ≡ Begun) × IsNoted old (call.Cache Begin) reply new
IsHeard (Alive pause) reply old phase new = IsHeardPause pause reply old phase new
IsHeard (Stopping outcome) reply old phase new = (phase ≡ Over outcome) × IsNoted old (call.Cache End) reply new
IsHeard _ reply old phase new = Unit {0}

-- the phase of a guest that is stopped
abbrev pub IsStopped : {A : Type 0} → Phase → Outcome → Vec Event A → Phase → Vec Event A → Type 0
IsStopped New outcome old phase new = (phase ≡ Over outcome) × (new ≡ old)
IsStopped Begun outcome old phase new = (phase ≡ Stopping outcome) × (new ≡ old)
IsStopped (Alive pause) outcome old phase new = (phase ≡ Stopping outcome) × (new ≡ old)
IsStopped (Heard left call under reply) outcome old phase new = (phase ≡ Stopping outcome) × IsNoted old call reply new
IsStopped (Stopping before) outcome old phase new = (phase ≡ Stopping outcome) × (new ≡ old)
IsStopped (Over before) outcome old phase new = (phase ≡ Over outcome) × (new ≡ old)

-- what going on leaves as it was
pub record IsSame (g now : Guest) : Type 0 where
  pub service : now.service ≡ g.service
  pub stopped : now.stopped ≡ g.stopped
  pub ended : now.ended ≡ g.ended
  pub given : now.given ≡ g.given

-- a pause that a program came to, or want of memory
abbrev pub ComesIn : List Call → Result Pause AllocError → Option Machine → GuestTables → Program → Type 0
ComesIn calls result machine t meaning = IfOk result (λ (pause : Pause). PauseIn calls pause machine t meaning)

abbrev pub ComesTo : Guest → Result Pause AllocError → Program → Type 0
ComesTo g result meaning = ComesIn g.service.now.calls.items result g.machine g.tables meaning

-- a guest that began and isn't stopped, whose pause is to be offered
pub record Offers (g : Guest) (pause : Result Pause AllocError) (next : Program) (trace : List Answered) : Type 0 where
  pub goes_on : GoesOn g trace
  pub comes_to : ComesTo g pause (behind next trace)
  pub events : g.events.items ≡ events_of trace
  pub room : vec_len g.events + 1 ≤ vec_capacity g.events

abbrev pub starved : Guest → Guest
starved g = record g { given = true; stopped = Some OutOfMemory; phase = Stopping OutOfMemory }

-- a turn of a guest: what is due, and want of memory may have stopped it
pub record IsAdvanced (before : Option Outcome) (g : Guest) (result : Turn) (next : Program) (trace : List Answered) : Type 0 where
  pub plays : GuestPlays g next trace
  pub due_is : result ≡ due next trace g.ended g.stopped
  pub stops : IsStopAfter (GuestWants next trace) g.ended before g.stopped

-- whatever it plays, its phase tells this turn
pub record Tells (old g : Guest) (result : Turn) : Type 0 where
  pub given : g.given ≡ true
  pub told : turn_of g.phase ≡ Some result
  pub ended : g.ended ≡ old.ended
