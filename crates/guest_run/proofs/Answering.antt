-- A guest behind the reply to its call, and one that is stopped.
use Rattle.std.proofs.Common.{◌≡◌, ◌∙◌, ◌+◌, ◌≤◌, true, false, Bool, List, [], ◌∷◌, ◌++◌, Option, None, Some, refl, ap, sym, arith, vec_len, vec_capacity, append_assoc}
use Rattle.std.specs.Prelude.{Vec}
use Rattle.std.specs.declared.alloc.Global.{Global}
use Rattle.cache_types.specs.declared.calls.CacheCall.TheVariants.{Begin, End}
use Rattle.cache_types.specs.declared.outer.Event.{Event}
use Rattle.cache_types.specs.declared.outer.OuterCall.{OuterCall}
use Rattle.cache_types.specs.declared.outer.OuterCall.TheVariants as call
use Rattle.cache_types.specs.declared.outer.OuterReply.{OuterReply}
use Rattle.cache_types.specs.declared.outer.Outcome.{Outcome}
use Rattle.module_machine.specs.declared.machine.Machine.{Machine}
use Rattle.player.specs.Plays.{Program, Answered, replies_of, events_of, event_with, with_reply, is_end_call}
use Rattle.player.specs.May.{MayAnswer}
use Rattle.guest_calls.specs.declared.call.Call.{Call}
use Rattle.guest_calls.specs.declared.rows.Under.{Under}
use Rattle.guest_calls.specs.declared.tables.GuestTables.{GuestTables}
use Rattle.guest_run.specs.declared.life.Left.{Left}
use Rattle.guest_run.specs.declared.life.Pause.{Pause}
use Rattle.guest_run.specs.declared.life.Pause.TheVariants.{Waiting, Ending}
use Rattle.guest_run.specs.declared.guest.Guest.{Guest}
use Rattle.guest_run.specs.declared.phase.Phase.{Phase}
use Rattle.guest_run.specs.declared.phase.Phase.TheVariants.{New, Begun, Alive, Heard, Stopping, Over}
use Rattle.guest_run.specs.Lives.{IsWaiting, IsHearing}
use Rattle.guest_run.specs.Guests.{GuestPlays, PhasePlays, HasEvents, IsHeard, IsBegun, IsStopped, IsOver, InMachine, behind, call_of, waits_in, is_over_in, needs, needs_pause}
use Rattle.guest_run.proofs.RowCalls.{row_no_end}

-- replies and events of a trace with one more call
pub replies_more : (trace : List Answered) (a : Answered) → replies_of (trace ++ a ∷ []) ≡ replies_of trace ++ a.reply ∷ []
replies_more [] a = refl
replies_more (x ∷ trace) a = ap (λ rest. x.reply ∷ rest) (replies_more trace a)

pub events_more : (trace : List Answered) (a : Answered) → events_of (trace ++ a ∷ []) ≡ events_of trace ++ event_with a.call a.reply ∷ []
events_more [] a = refl
events_more (x ∷ trace) a = ap (λ rest. event_with x.call x.reply ∷ rest) (events_more trace a)

pub begun_more : (trace : List Answered) (a : Answered) → IsBegun (trace ++ a ∷ [])
begun_more [] a = tt
begun_more (x ∷ trace) a = tt

-- what is behind one more reply
pub behind_more : (next : Program) (trace : List Answered) (a : Answered) (replies : List OuterReply) → behind next (trace ++ a ∷ []) replies ≡ behind next trace (a.reply ∷ replies)
behind_more next trace a replies = ap next (ap (λ front. front ++ replies) (replies_more trace a) ∙ simp append_assoc)

-- a stopped guest that began is over behind its End
over_more : (why : Outcome) (next : Program) (trace : List Answered) (a : Answered) → IsOver (Some why) true why next (trace ++ a ∷ [])
over_more why next [] a = (refl, refl)
over_more why next (x ∷ trace) a = (refl, refl)

-- a waiting row is a hearing one behind its reply
hears : (calls : List Call) (next : Program) (trace : List Answered) (left : Left) (asked : OuterCall) (under : Under) (reply : OuterReply) (machine : Machine) (t : GuestTables) → IsWaiting calls (behind next trace) left asked under machine t
    → IsHearing calls (behind next (trace ++ record { call = asked; reply = reply } ∷ [])) left under reply machine t
hears calls next trace left asked under reply machine t h = record {
  code = h.code;
  place = h.place;
  state = h.state;
  entries = h.entries;
  bound = h.bound;
  enough = h.enough;
  answered = h.answered;
  follow = h.follow;
  numbers = h.numbers;
  waits = h.waits;
  goes = λ replies. behind_more next trace (record { call = asked; reply = reply }) replies ∙ h.goes reply replies;
}

hears_in : (calls : List Call) (next : Program) (trace : List Answered) (left : Left) (asked : OuterCall) (under : Under) (reply : OuterReply) (machine : Option Machine) (t : GuestTables)
    → InMachine machine (λ m. IsWaiting calls (behind next trace) left asked under m t) → InMachine machine (λ m. IsHearing calls (behind next (trace ++ record { call = asked; reply = reply } ∷ [])) left under reply m t)
hears_in calls next trace left asked under reply None t h = h
hears_in calls next trace left asked under reply (Some m) t h = hears calls next trace left asked under reply m t h

no_end_in : (calls : List Call) (meaning : Program) (left : Left) (asked : OuterCall) (under : Under) (machine : Option Machine) (t : GuestTables) → InMachine machine (λ m. IsWaiting calls meaning left asked under m t) → is_end_call (Some asked) ≡ false
no_end_in calls meaning left asked under None t h = absurd h
no_end_in calls meaning left asked under (Some m) t h = row_no_end asked h.may

module _ (g : Guest) (next : Program) (reply : OuterReply) where
  pub answered : (phase : Phase) (trace : List Answered) (now : Phase) (events : Vec Event Global)
      → MayAnswer (call_of phase) reply → PhasePlays g phase next trace → HasEvents g phase trace
      → vec_len g.events + needs true phase ≤ vec_capacity g.events → IsHeard phase reply g.events now events
      → GuestPlays (record g { phase = now; given = false; ended = is_end_call (call_of phase); events = events }) next (with_reply trace (call_of phase) reply)
  answered New trace now events may plays has room heard =
      let noted = heard.1.noted (omega arith) in
      let capacity = heard.1.capacity in
      rw (heard.0, plays.no_calls) (record {
        phase = (record { begun = tt; stopped = plays.stopped; ended = refl }, plays.beginning reply);
        events = noted.0 ∙ ap (λ (l : List Event). l ++ event_with (call.Cache Begin) reply ∷ []) (has ∙ ap events_of plays.no_calls);
        room = omega (arith, noted.1, capacity);
      })
  answered (Alive (Waiting left asked under)) trace now events may plays has room heard =
      rw (heard.0, heard.1) (record {
        phase = (record { begun = begun_more trace _; stopped = plays.0.stopped; ended = no_end_in _ _ left asked under g.machine g.tables plays.1 }, hears_in _ next trace left asked under reply g.machine g.tables plays.1);
        events = (trace, refl, has);
        room = room;
      })
  answered (Alive (Ending outcome)) trace now events may plays has room heard =
      let noted = heard.1.noted (omega arith) in
      let capacity = heard.1.capacity in
      rw (heard.0, plays.0.stopped) (record {
        phase = (ap next (replies_more trace _) ∙ plays.1 (reply ∷ []), refl);
        events = noted.0 ∙ ap (λ (l : List Event). l ++ event_with (call.Cache End) reply ∷ []) has ∙ sym (events_more trace _);
        room = omega (arith, noted.1, capacity);
      })
  answered (Stopping outcome) trace now events may plays has room heard =
      let noted = heard.1.noted (omega arith) in
      let capacity = heard.1.capacity in
      rw (heard.0, plays.1) (record {
        phase = over_more outcome next trace _;
        events = noted.0 ∙ ap (λ (l : List Event). l ++ event_with (call.Cache End) reply ∷ []) has ∙ sym (events_more trace _);
        room = omega (arith, noted.1, capacity);
      })
  answered Begun trace now events may plays has room heard = absurd may
  answered (Heard left asked under other) trace now events may plays has room heard = absurd may
  answered (Over outcome) trace now events may plays has room heard = absurd may

pub given_true : (given : Bool) (phase : Phase) (reply : OuterReply) → MayAnswer (waits_in given phase) reply → given ≡ true
given_true true phase reply may = refl
given_true false phase reply may = absurd may

over_again : (before : Option Outcome) (ended : Bool) (was why : Outcome) (next : Program) (trace : List Answered) → IsOver before ended was next trace → IsOver (Some why) ended why next trace
over_again before ended was why next [] h = refl
over_again None ended was why next (x ∷ trace) h = (h.1, refl)
over_again (Some other) ended was why next (x ∷ trace) h = (h.0, refl)

pub pause_needs : (given : Bool) (pause : Pause) → 1 ≤ needs_pause given pause
pause_needs true (Waiting left asked under) = omega arith
pause_needs false (Waiting left asked under) = omega arith
pause_needs given (Ending outcome) = omega arith

module _ (g : Guest) (next : Program) (why : Outcome) where
  pub stopped_with : (phase : Phase) (trace : List Answered) (now : Phase) (events : Vec Event Global)
      → PhasePlays g phase next trace → HasEvents g phase trace
      → vec_len g.events + needs g.given phase ≤ vec_capacity g.events → IsStopped phase why g.events now events
      → GuestPlays (record g { phase = now; given = false; stopped = Some why; events = events }) next trace
  stopped_with New trace now events plays has room after =
      rw (after.0, after.1, plays.no_calls) (record { phase = refl; events = has ∙ ap events_of plays.no_calls; room = omega arith })
  stopped_with Begun trace now events plays has room after =
      rw (after.0, after.1) (record { phase = (plays.0.begun, refl, plays.0.ended); events = has; room = room })
  stopped_with (Alive pause) trace now events plays has room after =
      let some = pause_needs g.given pause in
      rw (after.0, after.1) (record { phase = (plays.0.begun, refl, plays.0.ended); events = has; room = omega arith })
  stopped_with (Heard left asked under reply) trace now events plays has room after =
      let noted = after.1.noted (omega arith) in
      let capacity = after.1.capacity in
      rw after.0 (record {
        phase = (plays.0.begun, refl, plays.0.ended);
        events = noted.0 ∙ ap (λ (l : List Event). l ++ event_with asked reply ∷ []) has.2 ∙ sym (events_more has.0 _) ∙ ap events_of (sym has.1);
        room = omega (arith, noted.1, capacity);
      })
  stopped_with (Stopping outcome) trace now events plays has room after =
      rw (after.0, after.1) (record { phase = (plays.0, refl, plays.2); events = has; room = room })
  stopped_with (Over outcome) trace now events plays has room after =
      rw (after.0, after.1) (record { phase = over_again g.stopped g.ended outcome why next trace plays; events = has; room = room })

-- the events of a guest that is over
pub over_events : (g : Guest) (phase : Phase) (trace : List Answered) → is_over_in phase ≡ true → HasEvents g phase trace → g.events.items ≡ events_of trace
over_events g (Over outcome) trace over has = has
over_events g New trace over has = cc over
over_events g Begun trace over has = cc over
over_events g (Alive pause) trace over has = cc over
over_events g (Heard left asked under reply) trace over has = cc over
over_events g (Stopping outcome) trace over has = cc over
