-- The turn that a guest offers.
use Rattle.std.proofs.Common.{◌≡◌, ◌∙◌, ◌+◌, ◌≤◌, true, false, Bool, List, [], ◌∷◌, ◌++◌, append-nil, Option, None, Some, Ok, refl, ap, sym, subst, arith, vec_len, vec_capacity}
use Rattle.std.specs.Prelude.{Result, Vec, IsTrue, ◌||◌}
use Rattle.std.specs.declared.alloc.Global.{Global}
use Rattle.std.specs.declared.alloc.AllocError.{AllocError}
use Rattle.cache_types.specs.declared.calls.CacheCall.TheVariants.{Begin, End}
use Rattle.cache_types.specs.declared.outer.Event.{Event}
use Rattle.cache_types.specs.declared.outer.OuterCall.{OuterCall}
use Rattle.cache_types.specs.declared.outer.OuterCall.TheVariants as call
use Rattle.cache_types.specs.declared.outer.OuterReply.{OuterReply}
use Rattle.cache_types.specs.declared.outer.Outcome.{Outcome}
use Rattle.cache_types.specs.declared.outer.Outcome.TheVariants.{OutOfMemory}
use Rattle.module_machine.specs.declared.machine.Machine.{Machine}
use Rattle.player.specs.declared.turn.Turn.{Turn}
use Rattle.player.specs.declared.turn.Turn.TheVariants as turn
use Rattle.player.specs.Plays.{Program, Answered, replies_of, events_of, event_with, due, call_in, is_over}
use Rattle.player.specs.May.{MayTake, IsStopAfter, is_empty}
use Rattle.guest_calls.specs.declared.call.Call.{Call}
use Rattle.guest_calls.specs.declared.rows.Under.{Under}
use Rattle.guest_calls.specs.declared.tables.GuestTables.{GuestTables}
use Rattle.guest_run.specs.declared.life.Left.{Left}
use Rattle.guest_run.specs.declared.life.Pause.{Pause}
use Rattle.guest_run.specs.declared.life.Pause.TheVariants.{Waiting, Ending}
use Rattle.guest_run.specs.declared.guest.Guest.{Guest}
use Rattle.guest_run.specs.declared.phase.Phase.{Phase}
use Rattle.guest_run.specs.declared.phase.Phase.TheVariants.{New, Begun, Alive, Heard, Stopping, Over}
use Rattle.guest_run.specs.Lives.{IsWaiting, IsHearing}
use Rattle.guest_run.specs.Guests.{GuestPlays, Offers, IsAdvanced, IsSame, ComesTo, IsNoted, PhasePlays, PausePlays, GoesOn, IsBeginning, IsOver, IsBegun, InMachine, starved, behind, call_of_pause, call_of, turn_of, is_over_in, waits_in, needs_pause}
use Rattle.guest_run.proofs.Answering.{pause_needs, events_more}
use Rattle.guest_run.proofs.RowCalls.{row_may}

-- what the program does behind these calls and nothing more
same_turn : (next : Program) (trace : List Answered) (t : Turn) → behind next trace [] ≡ t → t ≡ next (replies_of trace)
same_turn next trace t h = sym h ∙ ap next (simp append-nil)

asks_in : (calls : List Call) (meaning : Program) (left : Left) (asked : OuterCall) (under : Under) (machine : Option Machine) (t : GuestTables) → InMachine machine (λ m. IsWaiting calls meaning left asked under m t) → meaning [] ≡ turn.Outer asked
asks_in calls meaning left asked under None t h = absurd h
asks_in calls meaning left asked under (Some m) t h = h.asks

pause_asks : (g : Guest) (pause : Pause) (meaning : Program) → PausePlays g pause meaning → meaning [] ≡ turn.Outer (call_of_pause pause)
pause_asks g (Waiting left asked under) meaning h = asks_in _ meaning left asked under g.machine g.tables h
pause_asks g (Ending outcome) meaning h = h []

-- a pause is offered
pub offers_pause : (g : Guest) (next : Program) (trace : List Answered) (pause : Pause) (events : Vec Event Global) → Offers g (Ok pause) next trace → events.items ≡ g.events.items → vec_len events + needs_pause true pause ≤ vec_capacity events
    → IsAdvanced g.stopped (record g { given = true; phase = Alive pause; events = events }) (turn.Outer (call_of_pause pause)) next trace
offers_pause g next trace pause events offers items room = record {
  plays = record { phase = (record { begun = offers.goes_on.begun; stopped = offers.goes_on.stopped; ended = offers.goes_on.ended }, offers.comes_to); events = items ∙ offers.events; room = room };
  due_is = rw offers.goes_on.stopped (same_turn next trace (turn.Outer (call_of_pause pause)) (pause_asks g pause (behind next trace) offers.comes_to));
  stops = rw offers.goes_on.stopped tt;
}

-- a guest that began and wants memory
begun_due : (next : Program) (trace : List Answered) (ended : Bool) (why : Outcome) → IsBegun trace → ended ≡ false → turn.Outer (call.Cache End) ≡ due next trace ended (Some why)
begun_due next [] ended why begun is = absurd begun
begun_due next (x ∷ trace) ended why begun is = rw is refl

pub offers_none : (g : Guest) (next : Program) (trace : List Answered) (pause : Result Pause AllocError) (events : Vec Event Global) → Offers g pause next trace → events.items ≡ g.events.items → vec_len events ≡ vec_len g.events → vec_capacity g.events ≤ vec_capacity events
    → IsAdvanced g.stopped (starved (record g { events = events })) (turn.Outer (call.Cache End)) next trace
offers_none g next trace pause events offers items len capacity = record {
  plays = record { phase = (offers.goes_on.begun, refl, offers.goes_on.ended); events = items ∙ offers.events; room = omega (arith, offers.room, len, capacity) };
  due_is = begun_due next trace g.ended OutOfMemory offers.goes_on.begun offers.goes_on.ended;
  stops = rw offers.goes_on.stopped (tt, offers.goes_on.ended, refl);
}

-- ---- what is offered, by the phase before

goes_same : (g now : Guest) (trace : List Answered) → IsSame g now → GoesOn g trace → GoesOn now trace
goes_same g now trace same h = record { begun = h.begun; stopped = same.stopped ∙ h.stopped; ended = same.ended ∙ h.ended }

module _ (g : Guest) (next : Program) (trace : List Answered) where
  pub begun_offers : (now : Guest) (result : Result Pause AllocError) → GuestPlays (record g { phase = Begun }) next trace → IsSame g now → now.events ≡ g.events
      → ((meaning : Program) → IsBeginning g.service.now g.tables meaning → ComesTo now result meaning) → Offers now result next trace
  begun_offers now result plays same events comes = record {
    goes_on = goes_same g now trace same (record { begun = plays.phase.0.begun; stopped = plays.phase.0.stopped; ended = plays.phase.0.ended });
    comes_to = comes (behind next trace) plays.phase.1;
    events = rw events plays.events;
    room = rw events plays.room;
  }

  pub alive_offers : (pause : Pause) → GuestPlays (record g { phase = Alive pause }) next trace → Offers g (Ok pause) next trace
  alive_offers pause plays =
      let some = pause_needs g.given pause in
      let room = plays.room in
      record {
        goes_on = record { begun = plays.phase.0.begun; stopped = plays.phase.0.stopped; ended = plays.phase.0.ended };
        comes_to = plays.phase.1;
        events = plays.events;
        room = omega arith;
      }

  pub heard_offers : (left : Left) (asked : OuterCall) (under : Under) (reply : OuterReply) (now : Guest) (result : Result Pause AllocError) → GuestPlays (record g { phase = Heard left asked under reply }) next trace → IsSame g now → IsNoted g.events asked reply now.events
      → ((meaning : Program) → InMachine g.machine (λ machine. IsHearing g.service.now.calls.items meaning left under reply machine g.tables) → ComesTo now result meaning) → Offers now result next trace
  heard_offers left asked under reply now result plays same noted comes =
      let room = plays.room in
      let more = noted.noted (omega arith) in
      let has = plays.events in
      record {
        goes_on = goes_same g now trace same (record { begun = plays.phase.0.begun; stopped = plays.phase.0.stopped; ended = plays.phase.0.ended });
        comes_to = comes (behind next trace) plays.phase.1;
        events = more.0 ∙ ap (λ (l : List Event). l ++ event_with asked reply ∷ []) has.2 ∙ sym (events_more has.0 _) ∙ ap events_of (sym has.1);
        room = omega (arith, more.1, noted.capacity);
      }

-- ---- guests that tell what they know

pub new_advances : (g : Guest) (next : Program) (trace : List Answered) (events : Vec Event Global) → GuestPlays (record g { phase = New }) next trace → events.items ≡ g.events.items → vec_len events + 2 ≤ vec_capacity events
    → IsAdvanced g.stopped (record g { given = true; phase = New; events = events }) (turn.Outer (call.Cache Begin)) next trace
new_advances g next trace events plays items room = record {
  plays = record {
    phase = record { no_calls = plays.phase.no_calls; stopped = plays.phase.stopped; ended = plays.phase.ended; begins = plays.phase.begins; beginning = plays.phase.beginning };
    events = items ∙ plays.events;
    room = room;
  };
  due_is = rw (plays.phase.stopped, plays.phase.no_calls) (sym plays.phase.begins);
  stops = rw plays.phase.stopped tt;
}

-- at want of memory before its Begin
pub new_starves : (g : Guest) (next : Program) (trace : List Answered) (events : Vec Event Global) → GuestPlays (record g { phase = New }) next trace → events.items ≡ g.events.items → vec_len events ≡ vec_len g.events → vec_capacity g.events ≤ vec_capacity events
    → IsAdvanced g.stopped (record g { given = true; stopped = Some OutOfMemory; phase = Over OutOfMemory; events = events }) (turn.Over OutOfMemory) next trace
new_starves g next trace events plays items len capacity =
    let room = plays.room in
    record {
      plays = record { phase = rw plays.phase.no_calls refl; events = items ∙ plays.events; room = omega arith };
      due_is = rw plays.phase.no_calls refl;
      stops = rw plays.phase.stopped (tt, plays.phase.ended, refl);
    }

pub stopping_advances : (g : Guest) (next : Program) (trace : List Answered) (why : Outcome) → GuestPlays (record g { phase = Stopping why }) next trace → IsAdvanced g.stopped (record g { given = true; phase = Stopping why }) (turn.Outer (call.Cache End)) next trace
stopping_advances g next trace why plays = record {
  plays = record { phase = (plays.phase.0, plays.phase.1, plays.phase.2); events = plays.events; room = plays.room };
  due_is = rw plays.phase.1 (begun_due next trace g.ended why plays.phase.0 plays.phase.2);
  stops = rw plays.phase.1 refl;
}

over_due : (stopped : Option Outcome) (ended : Bool) (how : Outcome) (next : Program) (trace : List Answered) → IsOver stopped ended how next trace → turn.Over how ≡ due next trace ended stopped
over_due None ended how next trace h = sym h.0
over_due (Some why) ended how next [] h = ap turn.Over h
over_due (Some why) ended how next (x ∷ trace) h = rw h.0 (ap turn.Over h.1)

stops_same : (stopped : Option Outcome) (ended : Bool) → IsStopAfter (Unit {0}) ended stopped stopped
stops_same None ended = tt
stops_same (Some why) ended = refl

pub over_advances : (g : Guest) (next : Program) (trace : List Answered) (how : Outcome) → GuestPlays (record g { phase = Over how }) next trace → IsAdvanced g.stopped (record g { given = true; phase = Over how }) (turn.Over how) next trace
over_advances g next trace how plays = record {
  plays = record { phase = plays.phase; events = plays.events; room = plays.room };
  due_is = over_due g.stopped g.ended how next trace plays.phase;
  stops = stops_same g.stopped g.ended;
}

-- ---- what a turn may be

begun_full : (trace : List Answered) → IsBegun trace → is_empty trace ≡ false
begun_full [] h = absurd h
begun_full (x ∷ trace) h = refl

waiting_may : (g : Guest) (trace : List Answered) (meaning : Program) (left : Left) (asked : OuterCall) (under : Under) (machine : Option Machine) → GoesOn g trace → InMachine machine (λ m. IsWaiting g.service.now.calls.items meaning left asked under m g.tables) → MayTake trace g.ended g.stopped (turn.Outer asked)
waiting_may g trace meaning left asked under None on h = absurd h
waiting_may g trace meaning left asked under (Some m) on h = (on.ended, row_may trace asked (begun_full trace on.begun) h.may h.unlinked)

end_may : (trace : List Answered) (ended : Bool) (stopped : Option Outcome) → IsBegun trace → ended ≡ false → MayTake trace ended stopped (turn.Outer (call.Cache End))
end_may trace ended stopped begun is = rw (begun_full trace begun) (is, (refl, refl))

over_may : (stopped : Option Outcome) (ended : Bool) (how : Outcome) (next : Program) (trace : List Answered) → IsOver stopped ended how next trace → MayTake trace ended stopped (turn.Over how)
over_may None ended how next trace h = rw h.1 refl
over_may (Some why) ended how next trace h = or_true ended
  where
    or_true : (b : Bool) → IsTrue (b || true)
    or_true true = refl
    or_true false = refl

pub may_take : (g : Guest) (next : Program) (trace : List Answered) (result : Turn) (phase : Phase) → PhasePlays g phase next trace → turn_of phase ≡ Some result → MayTake trace g.ended g.stopped result
may_take g next trace result New plays is = let same : turn.Outer (call.Cache Begin) ≡ result = cc in subst (MayTake trace g.ended g.stopped) same (rw plays.no_calls (plays.ended, (refl, refl)))
may_take g next trace result Begun plays is = cc is
may_take g next trace result (Alive (Waiting left asked under)) plays is = let same : turn.Outer asked ≡ result = cc in subst (MayTake trace g.ended g.stopped) same (waiting_may g trace (behind next trace) left asked under g.machine plays.0 plays.1)
may_take g next trace result (Alive (Ending outcome)) plays is = let same : turn.Outer (call.Cache End) ≡ result = cc in subst (MayTake trace g.ended g.stopped) same (end_may trace g.ended g.stopped plays.0.begun plays.0.ended)
may_take g next trace result (Heard left asked under reply) plays is = cc is
may_take g next trace result (Stopping why) plays is = let same : turn.Outer (call.Cache End) ≡ result = cc in subst (MayTake trace g.ended g.stopped) same (end_may trace g.ended g.stopped plays.0 plays.2)
may_take g next trace result (Over how) plays is = let same : turn.Over how ≡ result = cc in subst (MayTake trace g.ended g.stopped) same (over_may g.stopped g.ended how next trace plays)

pub waits_told : (phase : Phase) (result : Turn) → turn_of phase ≡ Some result → call_of phase ≡ call_in result
waits_told New result is = let same : turn.Outer (call.Cache Begin) ≡ result = cc in ap call_in same
waits_told Begun result is = cc is
waits_told (Alive pause) result is = let same : turn.Outer (call_of_pause pause) ≡ result = cc in ap call_in same
waits_told (Heard left asked under reply) result is = cc is
waits_told (Stopping why) result is = let same : turn.Outer (call.Cache End) ≡ result = cc in ap call_in same
waits_told (Over how) result is = let same : turn.Over how ≡ result = cc in ap call_in same

pub over_told : (phase : Phase) (result : Turn) → turn_of phase ≡ Some result → is_over_in phase ≡ is_over result
over_told New result is = let same : turn.Outer (call.Cache Begin) ≡ result = cc in ap is_over same
over_told Begun result is = cc is
over_told (Alive pause) result is = let same : turn.Outer (call_of_pause pause) ≡ result = cc in ap is_over same
over_told (Heard left asked under reply) result is = cc is
over_told (Stopping why) result is = let same : turn.Outer (call.Cache End) ≡ result = cc in ap is_over same
over_told (Over how) result is = let same : turn.Over how ≡ result = cc in ap is_over same

-- a guest at the phase that it has
pub at_phase : (g : Guest) (phase : Phase) (next : Program) (trace : List Answered) → g.phase ≡ phase → GuestPlays g next trace → GuestPlays (record g { phase = phase }) next trace
at_phase g phase next trace e plays = record {
  phase = rw e at plays.phase;
  events = rw e at plays.events;
  room = rw e at plays.room;
}

pub waits_given : (given : Bool) (phase : Phase) (result : Turn) → given ≡ true → turn_of phase ≡ Some result → waits_in given phase ≡ call_in result
waits_given given phase result is told = rw is (waits_told phase result told)
