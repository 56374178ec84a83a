-- The turn that a scripted guest tells.
use Rattle.std.specs.Prelude.{◌≡◌, ◌⊎◌, ℕ, ◌≤◌, Bool, true, false, ◌||◌, List, [], ◌∷◌, refl, IsTrue, if◌then◌else◌, Option, None, Some}
use Rattle.std.proofs.Common.{arith, ap, sym, ◌∙◌, subst, inl, inr}
use Rattle.cache_types.specs.declared.calls.CacheCall.{CacheCall}
use Rattle.cache_types.specs.declared.calls.CacheCall.TheVariants.{End}
use Rattle.cache_types.specs.declared.outer.Outcome.{Outcome}
use Rattle.cache_types.specs.declared.outer.Outcome.TheVariants.{OutOfMemory}
use Rattle.cache_types.specs.declared.outer.OuterCall.{OuterCall}
use Rattle.cache_types.specs.declared.outer.OuterCall.TheVariants as outer
use Rattle.script_lines.specs.declared.line.Line.{Line}
use Rattle.player.specs.declared.turn.Turn.{Turn}
use Rattle.player.specs.declared.turn.Turn.TheVariants.{Outer, Over}
use Rattle.player.specs.Plays.{Program, Answered, replies_of, due, stopped_due, call_in, is_over, is_end_call}
use Rattle.player.specs.May.{is_empty, MayTake, IsStopAfter, may_want}
use Rattle.scripted_guest.specs.Script.{next_call, turn_of, values_in, is_script, ScriptWants}
use Rattle.scripted_guest.specs.Scripted.{State, stopped_turn, turn_with, turn_now, waits_in, is_over_in, needs, needs_now, IsEndedAt, ScriptPlays, HasRoom, Went, Advances}
use Rattle.scripted_guest.proofs.Lines.{next-call, no_values}

-- ---- what a turn asks of memory

want-open : (turn : Turn) → may_want turn ≡ true → is_over turn ≡ false
want-open (Outer call) wants = refl
want-open (Over how) wants = cc wants

-- a guest that began and goes on keeps room for its End
needs-one : (waits : Option OuterCall) (values : List ℕ) → no_values values ≡ false → 1 ≤ needs waits false values
needs-one None [] isnt = cc isnt
needs-one None (begin ∷ values) isnt = omega arith
needs-one (Some call) values isnt =
    let with : (b : Bool) → 1 ≤ (if b then 1 else 2) = elim [ true ↦ omega arith | false ↦ omega arith ] in with (is_end_call (Some call))

-- a turn of a guest: what it needs behind it was there, or is now
turn-needs : (waits : Option OuterCall) (values : List ℕ) (ended : Bool) (turn : Turn) → (is_over turn ≡ true → needs None ended values ≡ 0) → (may_want turn ≡ false → is_over turn ≡ false → 1 ≤ needs waits ended values) → needs (call_in turn) ended values ≤ needs waits ended values ⊎ (may_want turn ≡ true) × (needs (call_in turn) ended values ≤ 2)
turn-needs waits values ended (Over how) over end = let none : needs None ended values ≡ 0 = over refl in inl (omega (arith, none))
turn-needs waits values ended (Outer call) over end =
    let with : (b : Bool) → is_end_call (Some call) ≡ b → ((if b then 1 else 2) ≤ needs waits ended values) ⊎ (may_want (Outer call) ≡ true) × ((if b then 1 else 2) ≤ 2) =
    elim [ true ↦ λ is. inl (end (rw is refl) refl) | false ↦ λ isnt. inr (rw isnt refl, omega arith) ]
    in with (is_end_call (Some call)) refl

stopped-same : (trace : List Answered) (ended : Bool) (why : Outcome) → stopped_turn (values_in (replies_of trace)) ended why ≡ stopped_due trace ended why
stopped-same [] ended why = refl
stopped-same (begin ∷ trace) ended why = refl

or-true : (b : Bool) → (b || true) ≡ true
or-true true = refl
or-true false = refl

empty-values : (trace : List Answered) → no_values (values_in (replies_of trace)) ≡ is_empty trace
empty-values [] = refl
empty-values (begin ∷ trace) = refl

-- ---- a guest of a program

module _ (lines : List Line) (values : List ℕ) (ended : Bool) (trace : List Answered) (script : IsTrue (is_script lines)) (is : values ≡ values_in (replies_of trace)) where
  going-may : (call : Option CacheCall) → next_call lines values ≡ call → ended ≡ is_over (turn_of call) → MayTake trace ended None (turn_of call)
  going-may None at over = rw over refl
  going-may (Some call) at over = let next = next-call lines values call script at in (over, (next.begins ∙ (ap no_values is ∙ empty-values trace), next.limits))

  stopping-may : (why : Outcome) (trace : List Answered) → MayTake trace ended (Some why) (stopped_due trace ended why)
  stopping-may why [] = or-true ended
  stopping-may why (begin ∷ trace) =
      let with : (b : Bool) → MayTake (begin ∷ trace) b (Some why) (if b then Over why else Outer (outer.Cache End)) = elim [ true ↦ refl | false ↦ (refl, (refl, refl)) ] in with ended

  -- its turn is one that it may take
  pub turn-may : (stopped : Option Outcome) → IsEndedAt lines values ended stopped → MayTake trace ended stopped (turn_with lines values ended stopped)
  turn-may None over = going-may (next_call lines values) refl over
  turn-may (Some why) over = subst (MayTake trace ended (Some why)) (sym (ap (λ (vs : List ℕ). stopped_turn vs ended why) is ∙ stopped-same trace ended why)) (stopping-may why trace)

-- what it needs, by its turn
going-needs : (values : List ℕ) (ended : Bool) (turn : Turn) → ended ≡ is_over turn → is_over turn ≡ true → needs None ended values ≡ 0
going-needs values ended turn over is = rw (over ∙ is) refl

stopped-needs : (values : List ℕ) (ended : Bool) (why : Outcome) → is_over (stopped_turn values ended why) ≡ true → needs None ended values ≡ 0
stopped-needs [] true why is = refl
stopped-needs [] false why is = refl
stopped-needs (begin ∷ values) true why is = refl
stopped-needs (begin ∷ values) false why is = cc is

stopped-end : (waits : Option OuterCall) (values : List ℕ) (ended : Bool) (why : Outcome) → is_over (stopped_turn values ended why) ≡ false → 1 ≤ needs waits ended values
stopped-end waits [] ended why isnt = cc isnt
stopped-end waits (begin ∷ values) true why isnt = cc isnt
stopped-end waits (begin ∷ values) false why isnt = needs-one waits (begin ∷ values) refl

stopped-want : (values : List ℕ) (ended : Bool) (why : Outcome) → may_want (stopped_turn values ended why) ≡ false
stopped-want [] ended why = refl
stopped-want (begin ∷ values) true why = refl
stopped-want (begin ∷ values) false why = refl

going-end : (waits : Option OuterCall) (lines : List Line) (values : List ℕ) (ended : Bool) → ended ≡ is_over (turn_of (next_call lines values)) → may_want (turn_of (next_call lines values)) ≡ false → is_over (turn_of (next_call lines values)) ≡ false → 1 ≤ needs waits ended values
going-end waits lines [] ended over want isnt = cc want
going-end waits lines (begin ∷ values) ended over want isnt = rw (over ∙ isnt) (needs-one waits (begin ∷ values) refl)

turn-fits : (waits : Option OuterCall) (lines : List Line) (values : List ℕ) (ended : Bool) (stopped : Option Outcome) → IsEndedAt lines values ended stopped → needs (call_in (turn_with lines values ended stopped)) ended values ≤ needs waits ended values ⊎ (may_want (turn_with lines values ended stopped) ≡ true) × (needs (call_in (turn_with lines values ended stopped)) ended values ≤ 2)
turn-fits waits lines values ended None over =
    turn-needs waits values ended (turn_of (next_call lines values)) (going-needs values ended (turn_of (next_call lines values)) over) (going-end waits lines values ended over)
turn-fits waits lines values ended (Some why) over =
    turn-needs waits values ended (stopped_turn values ended why) (stopped-needs values ended why) (λ _. stopped-end waits values ended why)

module _ (old now : State) (turn : Turn) (adv : Advances old now turn) where
  pub waits-now : waits_in now ≡ call_in turn
  waits-now = rw (adv.given_is, adv.turn_is) refl

  pub over-now : is_over_in now ≡ is_over turn
  over-now = rw (adv.given_is, adv.turn_is) refl

  module _ (next : Program) (trace : List Answered) (plays : ScriptPlays old next trace) where
    values-now : now.values.items ≡ values_in (replies_of trace)
    values-now = adv.values_are.items ∙ plays.values

    script-now : IsTrue (is_script now.lines)
    script-now = rw adv.lines_are plays.script

    -- an End is where it was, and a guest that was stopped isn't asked
    ended-with : (was : Option Outcome) → old.stopped ≡ was → Went old now was → (stopped : Option Outcome) → now.stopped ≡ stopped → IsEndedAt now.lines now.values.items now.ended stopped
    ended-with was at went (Some why) is = tt
    ended-with (Some why) at went None is = cc (went, is)
    ended-with None at went None is =
        let before : old.ended ≡ is_over (turn_of (next_call old.lines old.values.items)) = subst (IsEndedAt old.lines old.values.items old.ended) at plays.over in
        rw (adv.ended_is, adv.lines_are, adv.values_are.items) before

    ended-now : IsEndedAt now.lines now.values.items now.ended now.stopped
    ended-now = ended-with old.stopped refl adv.went now.stopped refl

    pub may-now : MayTake trace now.ended now.stopped turn
    may-now = subst (MayTake trace now.ended now.stopped) (sym adv.turn_is) (turn-may now.lines now.values.items now.ended trace script-now values-now now.stopped ended-now)

    due-now : (stopped : Option Outcome) → turn_with now.lines now.values.items now.ended stopped ≡ due next trace now.ended stopped
    due-now None = rw (adv.lines_are, values-now) (sym (plays.program (replies_of trace)))
    due-now (Some why) = ap (λ (vs : List ℕ). stopped_turn vs now.ended why) values-now ∙ stopped-same trace now.ended why

    pub turn-due : turn ≡ due next trace now.ended now.stopped
    turn-due = adv.turn_is ∙ due-now now.stopped

    stop-with : (was : Option Outcome) → old.stopped ≡ was → Went old now was → IsStopAfter (ScriptWants next trace) old.ended was now.stopped
    stop-with (Some why) at went = went
    stop-with None at went = elim went [
      | inl on ↦ subst (IsStopAfter (ScriptWants next trace) old.ended None) (sym on.0) tt
      | inr short ↦
          let wants : IsTrue (may_want (turn_of (next_call old.lines old.values.items))) = short.1 plays.script in
          let before : old.ended ≡ is_over (turn_of (next_call old.lines old.values.items)) = subst (IsEndedAt old.lines old.values.items old.ended) at plays.over in
          let says : next (replies_of trace) ≡ turn_of (next_call old.lines old.values.items) = plays.program (replies_of trace) ∙ ap (λ (vs : List ℕ). turn_of (next_call old.lines vs)) (sym plays.values) in
          subst (IsStopAfter (ScriptWants next trace) old.ended None) (sym short.0) (subst (λ t. IsTrue (may_want t)) (sym says) wants, before ∙ want-open (turn_of (next_call old.lines old.values.items)) wants, refl)
    ]

    pub stop-now : IsStopAfter (ScriptWants next trace) old.ended old.stopped now.stopped
    stop-now = stop-with old.stopped refl adv.went

    -- what memory was made for
    room-with : (was : Option Outcome) → Went old now was → may_want (turn_now now) ≡ true → HasRoom 2 now.values now.events
    room-with (Some why) went wants = let none : may_want (turn_now now) ≡ false = ap (λ o. may_want (turn_with now.lines now.values.items now.ended o)) went ∙ stopped-want now.values.items now.ended why in cc (none, wants)
    room-with None went wants = elim went [
      | inl on ↦ on.1 wants
      | inr short ↦ let none : may_want (turn_now now) ≡ false = ap (λ o. may_want (turn_with now.lines now.values.items now.ended o)) short.0 ∙ stopped-want now.values.items now.ended OutOfMemory in cc (none, wants)
    ]

    needs-are : needs_now now ≡ needs (call_in (turn_now now)) now.ended now.values.items
    needs-are = rw adv.given_is refl

    needs-were : needs_now old ≡ needs (waits_in old) now.ended now.values.items
    needs-were = rw (adv.ended_is, adv.values_are.items) refl

    pub plays-now : ScriptPlays now next trace
    plays-now =
        let fits = turn-fits (waits_in old) now.lines now.values.items now.ended now.stopped ended-now in
        let room : HasRoom (needs_now now) now.values now.events = elim fits [
          | inl less ↦
              let same = adv.values_are in let sames = adv.events_are in
              record {
                for_values = omega (arith, plays.value_room, needs-are, needs-were, less, same.len, same.capacity);
                for_events = omega (arith, plays.event_room, needs-are, needs-were, less, sames.len, sames.capacity);
              }
          | inr two ↦
              let made = room-with old.stopped adv.went two.0 in
              record { for_values = omega (arith, made.for_values, needs-are, two.1); for_events = omega (arith, made.for_events, needs-are, two.1) }
        ] in
        record {
          program = rw adv.lines_are plays.program;
          script = script-now;
          values = values-now;
          events = adv.events_are.items ∙ plays.events;
          over = ended-now;
          value_room = room.for_values;
          event_room = room.for_events;
        }
