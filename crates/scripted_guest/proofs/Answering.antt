-- A scripted guest behind the reply to its call, and one that is stopped.
use Rattle.std.specs.Prelude.{◌≡◌, ℕ, ◌+◌, ◌≤◌, Bool, true, false, List, [], ◌∷◌, ◌++◌, refl, if◌then◌else◌, Option, None, Some, Vec, vec_len, vec_capacity}
use Rattle.std.specs.declared.alloc.Global.{Global}
use Rattle.std.proofs.Common.{arith, ap, sym, ◌∙◌, subst}
use Rattle.cache_types.specs.declared.calls.CacheCall.{CacheCall}
use Rattle.cache_types.specs.declared.calls.CacheCall.TheVariants.{End}
use Rattle.cache_types.specs.declared.entries.Stepped.{Stepped}
use Rattle.cache_types.specs.declared.outer.Event.{Event}
use Rattle.cache_types.specs.declared.outer.Event.TheVariants as event
use Rattle.cache_types.specs.declared.outer.Outcome.{Outcome}
use Rattle.cache_types.specs.declared.outer.OuterCall.{OuterCall}
use Rattle.cache_types.specs.declared.outer.OuterCall.TheVariants as outer
use Rattle.cache_types.specs.declared.outer.OuterReply.{OuterReply}
use Rattle.cache_types.specs.declared.outer.OuterReply.TheVariants as said
use Rattle.script_lines.specs.declared.line.Line.{Line}
use Rattle.player.specs.Plays.{Program, Answered, replies_of, events_of, event_with, with_reply, call_in, is_over, is_end_call}
use Rattle.player.specs.Runs.{is_answer}
use Rattle.player.specs.May.{MayAnswer}
use Rattle.scripted_guest.specs.Script.{value_of, worth_of, next_call, turn_of, values_in, is_script}
use Rattle.scripted_guest.specs.Scripted.{State, stopped_turn, turn_with, turn_now, waits_in, needs, IsEndedAt, ScriptPlays, IsPushed}
use Rattle.scripted_guest.proofs.Lines.{over-next}

-- ---- what waits is a cache call

stopped-cache : (values : List ℕ) (ended : Bool) (why : Outcome) (call : OuterCall) → call_in (stopped_turn values ended why) ≡ Some call → outer.Cache End ≡ call
stopped-cache [] ended why call is = cc is
stopped-cache (begin ∷ values) true why call is = cc is
stopped-cache (begin ∷ values) false why call is = cc is

going-cache : (next : Option CacheCall) (call : OuterCall) → call_in (turn_of next) ≡ Some call → (c : CacheCall) × (outer.Cache c ≡ call) × (next ≡ Some c)
going-cache None call is = cc is
going-cache (Some c) call is = let same : outer.Cache c ≡ call = some-same (outer.Cache c) call is in (c, same, refl)
  where
    some-same : (x y : OuterCall) → Some x ≡ Some y → x ≡ y
    some-same x y is = cc is

with-cache : (lines : List Line) (values : List ℕ) (ended : Bool) (stopped : Option Outcome) (call : OuterCall) → call_in (turn_with lines values ended stopped) ≡ Some call → (c : CacheCall) × (outer.Cache c ≡ call)
with-cache lines values ended None call is = let c = going-cache (next_call lines values) call is in (c.0, c.1)
with-cache lines values ended (Some why) call is = (End, stopped-cache values ended why call is)

pub waits-cache : (s : State) (call : OuterCall) → waits_in s ≡ Some call → (c : CacheCall) × (outer.Cache c ≡ call)
waits-cache s call is =
    let with : (b : Bool) → s.given ≡ b → (if b then call_in (turn_now s) else None) ≡ Some call → (c : CacheCall) × (outer.Cache c ≡ call) =
    elim [ true ↦ λ _ at. with-cache s.lines s.values.items s.ended s.stopped call at | false ↦ λ _ at. cc at ]
    in with s.given refl is

-- so its answer is one of the cache's
pub answer-is_cache : (s : State) (reply : OuterReply) → MayAnswer (waits_in s) reply → ((told : Stepped) → reply ≡ said.Cache told → ⊥) → ⊥
answer-is_cache s reply may not = with (waits_in s) refl may
  where
    kind : (c : CacheCall) (reply : OuterReply) → is_answer (outer.Cache c) reply ≡ true → ((told : Stepped) → reply ≡ said.Cache told → ⊥) → ⊥
    kind c (said.Cache told) is not = not told refl
    kind c _ is not = cc is

    with : (waits : Option OuterCall) → waits_in s ≡ waits → MayAnswer waits reply → ⊥
    with None at may = may
    with (Some call) at may = let c = waits-cache s call at in kind c.0 reply (subst (λ o. is_answer o reply ≡ true) (sym c.1) may) not

-- ---- what it has behind the answer

pub replies-more : (trace : List Answered) (a : Answered) → replies_of (trace ++ a ∷ []) ≡ replies_of trace ++ a.reply ∷ []
replies-more [] a = refl
replies-more (x ∷ trace) a = ap (λ rest. x.reply ∷ rest) (replies-more trace a)

pub values-more : (trace : List Answered) (a : Answered) → values_in (replies_of (trace ++ a ∷ [])) ≡ values_in (replies_of trace) ++ worth_of a.reply ∷ []
values-more [] a = refl
values-more (x ∷ trace) a = ap (λ rest. worth_of x.reply ∷ rest) (values-more trace a)

pub events-more : (trace : List Answered) (a : Answered) → events_of (trace ++ a ∷ []) ≡ events_of trace ++ event_with a.call a.reply ∷ []
events-more [] a = refl
events-more (x ∷ trace) a = ap (λ rest. event_with x.call x.reply ∷ rest) (events-more trace a)

needs-call : (call : OuterCall) (ended : Bool) (values : List ℕ) → 1 ≤ needs (Some call) ended values
needs-call call ended values =
    let with : (b : Bool) → 1 ≤ (if b then 1 else 2) = elim [ true ↦ omega arith | false ↦ omega arith ] in with (is_end_call (Some call))

none-needs : (values : List ℕ) → needs None false values ≤ 1
none-needs [] = omega arith
none-needs (begin ∷ values) = omega arith

-- behind the answer so much less is needed
less-needed : (call : OuterCall) (before : Bool) (values more : List ℕ) → 1 + needs None (is_end_call (Some call)) more ≤ needs (Some call) before values
less-needed call before values more =
    let least = none-needs more in
    let with : (b : Bool) → 1 + needs None b more ≤ (if b then 1 else 2) = elim [ true ↦ omega arith | false ↦ omega (arith, least) ] in with (is_end_call (Some call))

ended-behind : (lines : List Line) (values : List ℕ) (value : ℕ) (ended : Bool) (stopped : Option Outcome) (call : OuterCall) → is_script lines ≡ true → call_in (turn_with lines values ended stopped) ≡ Some call → IsEndedAt lines (values ++ value ∷ []) (is_end_call (Some call)) stopped
ended-behind lines values value ended (Some why) call script is = tt
ended-behind lines values value ended None call script is =
    let c = going-cache (next_call lines values) call is in
    subst (λ o. is_end_call (Some o) ≡ is_over (turn_of (next_call lines (values ++ value ∷ [])))) c.1 (over-next lines values value c.0 script c.2)

given-call : (s : State) (call : OuterCall) → waits_in s ≡ Some call → call_in (turn_now s) ≡ Some call
given-call s call is =
    let with : (b : Bool) → (if b then call_in (turn_now s) else None) ≡ Some call → call_in (turn_now s) ≡ Some call = elim [ true ↦ λ at. at | false ↦ λ at. cc at ] in with s.given is

-- the guest behind an answer
abbrev pub heard : State → Vec ℕ Global → Vec Event Global → Option OuterCall → State
heard s values events waits = record s { values = values; events = events; given = false; ended = is_end_call waits }

module _ (s : State) (next : Program) (trace : List Answered) (told : Stepped) (values : Vec ℕ Global) (events : Vec Event Global) (plays : ScriptPlays s next trace) (pushed : IsPushed s.values (value_of told.number told.reply) values) (noted : IsPushed s.events (event.Entry told.number) events) where
  answered-with : (waits : Option OuterCall) → waits_in s ≡ waits → MayAnswer waits (said.Cache told) → ScriptPlays (heard s values events waits) next (with_reply trace waits (said.Cache told))
  answered-with None at may = absurd may
  answered-with (Some call) at may =
      let room : vec_len s.values + needs (Some call) s.ended s.values.items ≤ vec_capacity s.values = subst (λ w. vec_len s.values + needs w s.ended s.values.items ≤ vec_capacity s.values) at plays.value_room in
      let rooms : vec_len s.events + needs (Some call) s.ended s.values.items ≤ vec_capacity s.events = subst (λ w. vec_len s.events + needs w s.ended s.values.items ≤ vec_capacity s.events) at plays.event_room in
      let one = needs-call call s.ended s.values.items in
      let less = less-needed call s.ended s.values.items values.items in
      let more = pushed.pushed (omega (arith, room, one)) in
      let most = noted.pushed (omega (arith, rooms, one)) in
      let a : Answered = record { call = call; reply = said.Cache told } in
      record {
        program = plays.program;
        script = plays.script;
        values = more.0 ∙ (ap (λ (l : List ℕ). l ++ value_of told.number told.reply ∷ []) plays.values ∙ sym (values-more trace a));
        events = most.0 ∙ (ap (λ (l : List Event). l ++ event.Entry told.number ∷ []) plays.events ∙ sym (events-more trace a));
        over = subst (λ vs. IsEndedAt s.lines vs (is_end_call (Some call)) s.stopped) (sym more.0) (ended-behind s.lines s.values.items (value_of told.number told.reply) s.ended s.stopped call plays.script (given-call s call at));
        value_room = omega (arith, room, less, more.1, pushed.capacity);
        event_room = omega (arith, rooms, less, most.1, noted.capacity);
      }

  pub answered : MayAnswer (waits_in s) (said.Cache told) → ScriptPlays (heard s values events (waits_in s)) next (with_reply trace (waits_in s) (said.Cache told))
  answered may = answered-with (waits_in s) refl may

-- the same of the guest as its fields show it
pub answered-view : (s view : State) (next : Program) (trace : List Answered) (told : Stepped) (reply : OuterReply) (values : Vec ℕ Global) (events : Vec Event Global) (ended : Bool) → view ≡ s → reply ≡ said.Cache told → ended ≡ is_end_call (waits_in s)
    → ScriptPlays s next trace → MayAnswer (waits_in s) reply → IsPushed view.values (value_of told.number told.reply) values → IsPushed view.events (event.Entry told.number) events
    → ScriptPlays (record view { values = values; events = events; given = false; ended = ended }) next (with_reply trace (waits_in s) reply)
answered-view s view next trace told reply values events ended is says end plays may pushed noted =
    let here : (st : State) → view ≡ st → ScriptPlays view next trace → MayAnswer (waits_in view) reply → ended ≡ is_end_call (waits_in view) → ScriptPlays (record view { values = values; events = events; given = false; ended = ended }) next (with_reply trace (waits_in view) reply) = λ st _ plays may end.
    subst (λ r. ScriptPlays (record view { values = values; events = events; given = false; ended = ended }) next (with_reply trace (waits_in view) r)) (sym says)
    (subst (λ e. ScriptPlays (record view { values = values; events = events; given = false; ended = e }) next (with_reply trace (waits_in view) (said.Cache told))) (sym end)
    (answered view next trace told values events plays pushed noted (subst (MayAnswer (waits_in view)) says may)))
    in
    subst (λ st. ScriptPlays st next trace → MayAnswer (waits_in st) reply → ended ≡ is_end_call (waits_in st) → ScriptPlays (record view { values = values; events = events; given = false; ended = ended }) next (with_reply trace (waits_in st) reply)) is (here s is) plays may end

-- ---- a guest that is stopped

stop-needs : (waits : Option OuterCall) (ended : Bool) (values : List ℕ) → needs None ended values ≤ needs waits ended values
stop-needs None ended values = omega arith
stop-needs (Some call) true values = omega arith
stop-needs (Some call) false values = let one = needs-call call false values in let least = none-needs values in omega (arith, one, least)

pub stopped-plays : (s : State) (next : Program) (trace : List Answered) (why : Outcome) → ScriptPlays s next trace → ScriptPlays (record s { given = false; stopped = Some why }) next trace
stopped-plays s next trace why plays =
    let less = stop-needs (waits_in s) s.ended s.values.items in
    record {
      program = plays.program;
      script = plays.script;
      values = plays.values;
      events = plays.events;
      over = tt;
      value_room = omega (arith, plays.value_room, less);
      event_room = omega (arith, plays.event_room, less);
    }
