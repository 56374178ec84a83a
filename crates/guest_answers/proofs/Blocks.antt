-- The answer of a block, by the calls that were answered.
use Rattle.std.proofs.Common.{◌≡◌, ℕ, Bool, true, false, ◌||◌, true≢false, List, [], ◌∷◌, ◌++◌, not, if◌then◌else◌, refl, sym, ap, ◌∙◌}
use Rattle.std.specs.List.{list_any}
use Rattle.std.proofs.lemmas.Bool.{and_parts}
use Rattle.cache_types.specs.declared.calls.CacheCall.{CacheCall}
use Rattle.cache_types.specs.declared.outer.Done.{Done}
use Rattle.cache_types.specs.declared.outer.Event.{Event}
use Rattle.cache_types.specs.declared.outer.Event.TheVariants as event
use Rattle.cache_types.specs.declared.outer.OuterCall.{OuterCall}
use Rattle.cache_types.specs.declared.outer.OuterCall.TheVariants as call
use Rattle.cache_types.specs.declared.outer.OuterReply.{OuterReply}
use Rattle.cache_types.specs.declared.outer.OuterReply.TheVariants as reply
use Rattle.http_front.specs.Frames.{framing_of}
use Rattle.player.specs.Plays.{Answered, events_of, event_with}
use Rattle.player.specs.Runs.{is_answer, are_answers}
use Rattle.guest_answers.specs.declared.answer.Answer.{Answer}
use Rattle.guest_answers.specs.declared.answer.Answer.TheVariants.{Headless, Headed, Closed}
use Rattle.guest_answers.specs.Wire.{after_call, frame, answer_from, answer_behind, frames_from, frames, is_headless, failure, sent, joined}
use Rattle.guest_answers.specs.Blocks.{event_frame, after_event, behind_events, bytes_of, unanswered, answer_of, is_head}

-- a call on the cache sends nothing
cache_after : (method : List ℕ) (answer : Answer) (c : CacheCall) → after_call method answer (call.Cache c) ≡ answer
cache_after method Headless c = refl
cache_after method (Headed framing) c = refl
cache_after method Closed c = refl

cache_frame : (answer : Answer) (c : CacheCall) → frame answer (call.Cache c) ≡ []
cache_frame Headless c = refl
cache_frame (Headed framing) c = refl
cache_frame Closed c = refl

-- an answered call and its event
after_one : (method : List ℕ) (answer : Answer) (c : OuterCall) (r : OuterReply) → is_answer c r ≡ true → after_event method answer (event_with c r) ≡ after_call method answer c
after_one method answer (call.Cache d) (reply.Cache stepped) is = sym (cache_after method answer d)
after_one method answer (call.Cache d) r is = cc is
after_one method answer c (reply.Cache stepped) is = cc is
after_one method answer c r is = refl

frame_one : (answer : Answer) (c : OuterCall) (r : OuterReply) → is_answer c r ≡ true → event_frame answer (event_with c r) ≡ frame answer c
frame_one answer (call.Cache d) (reply.Cache stepped) is = sym (cache_frame answer d)
frame_one answer (call.Cache d) r is = cc is
frame_one answer c (reply.Cache stepped) is = cc is
frame_one answer c r is = refl

-- answered calls and their events
after_all : (method : List ℕ) (answer : Answer) (trace : List Answered) → are_answers trace ≡ true → behind_events method answer (events_of trace) ≡ answer_from method answer trace
after_all method answer [] are = refl
after_all method answer (a ∷ trace) are =
    let parts = and_parts (is_answer a.call a.reply) (are_answers trace) are in
    ap (λ x. behind_events method x (events_of trace)) (after_one method answer a.call a.reply parts.0) ∙ after_all method (after_call method answer a.call) trace parts.1

bytes_all : (method : List ℕ) (answer : Answer) (trace : List Answered) → are_answers trace ≡ true → bytes_of method answer (events_of trace) ≡ joined (frames_from method answer trace)
bytes_all method answer [] are = refl
bytes_all method answer (a ∷ trace) are =
    let parts = and_parts (is_answer a.call a.reply) (are_answers trace) are in
    ap (λ l. l ++ bytes_of method (after_event method answer (event_with a.call a.reply)) (events_of trace)) (frame_one answer a.call a.reply parts.0)
    ∙ (ap (λ x. frame answer a.call ++ bytes_of method x (events_of trace)) (after_one method answer a.call a.reply parts.0)
    ∙ ap (λ l. frame answer a.call ++ l) (bytes_all method (after_call method answer a.call) trace parts.1))

headless_of : (method : List ℕ) (trace : List Answered) (done : Done) → are_answers trace ≡ true → done.trace ≡ events_of trace → is_headless (behind_events method Headless done.trace) ≡ is_headless (answer_behind method trace)
headless_of method trace done are is = ap (λ l. is_headless (behind_events method Headless l)) is ∙ ap is_headless (after_all method Headless trace are)

pub answer_sent : (method : List ℕ) (trace : List Answered) (done : Done) → are_answers trace ≡ true → done.trace ≡ events_of trace → is_headless (answer_behind method trace) ≡ false → answer_of method done ≡ joined (sent method trace)
answer_sent method trace done are is headed =
    ap (λ (b : Bool). if b then unanswered done.outcome else bytes_of method Headless done.trace) (headless_of method trace done are is ∙ headed)
    ∙ (ap (bytes_of method Headless) is ∙ (bytes_all method Headless trace are
    ∙ sym (ap (λ (b : Bool). joined (if b then failure ∷ [] else frames method trace)) headed)))

pub answer_failed : (method : List ℕ) (trace : List Answered) (done : Done) → are_answers trace ≡ true → done.trace ≡ events_of trace → is_headless (answer_behind method trace) ≡ true → answer_of method done ≡ unanswered done.outcome
answer_failed method trace done are is headless =
    ap (λ (b : Bool). if b then unanswered done.outcome else bytes_of method Headless done.trace) (headless_of method trace done are is ∙ headless)

-- events before the head
quiet_one : (method : List ℕ) (e : Event) → is_head e ≡ false → (after_event method Headless e ≡ Headless) × (event_frame Headless e ≡ [])
quiet_one method (event.Entry number) is = (refl, refl)
quiet_one method (event.Outer (call.Head bytes) reply) is = absurd (true≢false is)
quiet_one method (event.Outer c reply) is = (refl, refl)

tests : (e : Event) (events : List Event) → not (list_any is_head (e ∷ events)) ≡ true → (is_head e ≡ false) × (not (list_any is_head events) ≡ true)
tests e events none = by (is_head e) refl none
  where
    by : (b : Bool) → is_head e ≡ b → not (b || list_any is_head events) ≡ true → (is_head e ≡ false) × (not (list_any is_head events) ≡ true)
    by true is none = absurd (true≢false (sym none))
    by false is none = (is, none)

quiet_bytes : (method : List ℕ) (before behind : List Event) → not (list_any is_head before) ≡ true → bytes_of method Headless (before ++ behind) ≡ bytes_of method Headless behind
quiet_bytes method [] behind none = refl
quiet_bytes method (e ∷ before) behind none =
    let parts = tests e before none in
    let quiet = quiet_one method e parts.0 in
    ap (λ l. l ++ bytes_of method (after_event method Headless e) (before ++ behind)) quiet.1
    ∙ (ap (λ x. bytes_of method x (before ++ behind)) quiet.0 ∙ quiet_bytes method before behind parts.1)

quiet_after : (method : List ℕ) (before behind : List Event) → not (list_any is_head before) ≡ true → behind_events method Headless (before ++ behind) ≡ behind_events method Headless behind
quiet_after method [] behind none = refl
quiet_after method (e ∷ before) behind none =
    let parts = tests e before none in
    ap (λ x. behind_events method x (before ++ behind)) (quiet_one method e parts.0).0 ∙ quiet_after method before behind parts.1

-- behind a head there is one
headed_one : (method : List ℕ) (answer : Answer) (e : Event) → is_headless answer ≡ false → is_headless (after_event method answer e) ≡ false
headed_one method answer (event.Entry number) is = is
headed_one method Headless (event.Outer c reply) is = absurd (true≢false is)
headed_one method (Headed framing) (event.Outer (call.Close whole) reply) is = refl
headed_one method (Headed framing) (event.Outer c reply) is = refl
headed_one method Closed (event.Outer c reply) is = refl

headed_all : (method : List ℕ) (answer : Answer) (events : List Event) → is_headless answer ≡ false → is_headless (behind_events method answer events) ≡ false
headed_all method answer [] is = is
headed_all method answer (e ∷ events) is = headed_all method (after_event method answer e) events (headed_one method answer e is)

pub answer_begins : (method head : List ℕ) (before behind : List Event) (r : OuterReply) (done : Done) → not (list_any is_head before) ≡ true → done.trace ≡ before ++ event.Outer (call.Head head) r ∷ behind
    → answer_of method done ≡ head ++ bytes_of method (Headed (framing_of method head)) behind
answer_begins method head before behind r done none is =
    let all = event.Outer (call.Head head) r ∷ behind in
    let headed = ap (λ l. is_headless (behind_events method Headless l)) is ∙ (ap is_headless (quiet_after method before all none) ∙ headed_all method (Headed (framing_of method head)) behind refl) in
    ap (λ (b : Bool). if b then unanswered done.outcome else bytes_of method Headless done.trace) headed
    ∙ (ap (bytes_of method Headless) is ∙ quiet_bytes method before all none)
