-- A guest's answer, from its block in a journal.
use Rattle.std.specs.Prelude.{ℕ, Bool, true, false, List, [], ◌∷◌, ◌++◌, if◌then◌else◌}
use Rattle.cache_types.specs.declared.outer.Event.{Event}
use Rattle.cache_types.specs.declared.outer.Event.TheVariants as event
use Rattle.cache_types.specs.declared.outer.OuterCall.{OuterCall}
use Rattle.cache_types.specs.declared.outer.OuterCall.TheVariants as call
use Rattle.cache_types.specs.declared.outer.Outcome.{Outcome}
use Rattle.cache_types.specs.declared.outer.Outcome.TheVariants as outcome
use Rattle.cache_types.specs.declared.outer.Done.{Done}
use Rattle.guest_answers.specs.declared.answer.Answer.{Answer}
use Rattle.guest_answers.specs.declared.answer.Answer.TheVariants.{Headless}
use Rattle.guest_answers.specs.Wire.{after_call, frame, is_headless, failure}

-- an entry of the cache sends nothing
abbrev pub event_frame : Answer → Event → List ℕ
event_frame answer (event.Entry number) = []
event_frame answer (event.Outer call reply) = frame answer call

abbrev pub after_event : List ℕ → Answer → Event → Answer
after_event method answer (event.Entry number) = answer
after_event method answer (event.Outer call reply) = after_call method answer call

-- how far the answer has come behind these events
abbrev pub behind_events : List ℕ → Answer → List Event → Answer
behind_events method answer [] = answer
behind_events method answer (e ∷ events) = behind_events method (after_event method answer e) events

-- the bytes of these events
abbrev pub bytes_of : List ℕ → Answer → List Event → List ℕ
bytes_of method answer [] = []
bytes_of method answer (e ∷ events) = event_frame answer e ++ bytes_of method (after_event method answer e) events

-- what stands for the answer of a guest that sent no head: a failure, or nothing where nobody was there to read it
abbrev pub unanswered : Outcome → List ℕ
unanswered outcome.ClientGone = []
unanswered why = failure

-- the answer of the guest of this block to a request of this method
abbrev pub answer_of : List ℕ → Done → List ℕ
answer_of method done = if is_headless (behind_events method Headless done.trace) then unanswered done.outcome else bytes_of method Headless done.trace

-- the event is the head of an answer
abbrev pub is_head : Event → Bool
is_head (event.Outer (call.Head bytes) reply) = true
is_head e = false
