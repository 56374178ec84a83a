-- What a guest does, as a function of the replies given to it.
use Rattle.std.specs.Prelude.{Bool, true, false, List, [], ◌∷◌, ◌++◌, map, Option, None, Some, if◌then◌else◌}
use Rattle.cache_types.specs.declared.calls.CacheCall.TheVariants.{End}
use Rattle.cache_types.specs.Entries.{is_end}
use Rattle.cache_types.specs.declared.outer.Event.{Event}
use Rattle.cache_types.specs.declared.outer.Event.TheVariants as event
use Rattle.cache_types.specs.declared.outer.OuterCall.{OuterCall}
use Rattle.cache_types.specs.declared.outer.OuterCall.TheVariants as call
use Rattle.cache_types.specs.declared.outer.OuterReply.{OuterReply}
use Rattle.cache_types.specs.declared.outer.OuterReply.TheVariants as reply
use Rattle.cache_types.specs.declared.outer.Outcome.{Outcome}
use Rattle.player.specs.declared.turn.Turn.{Turn}
use Rattle.player.specs.declared.turn.Turn.TheVariants.{Outer, Over}

-- what a guest does next, given the replies to its calls so far
abbrev pub Program : Type 0
Program = List OuterReply → Turn

-- a call that was answered
pub record Answered : Type 0 where
  pub call : OuterCall
  pub reply : OuterReply

abbrev pub replies_of : List Answered → List OuterReply
replies_of trace = map (λ (a : Answered). a.reply) trace

-- a cache call stands in a trace by the number of its entry
abbrev pub event_with : OuterCall → OuterReply → Event
event_with call (reply.Cache stepped) = event.Entry stepped.number
event_with call reply = event.Outer call reply

abbrev pub events_of : List Answered → List Event
events_of trace = map (λ (a : Answered). event_with a.call a.reply) trace

-- what a stopped guest is to do next: its End, where it began and hasn't made it
abbrev pub stopped_due : List Answered → Bool → Outcome → Turn
stopped_due [] ended outcome = Over outcome
stopped_due (begin ∷ trace) ended outcome = if ended then Over outcome else Outer (call.Cache End)

-- what a guest is to do next: what its program does, until it is stopped
abbrev pub due : Program → List Answered → Bool → Option Outcome → Turn
due next trace ended None = next (replies_of trace)
due next trace ended (Some outcome) = stopped_due trace ended outcome

abbrev pub call_in : Turn → Option OuterCall
call_in (Outer call) = Some call
call_in (Over outcome) = None

abbrev pub is_over : Turn → Bool
is_over (Outer call) = false
is_over (Over outcome) = true

-- the trace with the call that waited and its reply
abbrev pub with_reply : List Answered → Option OuterCall → OuterReply → List Answered
with_reply trace None reply = trace
with_reply trace (Some call) reply = trace ++ record { call = call; reply = reply } ∷ []

abbrev pub is_end_call : Option OuterCall → Bool
is_end_call (Some (call.Cache c)) = is_end c
is_end_call _ = false
