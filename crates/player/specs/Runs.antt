-- Which answered calls are a run of a program.
use Rattle.std.specs.Prelude.{◌≡◌, ◌⊎◌, Bool, true, false, nat_lt, List, [], ◌∷◌, ◌++◌, length}
use Rattle.std.specs.List.{list_all}
use Rattle.cache_types.specs.declared.calls.CacheCall.TheVariants.{End}
use Rattle.cache_types.specs.declared.outer.OuterCall.{OuterCall}
use Rattle.cache_types.specs.declared.outer.OuterCall.TheVariants as call
use Rattle.cache_types.specs.declared.outer.OuterReply.{OuterReply}
use Rattle.cache_types.specs.declared.outer.OuterReply.TheVariants as reply
use Rattle.cache_types.specs.declared.outer.Outcome.{Outcome}
use Rattle.player.specs.declared.turn.Turn.TheVariants.{Outer, Over}
use Rattle.player.specs.Plays.{Program, Answered, replies_of}

-- the rest of a program behind its first reply
abbrev pub behind_one : Program → OuterReply → Program
behind_one next reply = λ replies. next (reply ∷ replies)

-- each call is the next one of the program after the replies before it
abbrev pub Follows : Program → List Answered → Type 0
Follows next [] = Unit {0}
Follows next (a ∷ trace) = (next [] ≡ Outer a.call) × Follows (behind_one next a.reply) trace

-- the trace is empty, or an End stands behind calls that follow the program
abbrev pub IsCut : Program → List Answered → Type 0
IsCut next trace = (trace ≡ []) ⊎ ((before : List Answered) × (reply : OuterReply) × (trace ≡ before ++ record { call = call.Cache End; reply = reply } ∷ []) × Follows next before)

-- a whole run of the program, or one that was cut by a stop of these kinds
abbrev pub IsRun : (Outcome → Type 0) → Program → List Answered → Outcome → Type 0
IsRun IsStop next trace ended = (Follows next trace × (next (replies_of trace) ≡ Over ended)) ⊎ (IsStop ended × IsCut next trace)

-- a call that a link answers
abbrev pub is_link : OuterCall → Bool
is_link (call.Start address request) = true
is_link (call.Poll ticket) = true
is_link (call.WaitFor ticket) = true
is_link (call.AnyOf tickets) = true
is_link call = false

-- the reply is one of the call's kind, and an index is that of one of its tickets
abbrev pub is_answer : OuterCall → OuterReply → Bool
is_answer (call.Cache c) (reply.Cache stepped) = true
is_answer (call.Now clock) (reply.Now reading) = true
is_answer (call.Start address request) (reply.Started ticket) = true
is_answer (call.Start address request) reply.LinkFailed = true
is_answer (call.Poll ticket) reply.NotReady = true
is_answer (call.Poll ticket) (reply.Ready bytes) = true
is_answer (call.Poll ticket) reply.LinkFailed = true
is_answer (call.WaitFor ticket) (reply.Ready bytes) = true
is_answer (call.WaitFor ticket) reply.LinkFailed = true
is_answer (call.AnyOf tickets) (reply.Index index) = nat_lt index (length tickets)
is_answer (call.Head bytes) reply.Sent = true
is_answer (call.Piece bytes) reply.Sent = true
is_answer (call.Close whole) reply.Sent = true
is_answer (call.Log endpoint line) reply.Sent = true
is_answer call reply = false

-- each call has an answer of its kind
abbrev pub are_answers : List Answered → Bool
are_answers trace = list_all (λ (a : Answered). is_answer a.call a.reply) trace
