-- What a reply, or the stop in its place, changes.
use Rattle.std.specs.Prelude.{ℕ, Bool, not, ◌||◌, List, Option, Some, Result, Ok, Err}
use Rattle.cache_types.specs.declared.outer.OuterCall.{OuterCall}
use Rattle.cache_types.specs.declared.outer.OuterReply.{OuterReply}
use Rattle.cache_types.specs.declared.outer.Outcome.{Outcome}
use Rattle.player.specs.Plays.{Answered, with_reply, is_end_call}
use Rattle.guest_answers.specs.declared.answer.Answer.{Answer}
use Rattle.guest_answers.specs.Wire.{after_call, is_headless}
use Rattle.edge_work.specs.Outside.{is_gone}

abbrev pub answer_by : List ℕ → Answer → OuterCall → Result OuterReply Outcome → Answer
answer_by method answer c (Ok r) = after_call method answer c
answer_by method answer c (Err why) = answer

abbrev pub gone_by : Bool → Result OuterReply Outcome → Bool
gone_by gone (Ok r) = gone
gone_by gone (Err why) = is_gone (Some why)

abbrev pub trace_by : List Answered → Option OuterCall → Result OuterReply Outcome → List Answered
trace_by trace waits (Ok r) = with_reply trace waits r
trace_by trace waits (Err why) = trace

abbrev pub stopped_by : Option Outcome → Result OuterReply Outcome → Option Outcome
stopped_by stopped (Ok r) = stopped
stopped_by stopped (Err why) = Some why

abbrev pub ended_by : Bool → Option OuterCall → Result OuterReply Outcome → Bool
ended_by ended waits (Ok r) = is_end_call waits
ended_by ended waits (Err why) = ended

-- the head was sent, or the client is gone
abbrev pub is_done : Answer → Bool → Bool
is_done answer gone = not (is_headless answer) || gone
