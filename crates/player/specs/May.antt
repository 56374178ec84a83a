-- What a player may ask, and when it may be stopped.
use Rattle.std.specs.Prelude.{◌≡◌, ℕ, Bool, true, false, ◌&&◌, ◌||◌, not, List, [], ◌∷◌, length, Option, None, Some, is_some, IsTrue}
use Rattle.std.specs.List.{list_all}
use Rattle.cache_types.specs.Entries.{is_begin}
use Rattle.cache_types.specs.Limits.{is_from_to, is_within_limits}
use Rattle.cache_types.specs.declared.outer.OuterCall.{OuterCall}
use Rattle.cache_types.specs.declared.outer.OuterCall.TheVariants as call
use Rattle.cache_types.specs.declared.outer.Outcome.{Outcome}
use Rattle.cache_types.specs.declared.outer.Outcome.TheVariants.{OutOfMemory}
use Rattle.player.specs.declared.turn.Turn.{Turn}
use Rattle.player.specs.declared.turn.Turn.TheVariants.{Outer, Over}
use Rattle.cache_types.specs.declared.outer.OuterReply.{OuterReply}
use Rattle.player.specs.Plays.{Answered, is_end_call}
use Rattle.player.specs.Runs.{is_answer}
use Rattle.player.specs.Tickets.{holds}

abbrev pub is_empty : List Answered → Bool
is_empty [] = true
is_empty (begin ∷ trace) = false

-- the bytes 21 to 7E alone
abbrev pub is_address : List ℕ → Bool
is_address address = list_all (is_from_to 33 126) address

-- from 1 to 100 tickets, each of which is held
abbrev pub is_choice : List Answered → List ℕ → Bool
is_choice trace tickets = is_from_to 1 100 (length tickets) && list_all (holds trace) tickets

-- what a call asks of the calls before it, but for Begin, which comes first and only there
abbrev pub MayAsk : List Answered → OuterCall → Type 0
MayAsk trace (call.Cache c) = (is_begin c ≡ is_empty trace) × IsTrue (is_within_limits c)
MayAsk trace (call.Start address request) = (is_empty trace ≡ false) × IsTrue (is_address address)
MayAsk trace (call.Poll ticket) = (is_empty trace ≡ false) × IsTrue (holds trace ticket)
MayAsk trace (call.WaitFor ticket) = (is_empty trace ≡ false) × IsTrue (holds trace ticket)
MayAsk trace (call.AnyOf tickets) = (is_empty trace ≡ false) × IsTrue (is_choice trace tickets)
MayAsk trace call = is_empty trace ≡ false

-- behind its End a player is over, and else only where it was stopped
abbrev pub MayTake : List Answered → Bool → Option Outcome → Turn → Type 0
MayTake trace ended stopped (Outer call) = (ended ≡ false) × MayAsk trace call
MayTake trace ended stopped (Over outcome) = IsTrue (ended || is_some stopped)

-- a turn at which memory may be wanted: each call but End
abbrev pub may_want : Turn → Bool
may_want (Outer call) = not (is_end_call (Some call))
may_want (Over outcome) = false

-- the call that waits has an answer of its kind
abbrev pub MayAnswer : Option OuterCall → OuterReply → Type 0
MayAnswer None reply = ⊥
MayAnswer (Some call) reply = IsTrue (is_answer call reply)

-- want of memory may stop a guest that wasn't stopped and hasn't made its End, where it may want memory
abbrev pub IsStopAfter : Type 0 → Bool → Option Outcome → Option Outcome → Type 0
IsStopAfter Wants ended (Some outcome) now = now ≡ Some outcome
IsStopAfter Wants ended None None = Unit {0}
IsStopAfter Wants ended None (Some outcome) = Wants × (ended ≡ false) × (outcome ≡ OutOfMemory)
