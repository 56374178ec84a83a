-- Reading the lines of a guest's block on lists.
use Rattle.std.specs.Prelude.{ℕ, Bool, true, false, List, [], ◌∷◌, codes, Option, None, Some}
use Rattle.cache_types.specs.declared.outer.OuterCall.{OuterCall}
use Rattle.cache_types.specs.declared.outer.OuterCall.TheVariants as outer
use Rattle.cache_types.specs.declared.outer.OuterReply.{OuterReply}
use Rattle.cache_types.specs.declared.outer.OuterReply.TheVariants as told
use Rattle.cache_types.specs.declared.outer.TrapNumber.{TrapNumber}
use Rattle.cache_types.specs.declared.outer.TrapNumber.TheVariants as trap
use Rattle.cache_types.specs.declared.outer.Outcome.{Outcome}
use Rattle.cache_types.specs.declared.outer.Outcome.TheVariants as outcome
use Rattle.cache_types.specs.declared.outer.Event.{Event}
use Rattle.cache_types.specs.declared.outer.Event.TheVariants as event
use Rattle.edge_words.specs.Reading.{one, both, whole, number_in, number_from_to, hex_in, listed_in}
use Rattle.journal_reader.specs.Replies.{bytes_said}
use Rattle.edge_words.specs.Choices.{Row, in_row, by_name, alone, made, first_then, exactly, number_or}

-- numbers of 32 bits
abbrev pub small_in : List ℕ → Option ℕ
small_in = number_from_to 0 4294967295

abbrev pub small_said : List (List ℕ) → Option ℕ
small_said = whole (one small_in)

abbrev pub number_said : List (List ℕ) → Option ℕ
number_said = whole (one number_in)

abbrev pub numbers_said : List (List ℕ) → Option (ℕ × ℕ)
numbers_said = whole (both (one number_in) (one number_in))

abbrev pub two_said : List (List ℕ) → Option (List ℕ × List ℕ)
two_said = whole (both (one hex_in) (one hex_in))

-- ---- replies

-- the sign before a reply
abbrev pub sign : List (List ℕ) → Option (Unit {0} × List (List ℕ))
sign = one (exactly (codes "="))

-- what is said after the sign
abbrev pub after_sign : {X : Type 0} → (List (List ℕ) → Option X) → List (List ℕ) → Option (Unit {0} × X)
after_sign read = first_then sign read

abbrev pub ready_row : Row OuterReply
ready_row = (codes "ready", made told.Ready bytes_said)

abbrev pub failed_row : Row OuterReply
failed_row = (codes "failed", alone told.LinkFailed)

-- to a poll, and to a wait
abbrev pub polled_rows : List (Row OuterReply)
polled_rows = (codes "wait", alone told.NotReady) ∷ (ready_row ∷ (failed_row ∷ []))

abbrev pub waited_rows : List (Row OuterReply)
waited_rows = ready_row ∷ (failed_row ∷ [])

abbrev pub started_in : List (List ℕ) → Option (Option ℕ)
started_in = whole (one (number_or (codes "failed")))

abbrev pub started_of : Option ℕ → OuterReply
started_of None = told.LinkFailed
started_of (Some ticket) = told.Started ticket

-- ---- events

abbrev pub now_said : List (List ℕ) → Option (ℕ × ℕ)
now_said = whole (both (one small_in) (one number_in))

abbrev pub now_of : ℕ × ℕ → Event
now_of said = event.Outer (outer.Now said.0) (told.Now said.1)

abbrev pub start_said : List (List ℕ) → Option ((List ℕ × List ℕ) × (Unit {0} × Option ℕ))
start_said = first_then (both (one hex_in) (one hex_in)) (after_sign started_in)

abbrev pub start_of : (List ℕ × List ℕ) × (Unit {0} × Option ℕ) → Event
start_of said = event.Outer (outer.Start said.0.0 said.0.1) (started_of said.1.1)

abbrev pub poll_said : List (List ℕ) → Option (ℕ × (Unit {0} × OuterReply))
poll_said = first_then (one number_in) (after_sign (by_name polled_rows))

abbrev pub poll_of : ℕ × (Unit {0} × OuterReply) → Event
poll_of said = event.Outer (outer.Poll said.0) said.1.1

abbrev pub wait_said : List (List ℕ) → Option (ℕ × (Unit {0} × OuterReply))
wait_said = first_then (one number_in) (after_sign (by_name waited_rows))

abbrev pub wait_of : ℕ × (Unit {0} × OuterReply) → Event
wait_of said = event.Outer (outer.WaitFor said.0) said.1.1

abbrev pub any_said : List (List ℕ) → Option (List ℕ × (Unit {0} × ℕ))
any_said = first_then (one (listed_in number_in)) (after_sign small_said)

abbrev pub any_of : List ℕ × (Unit {0} × ℕ) → Event
any_of said = event.Outer (outer.AnyOf said.0) (told.Index said.1.1)

-- an event with no reply
abbrev pub sent : OuterCall → Event
sent call = event.Outer call told.Sent

abbrev pub head_of : List ℕ → Event
head_of bytes = sent (outer.Head bytes)

abbrev pub piece_of : List ℕ → Event
piece_of bytes = sent (outer.Piece bytes)

abbrev pub closed : Bool → Event
closed whole = sent (outer.Close whole)

abbrev pub close_rows : List (Row Bool)
close_rows = (codes "whole", alone true) ∷ ((codes "cut", alone false) ∷ [])

abbrev pub log_of : List ℕ × List ℕ → Event
log_of said = sent (outer.Log said.0 said.1)

-- each event by its first word
abbrev pub event_rows : List (Row Event)
event_rows =
    (codes "c", made event.Entry number_said)
    ∷ ((codes "now", made now_of now_said)
    ∷ ((codes "start", made start_of start_said)
    ∷ ((codes "poll", made poll_of poll_said)
    ∷ ((codes "wait", made wait_of wait_said)
    ∷ ((codes "any", made any_of any_said)
    ∷ ((codes "head", made head_of bytes_said)
    ∷ ((codes "piece", made piece_of bytes_said)
    ∷ ((codes "close", made closed (by_name close_rows))
    ∷ ((codes "log", made log_of two_said)
    ∷ [])))))))))

unfoldable pub event_in : List ℕ → List (List ℕ) → Option Event
event_in = in_row event_rows

-- ---- outcomes

abbrev pub trap_rows : List (Row TrapNumber)
trap_rows =
    (codes "unreachable", alone trap.Unreachable)
    ∷ ((codes "divide", alone trap.DivideByZero)
    ∷ ((codes "overflow", alone trap.Overflow)
    ∷ ((codes "bounds", alone trap.OutOfBounds)
    ∷ ((codes "table", alone trap.TableBounds)
    ∷ ((codes "null", alone trap.NullElement)
    ∷ ((codes "indirect", alone trap.IndirectType)
    ∷ ((codes "stack", alone trap.StackFull)
    ∷ ((codes "segment", alone trap.Segment)
    ∷ []))))))))

unfoldable pub trap_in : List (List ℕ) → Option TrapNumber
trap_in = by_name trap_rows

abbrev pub trapped_of : TrapNumber → Outcome
trapped_of number = outcome.Trapped number

abbrev pub timeout_of : ℕ × ℕ → Outcome
timeout_of said = outcome.Timeout said.0 said.1

abbrev pub outcome_rows : List (Row Outcome)
outcome_rows =
    (codes "returned", alone outcome.Returned)
    ∷ ((codes "exited", made outcome.Exited small_said)
    ∷ ((codes "trapped", made trapped_of trap_in)
    ∷ ((codes "fuel", alone outcome.OutOfFuel)
    ∷ ((codes "timeout", made timeout_of numbers_said)
    ∷ ((codes "full", alone outcome.HistoryFull)
    ∷ ((codes "gone", alone outcome.ClientGone)
    ∷ ((codes "unscheduled", alone outcome.Unscheduled)
    ∷ ((codes "memory", alone outcome.OutOfMemory)
    ∷ []))))))))

unfoldable pub outcome_in : List (List ℕ) → Option Outcome
outcome_in = by_name outcome_rows
