-- The fold of a schedule's steps over guests that share one cache and one link. `past` has the newest entry first; the
-- link's answers stand in the order of its calls.
use Rattle.std.specs.Prelude.{◌≡◌, ◌⊎◌, ℕ, ◌+◌, ◌-◌, Bool, true, false, ◌&&◌, ◌||◌, not, nat_le, map, List, [], ◌∷◌, ◌++◌, drop, slice_set, IsTrue, Option, None, Some, is_some, if◌then◌else◌}
use Rattle.std.specs.List.{slice_index_or, list_all}
use Rattle.cache_types.specs.declared.calls.CacheCall.{CacheCall}
use Rattle.cache_types.specs.declared.calls.CacheCall.TheVariants.{End}
use Rattle.cache_types.specs.declared.entries.Entry.{Entry}
use Rattle.cache_types.specs.declared.outer.Outcome.{Outcome}
use Rattle.cache_types.specs.declared.outer.Outcome.TheVariants as outcome
use Rattle.cache_types.specs.declared.outer.OuterCall.{OuterCall}
use Rattle.cache_types.specs.declared.outer.OuterCall.TheVariants as call
use Rattle.cache_types.specs.declared.outer.OuterReply.{OuterReply}
use Rattle.cache_types.specs.declared.outer.OuterReply.TheVariants as reply
use Rattle.cache_types.specs.declared.outer.Done.{Done}
use Rattle.cache_types.specs.Entries.{newest_first, is_begin, is_not_yet}
use Rattle.cache_types.specs.Step.{entry_after, reply_after, is_full}
use Rattle.script_lines.specs.declared.step.Step.{Step}
use Rattle.player.specs.declared.turn.Turn.{Turn}
use Rattle.player.specs.declared.turn.Turn.TheVariants.{Outer, Over}
use Rattle.player.specs.Plays.{Program, Answered, due, events_of, is_end_call}
use Rattle.player.specs.May.{MayTake, may_want}
use Rattle.player.specs.Runs.{is_link, is_answer}
use Rattle.player.specs.Tickets.{held_behind, IsFresh}

-- a guest of the schedule: its program, its answered calls, its name (0 before its Begin), whether
-- its End was answered, and why it was stopped
pub record Seat : Type 0 where
  pub program : Program
  pub trace : List Answered
  pub guest : ℕ
  pub ended : Bool
  pub stopped : Option Outcome

-- the entries and a seat after a turn
pub record Moved : Type 0 where
  pub past : List Entry
  pub seat : Seat

-- these entries and this seat are those after the turn
pub record AreAfter (past : List Entry) (seat : Seat) (moved : Moved) : Type 0 where
  pub past_is : past ≡ moved.past
  pub seat_is : seat ≡ moved.seat

abbrev pub unchanged : List Entry → Seat → Moved
unchanged past seat = record { past = past; seat = seat }

-- the guest's next call, or how it ended
abbrev pub due_of : Seat → Turn
due_of seat = due seat.program seat.trace seat.ended seat.stopped

-- a guest is over behind its End, and where it was stopped
abbrev pub is_closed : Seat → Bool
is_closed seat = seat.ended || is_some seat.stopped

-- a Begin names its guest
abbrev pub named_by : ℕ → ℕ → CacheCall → ℕ
named_by guest number call = if is_begin call then number else guest

-- the seat with one more answered call
abbrev pub noted : Seat → ℕ → OuterCall → OuterReply → Seat
noted seat guest call reply = record seat { guest = guest; trace = seat.trace ++ record { call = call; reply = reply } ∷ []; ended = is_end_call (Some call) }

-- an entry as its guest sees it
abbrev pub answered_of : Entry → Answered
answered_of e = record { call = call.Cache e.call; reply = reply.Cache (record { number = e.number; reply = e.reply }) }

abbrev pub seat_with : Seat → Entry → Seat
seat_with seat e = noted seat e.guest (answered_of e).call (answered_of e).reply

-- the entry is appended, and its guest is told
abbrev pub answered : List Entry → Seat → Entry → Moved
answered past seat e = record { past = e ∷ past; seat = seat_with seat e }

abbrev pub stop_seat : Seat → Outcome → Seat
stop_seat seat ended = record seat { stopped = Some ended }

-- a guest that was stopped makes its End, where this is due
abbrev pub makes_end : List Entry → Seat → ℕ → Turn → Moved
makes_end past seat reading (Outer call) = answered past seat (entry_after past seat.guest reading End)
makes_end past seat reading (Over ended) = unchanged past seat

abbrev pub stopped : List Entry → Seat → ℕ → Outcome → Moved
stopped past seat reading ended = makes_end past (stop_seat seat ended) reading (due_of (stop_seat seat ended))

-- the clock is answered by the step's reading, a link's call by what the link says, and what is sent as sent
abbrev pub outer_reply : ℕ → OuterReply → OuterCall → OuterReply
outer_reply reading said (call.Now clock) = reply.Now reading
outer_reply reading said (call.Start address request) = said
outer_reply reading said (call.Poll ticket) = said
outer_reply reading said (call.WaitFor ticket) = said
outer_reply reading said (call.AnyOf tickets) = said
outer_reply reading said call = reply.Sent

-- one try of a cache call: NotYet changes nothing, and a full history stops the guest
abbrev pub tried_cache : ℕ → List Entry → Seat → ℕ → CacheCall → Moved
tried_cache most past seat reading call =
    if is_not_yet (reply_after past seat.guest reading call) then unchanged past seat
    else (if is_full past most call then stopped past seat reading outcome.HistoryFull
    else answered past seat (entry_after past seat.guest reading call))

abbrev pub tried : ℕ → List Entry → Seat → ℕ → OuterReply → OuterCall → Moved
tried most past seat reading said (call.Cache call) = tried_cache most past seat reading call
tried most past seat reading said call = record { past = past; seat = noted seat seat.guest call (outer_reply reading said call) }

abbrev pub taken : ℕ → ℕ → OuterReply → List Entry → Seat → Turn → Moved
taken most reading said past seat (Outer call) = tried most past seat reading said call
taken most reading said past seat (Over ended) = unchanged past seat

-- one step of a guest: one try of its next call; one that is over does nothing
abbrev pub turned : ℕ → ℕ → OuterReply → List Entry → Seat → Moved
turned most reading said past seat = if is_closed seat then unchanged past seat else taken most reading said past seat (due_of seat)

-- what the link says next
abbrev pub next_answer : List Answered → OuterReply
next_answer [] = reply.LinkFailed
next_answer (a ∷ answers) = a.reply

abbrev pub is_link_turn : Turn → Bool
is_link_turn (Outer call) = is_link call
is_link_turn (Over ended) = false

-- the guest asks the link
abbrev pub asks_link : Seat → Bool
asks_link seat = not (is_closed seat) && is_link_turn (due_of seat)

-- the answers that are left behind the guest's step
abbrev pub left_after : Seat → List Answered → List Answered
left_after seat answers = if asks_link seat then drop 1 answers else answers

-- the call of a guest that goes on is one that it may make
abbrev pub MayGo : Seat → Type 0
MayGo seat = is_closed seat ≡ false → MayTake seat.trace seat.ended seat.stopped (due_of seat)

-- the link's next answer is one to this call, of its kind, and a ticket that it gives isn't held yet
abbrev pub IsAnswerTo : List Answered → OuterCall → List Answered → Type 0
IsAnswerTo trace call [] = ⊥
IsAnswerTo trace call (a ∷ answers) = (a.call ≡ call) × IsTrue (is_answer call a.reply) × IsFresh (held_behind [] trace) a.reply

abbrev pub IsAsked : List Answered → Turn → List Answered → Type 0
IsAsked trace (Outer call) answers = is_link call ≡ true → IsAnswerTo trace call answers
IsAsked trace (Over ended) answers = Unit {0}

-- the step went the one way that it goes where memory is found
pub record Goes (most reading : ℕ) (answers left : List Answered) (past : List Entry) (seat : Seat) (after : List Entry) (moved : Seat) : Type 0 where
  pub may : MayGo seat
  pub asked : is_closed seat ≡ false → IsAsked seat.trace (due_of seat) answers
  pub left_is : left ≡ left_after seat answers
  pub is : AreAfter after moved (turned most reading (next_answer answers) past seat)

-- memory may be wanted by the guest where its kind may want it, and by cache and link at any call but End
abbrev pub MayLack : (Program → List Answered → Type 0) → Seat → Type 0
MayLack MayWant seat = MayWant seat.program seat.trace ⊎ IsTrue (may_want (due_of seat))

-- want of memory stopped a guest that went on
pub record Starves (MayWant : Program → List Answered → Type 0) (reading : ℕ) (answers left : List Answered) (past : List Entry) (seat : Seat) (after : List Entry) (moved : Seat) : Type 0 where
  pub open_is : is_closed seat ≡ false
  pub lacks : MayLack MayWant seat
  pub left_is : left ≡ answers
  pub is : AreAfter after moved (stopped past seat reading outcome.OutOfMemory)

-- what a step of a guest may lead to
abbrev pub MayTurn : (Program → List Answered → Type 0) → ℕ → ℕ → List Answered → List Answered → List Entry → Seat → List Entry → Seat → Type 0
MayTurn MayWant most reading answers left past seat after moved =
    Goes most reading answers left past seat after moved ⊎ Starves MayWant reading answers left past seat after moved

-- the entries and all guests
pub record World : Type 0 where
  pub past : List Entry
  pub seats : List Seat

abbrev pub no_seat : Seat
no_seat = record { program = λ replies. Over outcome.Unscheduled; trace = []; guest = 0; ended = false; stopped = None }

abbrev pub seat_at : List Seat → ℕ → Seat
seat_at seats place = slice_index_or seats place no_seat

-- one step of the schedule: the entries and the seat of its guest change, and no other
pub record StepGives (MayWant : Program → List Answered → Type 0) (most : ℕ) (step : Step) (answers left : List Answered) (world next : World) : Type 0 where
  pub seat : Seat
  pub turn : MayTurn MayWant most step.reading answers left world.past (seat_at world.seats (step.player - 1)) next.past seat
  pub seats : next.seats ≡ slice_set world.seats (step.player - 1) seat

-- the steps in order; they use up the link's answers
abbrev pub PlayGives : (Program → List Answered → Type 0) → ℕ → List Step → List Answered → World → World → Type 0
PlayGives MayWant most [] answers world end = (answers ≡ []) × (end ≡ world)
PlayGives MayWant most (step ∷ steps) answers world end =
    (next : World) × (left : List Answered) × StepGives MayWant most step answers left world next × PlayGives MayWant most steps left next end

-- before the first step
abbrev pub new_seat : Program → Seat
new_seat program = record { program = program; trace = []; guest = 0; ended = false; stopped = None }

abbrev pub start_of : List Program → World
start_of programs = record { past = []; seats = map new_seat programs }

-- after the last step each guest that isn't over is stopped as unscheduled, in order, at reading 0
abbrev pub closed_turn : List Entry → Seat → Moved
closed_turn past seat = if is_closed seat then unchanged past seat else stopped past seat 0 outcome.Unscheduled

-- the seats that are closed, and those that are left
abbrev pub closed : List Entry → List Seat → List Seat → World
closed past over [] = record { past = past; seats = over }
closed past over (seat ∷ seats) = closed (closed_turn past seat).past (over ++ (closed_turn past seat).seat ∷ []) seats

abbrev pub outcome_in : Turn → Outcome
outcome_in (Over ended) = ended
outcome_in (Outer call) = outcome.Unscheduled

-- the block of a guest that is over
abbrev pub block_of : ℕ → Seat → Done
block_of index seat = record { index = index; guest = seat.guest; trace = events_of seat.trace; outcome = outcome_in (due_of seat) }

-- the blocks with indexes from this one on
abbrev pub blocks_from : ℕ → List Seat → List Done
blocks_from index [] = []
blocks_from index (seat ∷ seats) = block_of index seat ∷ blocks_from (index + 1) seats

-- a history and blocks that the schedule may lead to, where the link gives these answers
pub record IsPlayed (MayWant : Program → List Answered → Type 0) (most : ℕ) (programs : List Program) (steps : List Step) (answers : List Answered) (history : List Entry) (blocks : List Done) : Type 0 where
  pub last : World
  pub steps_give : PlayGives MayWant most steps answers (start_of programs) last
  pub history_is : newest_first history ≡ (closed last.past [] last.seats).past
  pub blocks_are : blocks ≡ blocks_from 1 (closed last.past [] last.seats).seats

-- each step is of one of so many guests
abbrev pub is_step_of : ℕ → Step → Bool
is_step_of count step = nat_le 1 step.player && nat_le step.player count

abbrev pub are_steps_of : ℕ → List Step → Bool
are_steps_of count steps = list_all (is_step_of count) steps
