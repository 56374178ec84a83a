-- No turn changes a guest's program.
use Rattle.std.specs.Prelude.{◌≡◌, ℕ, Bool, true, false, List, [], ◌∷◌, slice_set, refl, if◌then◌else◌}
use Rattle.std.proofs.Common.{ap, ◌∙◌, inl, inr, zero, suc}
use Rattle.cache_types.specs.declared.calls.CacheCall.{CacheCall}
use Rattle.cache_types.specs.declared.entries.Entry.{Entry}
use Rattle.cache_types.specs.declared.outer.Outcome.{Outcome}
use Rattle.cache_types.specs.declared.outer.Outcome.TheVariants as outcome
use Rattle.cache_types.specs.declared.outer.OuterCall.{OuterCall}
use Rattle.cache_types.specs.declared.outer.OuterCall.TheVariants as outer
use Rattle.cache_types.specs.Entries.{is_not_yet}
use Rattle.cache_types.specs.Step.{entry_after, reply_after, is_full}
use Rattle.player.specs.declared.turn.Turn.{Turn}
use Rattle.player.specs.declared.turn.Turn.TheVariants.{Outer, Over}
use Rattle.cache_types.specs.declared.outer.OuterReply.{OuterReply}
use Rattle.player.specs.Plays.{Program, Answered}
use Rattle.schedule_play.specs.Schedule.{Seat, Moved, seat_at, unchanged, answered, stop_seat, makes_end, stopped, tried, tried_cache, taken, turned, due_of, is_closed, closed_turn, next_answer, MayTurn}
use Rattle.schedule_play.specs.Ready.{programs_of}

-- the program of a turn's seat
abbrev pub program_in : Moved → Program
program_in moved = moved.seat.program

pub stopped-program : (past : List Entry) (seat : Seat) (reading : ℕ) (why : Outcome) → program_in (stopped past seat reading why) ≡ seat.program
stopped-program past seat reading why =
    let with : (due : Turn) → program_in (makes_end past (stop_seat seat why) reading due) ≡ seat.program = elim [ Outer call ↦ refl | Over how ↦ refl ] in with (due_of (stop_seat seat why))

cache-program : (most : ℕ) (past : List Entry) (seat : Seat) (reading : ℕ) (call : CacheCall) → program_in (tried_cache most past seat reading call) ≡ seat.program
cache-program most past seat reading call =
    let full : (b : Bool) → program_in (if b then stopped past seat reading outcome.HistoryFull else answered past seat (entry_after past seat.guest reading call)) ≡ seat.program =
    elim [ true ↦ stopped-program past seat reading outcome.HistoryFull | false ↦ refl ]
    in
    let with : (b : Bool) → program_in (if b then unchanged past seat else (if is_full past most call then stopped past seat reading outcome.HistoryFull else answered past seat (entry_after past seat.guest reading call))) ≡ seat.program =
    elim [ true ↦ refl | false ↦ full (is_full past most call) ]
    in with (is_not_yet (reply_after past seat.guest reading call))

tried-program : (most : ℕ) (past : List Entry) (seat : Seat) (reading : ℕ) (said : OuterReply) (call : OuterCall) → program_in (tried most past seat reading said call) ≡ seat.program
tried-program most past seat reading said (outer.Cache call) = cache-program most past seat reading call
tried-program most past seat reading said _ = refl

pub turned-program : (most reading : ℕ) (said : OuterReply) (past : List Entry) (seat : Seat) → program_in (turned most reading said past seat) ≡ seat.program
turned-program most reading said past seat =
    let asks : (due : Turn) → program_in (taken most reading said past seat due) ≡ seat.program =
    elim [ Over how ↦ refl | Outer call ↦ tried-program most past seat reading said call ]
    in
    let with : (b : Bool) → program_in (if b then unchanged past seat else taken most reading said past seat (due_of seat)) ≡ seat.program =
    elim [ true ↦ refl | false ↦ asks (due_of seat) ]
    in with (is_closed seat)

pub may_turn-program : (MayWant : Program → List Answered → Type 0) (most reading : ℕ) (answers left : List Answered) (past after : List Entry) (seat moved : Seat) → MayTurn MayWant most reading answers left past seat after moved → moved.program ≡ seat.program
may_turn-program MayWant most reading answers left past after seat moved turn =
    elim turn [
      | inl went ↦ ap (λ (s : Seat). s.program) went.is.seat_is ∙ turned-program most reading (next_answer answers) past seat
      | inr short ↦ ap (λ (s : Seat). s.program) short.is.seat_is ∙ stopped-program past seat reading outcome.OutOfMemory
    ]

pub closed-program : (past : List Entry) (seat : Seat) → program_in (closed_turn past seat) ≡ seat.program
closed-program past seat =
    let with : (b : Bool) → program_in (if b then unchanged past seat else stopped past seat 0 outcome.Unscheduled) ≡ seat.program =
    elim [ true ↦ refl | false ↦ stopped-program past seat 0 outcome.Unscheduled ]
    in with (is_closed seat)

pub programs-set : (at : ℕ) (seats : List Seat) (moved : Seat) → moved.program ≡ (seat_at seats at).program → programs_of (slice_set seats at moved) ≡ programs_of seats
programs-set at [] moved same = refl
programs-set zero (seat ∷ seats) moved same = ap (λ program. program ∷ programs_of seats) same
programs-set (suc at) (seat ∷ seats) moved same = ap (λ rest. seat.program ∷ rest) (programs-set at seats moved same)
