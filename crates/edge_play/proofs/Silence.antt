-- Scripts ask no link.
use Rattle.std.specs.Prelude.{◌≡◌, ℕ, ◌-◌, Bool, true, false, not, List, [], ◌∷◌, map, refl, Option, None, Some}
use Rattle.std.proofs.Common.{ap, sym, ◌∙◌, subst, inl, inr, zero, suc}
use Rattle.std.proofs.Math.Bool.{and-false}
use Rattle.cache_types.specs.declared.calls.CacheCall.{CacheCall}
use Rattle.cache_types.specs.declared.entries.Entry.{Entry}
use Rattle.cache_types.specs.declared.outer.Done.{Done}
use Rattle.cache_types.specs.declared.outer.Outcome.{Outcome}
use Rattle.script_lines.specs.declared.line.Line.{Line}
use Rattle.script_lines.specs.declared.step.Step.{Step}
use Rattle.player.specs.Plays.{Program, Answered, replies_of, due, stopped_due}
use Rattle.scripted_guest.specs.Script.{next_call, turn_of, script_program, values_in, ScriptWants}
use Rattle.schedule_play.specs.Schedule.{Seat, World, seat_at, new_seat, is_closed, due_of, is_link_turn, asks_link, left_after, MayTurn, PlayGives, IsPlayed}
use Rattle.schedule_play.specs.Ready.{programs_of as programs_in}
use Rattle.schedule_play.proofs.Ends.{programs-start}
use Rattle.schedule_play.proofs.Programs.{may_turn-program, programs-set}
use Rattle.cache_types.specs.declared.outer.OuterCall.{OuterCall}
use Rattle.cache_types.specs.declared.outer.OuterReply.{OuterReply}
use Rattle.schedule_play.specs.Links.{answers_in}
use Rattle.schedule_play.specs.Scheduled.{IsScheduled}
use Rattle.schedule_play.specs.OneResult.{IsOneResult, one_wanted}
use Rattle.edge_play.specs.OneResult.{IsOneResult as IsOneResultScripts}
use Rattle.edge_play.specs.Schedule.{programs_of, IsPlayed as IsPlayedScripts}

turn-silent : (next : Option CacheCall) → is_link_turn (turn_of next) ≡ false
turn-silent None = refl
turn-silent (Some call) = refl

stopped-silent : (trace : List Answered) (ended : Bool) (why : Outcome) → is_link_turn (stopped_due trace ended why) ≡ false
stopped-silent [] ended why = refl
stopped-silent (begin ∷ trace) true why = refl
stopped-silent (begin ∷ trace) false why = refl

due-silent : (script : List Line) (trace : List Answered) (ended : Bool) (stopped : Option Outcome) → is_link_turn (due (script_program script) trace ended stopped) ≡ false
due-silent script trace ended None = turn-silent (next_call script (values_in (replies_of trace)))
due-silent script trace ended (Some why) = stopped-silent trace ended why

-- no guest of a script asks a link
seat-silent : (seats : List Seat) (scripts : List (List Line)) (at : ℕ) → programs_in seats ≡ programs_of scripts → is_link_turn (due_of (seat_at seats at)) ≡ false
seat-silent [] scripts at is = refl
seat-silent (seat ∷ seats) [] at is = cc is
seat-silent (seat ∷ seats) (script ∷ scripts) zero is = let here : seat.program ≡ script_program script = head-same seat.program (script_program script) (programs_in seats) (programs_of scripts) is in subst (λ (p : Program). is_link_turn (due p seat.trace seat.ended seat.stopped) ≡ false) (sym here) (due-silent script seat.trace seat.ended seat.stopped)
  where
    head-same : (p q : Program) (ps qs : List Program) → p ∷ ps ≡ q ∷ qs → p ≡ q
    head-same p q ps qs is = cc is
seat-silent (seat ∷ seats) (script ∷ scripts) (suc at) is = seat-silent seats scripts at (tail-same seat.program (script_program script) (programs_in seats) (programs_of scripts) is)
  where
    tail-same : (p q : Program) (ps qs : List Program) → p ∷ ps ≡ q ∷ qs → ps ≡ qs
    tail-same p q ps qs is = cc is

left-silent : (seat : Seat) (answers : List Answered) → is_link_turn (due_of seat) ≡ false → left_after seat answers ≡ answers
left-silent seat answers silent = let asks : asks_link seat ≡ false = rw silent (and-false (not (is_closed seat))) in rw asks refl

turn-left : (most reading : ℕ) (answers left : List Answered) (past after : List Entry) (seat moved : Seat) → MayTurn ScriptWants most reading answers left past seat after moved → is_link_turn (due_of seat) ≡ false → left ≡ answers
turn-left most reading answers left past after seat moved turn silent = elim turn [ inl went ↦ went.left_is ∙ left-silent seat answers silent | inr short ↦ short.left_is ]

play-silent : (most : ℕ) (scripts : List (List Line)) (steps : List Step) (answers : List Answered) (world end : World) → programs_in world.seats ≡ programs_of scripts → PlayGives ScriptWants most steps answers world end → answers ≡ []
play-silent most scripts [] answers world end same gives = gives.0
play-silent most scripts (step ∷ steps) answers world end same gives =
    let next : World = gives.0 in
    let left : List Answered = gives.1 in
    let given = gives.2 in
    let at : ℕ = step.player - 1 in
    let kept : programs_in next.seats ≡ programs_of scripts =
    ap programs_in given.seats ∙ (programs-set at world.seats given.seat (may_turn-program ScriptWants most step.reading answers left world.past next.past (seat_at world.seats at) given.seat given.turn) ∙ same)
    in
    sym (turn-left most step.reading answers left world.past next.past (seat_at world.seats at) given.seat given.turn (seat-silent world.seats scripts at same)) ∙ play-silent most scripts steps left next end kept gives.3

pub no-answers : (most : ℕ) (scripts : List (List Line)) (steps : List Step) (answers : List Answered) (history : List Entry) (blocks : List Done) → IsPlayed ScriptWants most (programs_of scripts) steps answers history blocks → answers ≡ []
no-answers most scripts steps answers history blocks played = play-silent most scripts steps answers (record { past = []; seats = map new_seat (programs_of scripts) }) played.last (programs-start (programs_of scripts)) played.steps_give

module _ {L : Type 0} (Asks : L → OuterCall → Option OuterReply → L → Type 0) (most : ℕ) (scripts : List (List Line)) (steps : List Step) (before after : L) (history : List Entry) (blocks : List Done) (is : IsScheduled Asks ScriptWants most (programs_of scripts) steps before after history blocks) where
  silent : answers_in is.calls ≡ []
  silent = no-answers most scripts steps (answers_in is.calls) history blocks is.schedule

  -- a schedule of scripts, without the link
  pub played-silent : IsPlayedScripts most scripts steps history blocks
  played-silent = subst (λ (l : List Answered). IsPlayed ScriptWants most (programs_of scripts) steps l history blocks) silent is.schedule

  pub one-silent : one_wanted blocks ≡ false → IsOneResultScripts most scripts steps history blocks
  one-silent calm = subst (λ (l : List Answered). IsOneResult most (programs_of scripts) steps l history blocks) silent (is.one_result calm)
