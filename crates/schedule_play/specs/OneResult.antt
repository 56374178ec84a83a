-- The one result of a schedule in which memory never ran out, for given answers of the link.
use Rattle.std.specs.Prelude.{◌≡◌, ℕ, ◌-◌, Bool, true, false, List, [], ◌∷◌, reverse, slice_set}
use Rattle.std.specs.List.{list_any}
use Rattle.cache_types.specs.declared.entries.Entry.{Entry}
use Rattle.cache_types.specs.declared.outer.Outcome.{Outcome}
use Rattle.cache_types.specs.declared.outer.Outcome.TheVariants as outcome
use Rattle.cache_types.specs.declared.outer.Done.{Done}
use Rattle.player.specs.Plays.{Program, Answered}
use Rattle.script_lines.specs.declared.step.Step.{Step}
use Rattle.schedule_play.specs.Schedule.{Seat, Moved, World, seat_at, turned, next_answer, left_after, start_of, closed, blocks_from}

-- the world with this turn at the place
abbrev pub after_turn : World → ℕ → Moved → World
after_turn world place turn = record { past = turn.past; seats = slice_set world.seats place turn.seat }

-- the guest whose step it is
abbrev pub seat_of : World → Step → Seat
seat_of world step = seat_at world.seats (step.player - 1)

-- one step of the schedule
abbrev pub after_step : ℕ → List Answered → World → Step → World
after_step most answers world step = after_turn world (step.player - 1) (turned most step.reading (next_answer answers) world.past (seat_of world step))

-- the steps in order
abbrev pub after_steps : ℕ → List Answered → World → List Step → World
after_steps most answers world [] = world
after_steps most answers world (step ∷ steps) = after_steps most (left_after (seat_of world step) answers) (after_step most answers world step) steps

abbrev pub all_closed : World → World
all_closed world = closed world.past [] world.seats

-- all steps, and then each guest that isn't over is stopped
abbrev pub played : ℕ → List Program → List Step → List Answered → World
played most programs steps answers = all_closed (after_steps most answers (start_of programs) steps)

-- the history and the blocks are those
pub record IsOneResult (most : ℕ) (programs : List Program) (steps : List Step) (answers : List Answered) (history : List Entry) (blocks : List Done) : Type 0 where
  pub history_is : history ≡ reverse (played most programs steps answers).past
  pub blocks_are : blocks ≡ blocks_from 1 (played most programs steps answers).seats

abbrev pub is_memory : Outcome → Bool
is_memory outcome.OutOfMemory = true
is_memory _ = false

-- a guest was stopped because memory ran out
abbrev pub one_wanted : List Done → Bool
one_wanted blocks = list_any (λ (done : Done). is_memory done.outcome) blocks
