-- Runs that may be played, and the history that one gives.
use Rattle.std.specs.Prelude.{◌≡◌, ℕ, false, List, length, IsTrue}
use Rattle.std.specs.List.{list_all}
use Rattle.cache_types.specs.declared.entries.Entry.{Entry}
use Rattle.cache_types.specs.declared.outer.Done.{Done}
use Rattle.cache_types.specs.Legal.{IsLegal}
use Rattle.run_files.specs.declared.run.Run.{Run}
use Rattle.edge_play.specs.Blocks.{is_script}
use Rattle.edge_play.specs.Schedule.{are_steps_of}
use Rattle.edge_play.specs.OneResult.{IsOneResult, one_wanted}

-- its guests have scripts, and each step is of one of them
pub record IsPlayable (run : Run) : Type 0 where
  pub scripts : IsTrue (list_all is_script run.guests)
  pub steps : IsTrue (are_steps_of (length run.guests) run.steps)

-- the history of the run's one result in which no guest was stopped for want of memory, over a cache with this room
pub record IsHistoryOf (most : ℕ) (run : Run) (history : List Entry) : Type 0 where
  pub blocks : List Done
  pub legal : IsLegal history
  pub none_wanted : one_wanted blocks ≡ false
  pub one_result : IsOneResult most run.guests run.steps history blocks
