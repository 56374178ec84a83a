-- What a schedule led to: the calls on the link, and the result for its answers.
use Rattle.std.specs.Prelude.{◌≡◌, ℕ, false, List, Option}
use Rattle.cache_types.specs.declared.entries.Entry.{Entry}
use Rattle.cache_types.specs.declared.outer.Done.{Done}
use Rattle.cache_types.specs.declared.outer.OuterCall.{OuterCall}
use Rattle.cache_types.specs.declared.outer.OuterReply.{OuterReply}
use Rattle.edge_outside.specs.Made.{Made}
use Rattle.script_lines.specs.declared.step.Step.{Step}
use Rattle.player.specs.Plays.{Program, Answered}
use Rattle.schedule_play.specs.Links.{LinkCall, answers_in}
use Rattle.schedule_play.specs.Schedule.{IsPlayed}
use Rattle.schedule_play.specs.OneResult.{IsOneResult, one_wanted}

-- the history and the blocks are those of the schedule, where the link gives the answers that it gave; and where no block
-- tells want of memory, there are no others
pub record IsScheduled {L : Type 0} (Asks : L → OuterCall → Option OuterReply → L → Type 0) (MayWant : Program → List Answered → Type 0) (most : ℕ) (programs : List Program) (steps : List Step) (before after : L) (history : List Entry) (blocks : List Done) : Type 0 where
  pub calls : List LinkCall
  pub made : Made Asks before calls after
  pub schedule : IsPlayed MayWant most programs steps (answers_in calls) history blocks
  pub one_result : one_wanted blocks ≡ false → IsOneResult most programs steps (answers_in calls) history blocks
