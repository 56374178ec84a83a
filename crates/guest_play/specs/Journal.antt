-- What a journal of guests says.
use Rattle.std.specs.Prelude.{◌≡◌, ℕ, List, Option}
use Rattle.cache_types.specs.declared.entries.Entry.{Entry}
use Rattle.cache_types.specs.declared.outer.Done.{Done}
use Rattle.cache_types.specs.declared.outer.OuterCall.{OuterCall}
use Rattle.cache_types.specs.declared.outer.OuterReply.{OuterReply}
use Rattle.cache_types.specs.Legal.{IsLegal}
use Rattle.cache_types.specs.Laws.{IsLawful}
use Rattle.script_lines.specs.declared.step.Step.{Step}
use Rattle.journal_writer.specs.Journal.{journal_bytes}
use Rattle.player.specs.Plays.{Program}
use Rattle.schedule_play.specs.Blocks.{HasBlocks}
use Rattle.schedule_play.specs.Scheduled.{IsScheduled}
use Rattle.guest_run.specs.Guests.{GuestWants}

-- the text is a journal to which the schedule of these programs may lead, over a cache with this room and a link
pub record IsGuestJournal {L : Type 0} (Asks : L → OuterCall → Option OuterReply → L → Type 0) (most : ℕ) (programs : List Program) (steps : List Step) (before after : L) (text : List ℕ) : Type 0 where
  pub history : List Entry
  pub blocks : List Done
  -- one legal history of a one-thread cache, with its laws
  pub legal : IsLegal history
  pub lawful : IsLawful history
  -- one block for each program, tied to the history, and a run of the program
  pub blocks_are : HasBlocks history programs blocks
  -- the history and the blocks are those of the schedule; and where no block tells want of memory, there are no others
  pub schedule : IsScheduled Asks GuestWants most programs steps before after history blocks
  pub text_is : text ≡ journal_bytes history blocks
