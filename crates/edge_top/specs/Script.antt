-- What `script` works out from the bytes that it read.
use Rattle.std.specs.Prelude.{◌≡◌, ◌≤◌, ℕ, false, List, length, Ok, Err}
use Rattle.cache_types.specs.declared.entries.Entry.{Entry}
use Rattle.cache_types.specs.declared.outer.Done.{Done}
use Rattle.cache_types.specs.Legal.{IsLegal}
use Rattle.cache_types.specs.Laws.{IsLawful}
use Rattle.run_files.specs.declared.run.Run.{Run}
use Rattle.run_files.specs.Run.{IsRun, run_text, most_bytes}
use Rattle.run_files.specs.Begins.{IsFirstBad}
use Rattle.journal_writer.specs.Journal.{journal_bytes}
use Rattle.edge_play.specs.Blocks.{HasBlocks}
use Rattle.edge_play.specs.Schedule.{IsPlayed}
use Rattle.edge_play.specs.OneResult.{IsOneResult, one_wanted}
use Rattle.edge_top.specs.declared.exit.Exit.TheVariants as exit
use Rattle.edge_top.specs.Worked.{Worked, HasText}

-- the greatest number of entries and live guests in every command
abbrev pub most_entries : ℕ
most_entries = 1000000

-- one history and its blocks, to which the run may lead over a cache with this room
pub record Leads (most : ℕ) (run : Run) (history : List Entry) (blocks : List Done) : Type 0 where
  -- one legal history of a one-thread cache, with its laws
  pub legal : IsLegal history
  pub lawful : IsLawful history
  -- one block for each guest, tied to the history, and a run of the guest's program
  pub blocks_are : HasBlocks history run.guests blocks
  -- the history and the blocks are those of the schedule
  pub schedule : IsPlayed most run.guests run.steps history blocks
  -- and where no block tells want of memory, there are no others
  pub one_result : one_wanted blocks ≡ false → IsOneResult most run.guests run.steps history blocks

-- the text of a journal of the run
pub record IsJournalOf (most : ℕ) (run : Run) (text : List ℕ) : Type 0 where
  pub history : List Entry
  pub blocks : List Done
  pub leads : Leads most run history blocks
  pub text_is : text ≡ journal_bytes history blocks

-- the bytes are this run file
pub record IsRunFile (bytes : List ℕ) (run : Run) : Type 0 where
  pub size : length bytes ≤ most_bytes
  pub fits : IsRun run
  pub spelled : bytes ≡ run_text run

-- the text is a journal of the run that the bytes spell
pub record IsJournalFrom (bytes text : List ℕ) : Type 0 where
  pub run : Run
  pub file : IsRunFile bytes run
  pub journal : IsJournalOf most_entries run text

-- what `script` works out from the bytes of its file
abbrev pub IsScripted : List ℕ → Worked → Type 0
IsScripted bytes (Ok text) = IsJournalFrom bytes text
IsScripted bytes (Err (exit.RunBad line)) = IsFirstBad bytes line
IsScripted bytes (Err exit.OutOfMemory) = Unit {0}
IsScripted bytes (Err _) = ⊥

-- and a run file is not refused
pub record Scripts (bytes : List ℕ) (worked : Worked) : Type 0 where
  pub is : IsScripted bytes worked
  pub complete : (run : Run) → IsRunFile bytes run → HasText worked
