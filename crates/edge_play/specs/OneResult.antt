-- The one result of a schedule of scripted guests in which memory never ran out.
use Rattle.std.specs.Prelude.{ℕ, List, []}
use Rattle.cache_types.specs.declared.entries.Entry.{Entry}
use Rattle.cache_types.specs.declared.outer.Done.{Done}
use Rattle.script_lines.specs.declared.line.Line.{Line}
use Rattle.script_lines.specs.declared.step.Step.{Step}
use Rattle.schedule_play.specs.OneResult.{IsOneResult as IsOneResultOf}
use Rattle.edge_play.specs.Schedule.{programs_of}
pub use Rattle.schedule_play.specs.OneResult.{one_wanted}

-- the history and the blocks are those
abbrev pub IsOneResult : ℕ → List (List Line) → List Step → List Entry → List Done → Type 0
IsOneResult most scripts steps history blocks = IsOneResultOf most (programs_of scripts) steps [] history blocks
