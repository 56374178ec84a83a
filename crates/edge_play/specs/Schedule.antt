-- The schedule of scripted guests: that of their programs, which ask no link.
use Rattle.std.specs.Prelude.{ℕ, List, [], map}
use Rattle.cache_types.specs.declared.entries.Entry.{Entry}
use Rattle.cache_types.specs.declared.outer.Done.{Done}
use Rattle.script_lines.specs.declared.line.Line.{Line}
use Rattle.script_lines.specs.declared.step.Step.{Step}
use Rattle.player.specs.Plays.{Program}
use Rattle.schedule_play.specs.Schedule.{IsPlayed as IsPlayedBy}
use Rattle.scripted_guest.specs.Script.{script_program, ScriptWants}
pub use Rattle.schedule_play.specs.Schedule.{is_step_of, are_steps_of}

-- what the guests of these scripts do
abbrev pub programs_of : List (List Line) → List Program
programs_of scripts = map script_program scripts

-- a history and blocks that the schedule may lead to
abbrev pub IsPlayed : ℕ → List (List Line) → List Step → List Entry → List Done → Type 0
IsPlayed most scripts steps history blocks = IsPlayedBy ScriptWants most (programs_of scripts) steps [] history blocks
