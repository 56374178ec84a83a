-- New guests, each with its script.
use Rattle.std.specs.Prelude.{List, map}
use Rattle.script_lines.specs.declared.line.Line.{Line}
use Rattle.scripted_guest.specs.Script.{script_program}
use Rattle.scripted_guest.specs.Scripted.{State, ScriptPlays}
use Rattle.schedule_play.specs.Sits.{AreNew}

abbrev pub AreGuests : List State → List (List Line) → Type 0
AreGuests guests scripts = AreNew ScriptPlays (λ (s : State). s.stopped) (λ (s : State). s.ended) guests (map script_program scripts)
