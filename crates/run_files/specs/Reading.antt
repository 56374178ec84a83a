-- Reading the lines of a block and the steps on lists.
use Rattle.std.specs.Prelude.{ℕ, List, Option, None, Some, if◌then◌else◌}
use Rattle.std.specs.Option.{option_map}
use Rattle.edge_words.specs.Reading.{one, both, whole, number_in, number_from_to, words_in, ◌>>=◌}
use Rattle.script_lines.specs.declared.line.Line.{Line}
use Rattle.call_lines.specs.declared.naming.Naming.TheVariants.{Marked}
use Rattle.call_lines.specs.Lines.{keeps_limits}
use Rattle.call_lines.specs.Reading.{form_in}
use Rattle.script_lines.specs.declared.step.Step.{Step}

-- a line of a block, whatever its place
abbrev pub line_in : List ℕ → Option Line
line_in text = whole (form_in Marked) (words_in text)

abbrev pub kept_at : ℕ → Line → Option Line
kept_at place line = if keeps_limits place line then Some line else None

-- a line of a block, at this place
abbrev pub line_at : ℕ → List ℕ → Option Line
line_at place text = line_in text >>= kept_at place

-- a step of one of so many guests
abbrev pub step_of : ℕ × ℕ → Step
step_of said = record { reading = said.0; player = said.1 }

abbrev pub step_in : ℕ → List (List ℕ) → Option (ℕ × ℕ)
step_in guests = whole (both (one number_in) (one (number_from_to 1 guests)))

abbrev pub step_at : ℕ → List ℕ → Option Step
step_at guests text = option_map step_of (step_in guests (words_in text))
