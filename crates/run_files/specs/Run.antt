-- A run file: scripted guests, and the steps of their schedule.
use Rattle.std.specs.Prelude.{◌≡◌, ◌<◌, ◌≤◌, ◌+◌, ◌^◌, ℕ, true, List, [], ◌∷◌, ◌++◌, length, decimal, codes, map}
use Rattle.std.specs.List.{flat_map}
use Rattle.cache_types.specs.declared.calls.CacheCall.{CacheCall}
use Rattle.edge_words.specs.Words.{line_of, text_of}
use Rattle.script_lines.specs.declared.line.Named.{Named}
use Rattle.call_lines.specs.declared.naming.Naming.TheVariants.{Marked}
use Rattle.script_lines.specs.declared.line.Line.{Line}
use Rattle.call_lines.specs.Lines.{line_words, IsCallForm, keeps_limits}
use Rattle.script_lines.specs.declared.step.Step.{Step}
use Rattle.run_files.specs.declared.run.Run.{Run}

-- ---- spelling

abbrev pub line_text : Line → List ℕ
line_text line = line_of (line_words Marked line)

abbrev pub step_words : Step → List (List ℕ)
step_words step = decimal step.reading ∷ (decimal step.player ∷ [])

abbrev pub step_text : Step → List ℕ
step_text step = line_of (step_words step)

-- a guest's block
abbrev pub block_lines : List Line → List (List ℕ)
block_lines block = codes "guest" ∷ map line_text block

abbrev pub guest_lines : List (List Line) → List (List ℕ)
guest_lines guests = flat_map block_lines guests

-- the lines of a run file
abbrev pub run_lines : Run → List (List ℕ)
run_lines run = codes "edge-run 1" ∷ (guest_lines run.guests ++ (codes "steps" ∷ (map step_text run.steps ++ codes "end" ∷ [])))

unfoldable pub run_text : Run → List ℕ
run_text run = text_of (run_lines run)

-- ---- what has a spelling

-- a file has 1,000 guests at most, and a schedule 1,000,000 steps
abbrev pub most_guests : ℕ
most_guests = 1000

abbrev pub most_steps : ℕ
most_steps = 1000000

-- the greatest size of a run file in bytes
abbrev pub most_bytes : ℕ
most_bytes = 67108864

-- a line of a run file
abbrev pub IsForm : CacheCall → Named → Type 0
IsForm call named = IsCallForm Marked call named

-- a line that may stand at this place of a block
pub record IsLineAt (place : ℕ) (line : Line) : Type 0 where
  pub form : IsForm line.call line.named
  pub limits : keeps_limits place line ≡ true

-- the lines of a block, the first of them at this place
abbrev pub AreLinesFrom : ℕ → List Line → Type 0
AreLinesFrom place [] = Unit {0}
AreLinesFrom place (line ∷ lines) = IsLineAt place line × AreLinesFrom (place + 1) lines

abbrev pub AreGuests : List (List Line) → Type 0
AreGuests [] = Unit {0}
AreGuests (block ∷ blocks) = AreLinesFrom 1 block × AreGuests blocks

-- a step of one of so many guests
abbrev pub IsStepOf : ℕ → Step → Type 0
IsStepOf guests step = (step.reading < 2 ^ 64) × ((1 ≤ step.player) × (step.player ≤ guests))

abbrev pub AreStepsOf : ℕ → List Step → Type 0
AreStepsOf guests [] = Unit {0}
AreStepsOf guests (step ∷ steps) = IsStepOf guests step × AreStepsOf guests steps

-- what has a run file, whose size is a limit of its own
pub record IsRun (run : Run) : Type 0 where
  pub few_guests : length run.guests ≤ most_guests
  pub guests : AreGuests run.guests
  pub few_steps : length run.steps ≤ most_steps
  pub steps : AreStepsOf (length run.guests) run.steps
