-- A run file line by line.
use Rattle.std.specs.Prelude.{◌≤◌, ◌+◌, ℕ, List, [], ◌∷◌, ◌++◌, length, codes, bytes_eq, map, nat_lt, Option, None, Some, if◌then◌else◌}
use Rattle.std.specs.Option.{option_map}
use Rattle.script_lines.specs.declared.line.Line.{Line}
use Rattle.script_lines.specs.declared.step.Step.{Step}
use Rattle.run_files.specs.declared.run.Run.{Run}
use Rattle.run_files.specs.declared.machine.State.{State}
use Rattle.run_files.specs.declared.machine.State.TheVariants as state
use Rattle.run_files.specs.Run.{guest_lines, line_text, step_text, AreLinesFrom, AreGuests, AreStepsOf, most_guests, most_steps}
use Rattle.run_files.specs.Reading.{line_at, step_at}
use Rattle.line_reader.specs.ByLines.{Machine}

-- what the lines so far say: nothing; the first line; closed blocks and an open one; all blocks and some steps; all
pub data Progress : Type 0 where
  Start : Progress
  Begun : Progress
  Block : List (List Line) → List Line → Progress
  Steps : List (List Line) → List Step → Progress
  Over : List (List Line) → List Step → Progress

-- the same without where it lies in memory
abbrev pub seen : State → Progress
seen state.Start = Start
seen state.Begun = Begun
seen (state.Block closed opened) = Block closed.items opened.items
seen (state.Steps guests steps) = Steps guests.items steps.items
seen (state.Over guests steps) = Over guests.items steps.items

-- an open block is closed by another, if there is room, or by the steps, and goes on with a line
abbrev pub after_in_block : List (List Line) → List Line → List ℕ → Option Progress
after_in_block closed opened line =
    if bytes_eq line (codes "guest") then (if nat_lt (length closed + 1) most_guests then Some (Block (closed ++ opened ∷ []) []) else None)
    else if bytes_eq line (codes "steps") then Some (Steps (closed ++ opened ∷ []) [])
    else option_map (λ read. Block closed (opened ++ read ∷ [])) (line_at (length opened + 1) line)

abbrev pub after_in_steps : List (List Line) → List Step → List ℕ → Option Progress
after_in_steps guests steps line =
    if bytes_eq line (codes "end") then Some (Over guests steps)
    else if nat_lt (length steps) most_steps then option_map (λ step. Steps guests (steps ++ step ∷ [])) (step_at (length guests) line)
    else None

-- one more line
abbrev pub after_line : Progress → List ℕ → Option Progress
after_line Start line = if bytes_eq line (codes "edge-run 1") then Some Begun else None
after_line Begun line =
    if bytes_eq line (codes "guest") then Some (Block [] [])
    else if bytes_eq line (codes "steps") then Some (Steps [] [])
    else None
after_line (Block closed opened) line = after_in_block closed opened line
after_line (Steps guests steps) line = after_in_steps guests steps line
after_line (Over guests steps) line = None

-- the run, where all was said and nothing stands behind it
abbrev pub finished : Progress → List ℕ → Option Run
finished (Over guests steps) [] = Some (record { guests = guests; steps = steps })
finished _ rest = None

abbrev pub machine : Machine Progress Run
machine = record { start = Start; after = after_line; finished = finished }

-- ---- what the lines so far were

-- the lines that lead there
abbrev pub lines_to : Progress → List (List ℕ)
lines_to Start = []
lines_to Begun = codes "edge-run 1" ∷ []
lines_to (Block closed opened) = codes "edge-run 1" ∷ (guest_lines closed ++ (codes "guest" ∷ map line_text opened))
lines_to (Steps guests steps) = codes "edge-run 1" ∷ (guest_lines guests ++ (codes "steps" ∷ map step_text steps))
lines_to (Over guests steps) = codes "edge-run 1" ∷ (guest_lines guests ++ (codes "steps" ∷ (map step_text steps ++ codes "end" ∷ [])))

-- guests and steps keep the limits
pub record AreCounted (guests : List (List Line)) (steps : List Step) : Type 0 where
  pub few_guests : length guests ≤ most_guests
  pub all_guests : AreGuests guests
  pub few_steps : length steps ≤ most_steps
  pub all_steps : AreStepsOf (length guests) steps

abbrev pub IsProgress : Progress → Type 0
IsProgress Start = Unit {0}
IsProgress Begun = Unit {0}
IsProgress (Block closed opened) = (length closed + 1 ≤ most_guests) × AreGuests closed × AreLinesFrom 1 opened
IsProgress (Steps guests steps) = AreCounted guests steps
IsProgress (Over guests steps) = AreCounted guests steps
