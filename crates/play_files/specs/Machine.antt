-- A play file line by line, whatever the bytes of its requests are.
use Rattle.std.specs.Prelude.{◌≡◌, ◌≤◌, ◌<◌, ◌^◌, ℕ, List, [], ◌∷◌, ◌++◌, length, codes, bytes_eq, map, nat_lt, Option, None, Some, Result, Ok, Err, if◌then◌else◌}
use Rattle.std.specs.Option.{option_map}
use Rattle.edge_words.specs.declared.fault.LineFault.{LineFault}
use Rattle.edge_words.specs.declared.fault.LineFault.TheVariants as fault
use Rattle.http_front.specs.declared.heads.Incoming.{Incoming}
use Rattle.script_lines.specs.declared.step.Step.{Step}
use Rattle.run_files.specs.Run.{step_text, AreStepsOf, most_guests, most_steps}
use Rattle.run_files.specs.Reading.{step_at}
use Rattle.line_reader.specs.ByLines.{Machine}
use Rattle.play_files.specs.declared.play.PlayFile.{PlayFile}
use Rattle.play_files.specs.declared.machine.State.{State}
use Rattle.play_files.specs.declared.machine.State.TheVariants as state
use Rattle.play_files.specs.Play.{Play, fuel_text, random_text, request_text, IsRandom, AreBytes}
use Rattle.play_files.specs.Reading.{fuel_in, random_in, request_in}
use Rattle.play_files.specs.Requests.{AreRequestTexts, AreRequests}

-- fuel and random bytes
pub record Head : Type 0 where
  pub fuel : ℕ
  pub random : List ℕ

-- what the lines so far say: nothing; the first line; the fuel; the head and some requests; all requests and some steps; all
pub data Progress : Type 0 where
  Start : Progress
  Begun : Progress
  Fuelled : ℕ → Progress
  Asking : Head → List (List ℕ) → Progress
  Steps : Head → List (List ℕ) → List Step → Progress
  Over : Head → List (List ℕ) → List Step → Progress

abbrev pub head_of : ℕ → List ℕ → Head
head_of fuel random = record { fuel = fuel; random = random }

-- the same without where it lies in memory, and without what the texts are requests of
abbrev pub seen : State → Progress
seen state.Start = Start
seen state.Begun = Begun
seen (state.Fuelled fuel) = Fuelled fuel
seen (state.Asking fuel random texts requests) = Asking (head_of fuel random) texts.items
seen (state.Steps fuel random texts requests steps) = Steps (head_of fuel random) texts.items steps.items
seen (state.Over fuel random texts requests steps) = Over (head_of fuel random) texts.items steps.items

-- a request, if there is room for it, or the steps
abbrev pub after_in_requests : Head → List (List ℕ) → List ℕ → Option Progress
after_in_requests head texts line =
    if bytes_eq line (codes "steps") then Some (Steps head texts [])
    else if nat_lt (length texts) most_guests then option_map (λ text. Asking head (texts ++ text ∷ [])) (request_in line)
    else None

abbrev pub after_in_steps : Head → List (List ℕ) → List Step → List ℕ → Option Progress
after_in_steps head texts steps line =
    if bytes_eq line (codes "end") then Some (Over head texts steps)
    else if nat_lt (length steps) most_steps then option_map (λ step. Steps head texts (steps ++ step ∷ [])) (step_at (length texts) line)
    else None

-- one more line
abbrev pub after_line : Progress → List ℕ → Option Progress
after_line Start line = if bytes_eq line (codes "edge-play 1") then Some Begun else None
after_line Begun line = option_map Fuelled (fuel_in line)
after_line (Fuelled fuel) line = option_map (λ random. Asking (head_of fuel random) []) (random_in line)
after_line (Asking head texts) line = after_in_requests head texts line
after_line (Steps head texts steps) line = after_in_steps head texts steps line
after_line (Over head texts steps) line = None

-- what the file says, where all was said and nothing stands behind it
abbrev pub finished : Progress → List ℕ → Option Play
finished (Over head texts steps) [] = Some (record { fuel = head.fuel; random = head.random; texts = texts; steps = steps })
finished _ rest = None

abbrev pub machine : Machine Progress Play
machine = record { start = Start; after = after_line; finished = finished }

-- ---- what the lines so far were

abbrev pub head_lines : Head → List (List ℕ)
head_lines head = codes "edge-play 1" ∷ (fuel_text head.fuel ∷ (random_text head.random ∷ []))

-- the lines that lead there
abbrev pub lines_to : Progress → List (List ℕ)
lines_to Start = []
lines_to Begun = codes "edge-play 1" ∷ []
lines_to (Fuelled fuel) = codes "edge-play 1" ∷ (fuel_text fuel ∷ [])
lines_to (Asking head texts) = head_lines head ++ map request_text texts
lines_to (Steps head texts steps) = head_lines head ++ (map request_text texts ++ (codes "steps" ∷ map step_text steps))
lines_to (Over head texts steps) = head_lines head ++ (map request_text texts ++ (codes "steps" ∷ (map step_text steps ++ codes "end" ∷ [])))

-- fuel and random bytes fit
pub record IsHead (head : Head) : Type 0 where
  pub fuel : head.fuel < 2 ^ 64
  pub random : IsRandom head.random

-- so do requests and steps
pub record AreCounted (head : Head) (texts : List (List ℕ)) (steps : List Step) : Type 0 where
  pub head_is : IsHead head
  pub few_requests : length texts ≤ most_guests
  pub all_bytes : AreBytes texts
  pub few_steps : length steps ≤ most_steps
  pub all_steps : AreStepsOf (length texts) steps

abbrev pub IsProgress : Progress → Type 0
IsProgress Start = Unit {0}
IsProgress Begun = Unit {0}
IsProgress (Fuelled fuel) = fuel < 2 ^ 64
IsProgress (Asking head texts) = AreCounted head texts []
IsProgress (Steps head texts steps) = AreCounted head texts steps
IsProgress (Over head texts steps) = AreCounted head texts steps

-- ---- requests

-- the texts of the requests so far
abbrev pub texts_in : Progress → List (List ℕ)
texts_in (Asking head texts) = texts
texts_in (Steps head texts steps) = texts
texts_in (Over head texts steps) = texts
texts_in _ = []

abbrev pub AreGood : Progress → Type 0
AreGood p = AreRequestTexts (texts_in p)

-- the requests so far
abbrev pub requests_in : State → List Incoming
requests_in (state.Asking fuel random texts requests) = requests.items
requests_in (state.Steps fuel random texts requests steps) = requests.items
requests_in (state.Over fuel random texts requests steps) = requests.items
requests_in _ = []

-- they are those of the texts
abbrev pub IsSound : State → Type 0
IsSound s = AreRequests (texts_in (seen s)) (requests_in s)

-- what a line leads to: the next state, whose requests are those of the texts; or the line can't stand there, by its words
-- or because its text is no request; or memory ran out
abbrev pub LeadsTo : Progress → List ℕ → Result State LineFault → Type 0
LeadsTo p line (Ok next) = (after_line p line ≡ Some (seen next)) × IsSound next
LeadsTo p line (Err fault.Bad) = (q : Progress) → after_line p line ≡ Some q → AreGood q → ⊥
LeadsTo p line (Err fault.OutOfMemory) = Unit {0}

-- what the file says, or it ends too early or too late
abbrev pub EndsWith : State → List ℕ → Option PlayFile → Type 0
EndsWith s rest (Some file) = (seen s ≡ Over (head_of file.fuel file.random) (texts_in (seen s)) file.steps) × (requests_in s ≡ file.requests) × (rest ≡ [])
EndsWith s rest None = finished (seen s) rest ≡ None
