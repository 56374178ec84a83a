-- A batch file line by line, whatever the bytes of its requests are.
use Rattle.std.specs.Prelude.{◌≡◌, ◌≤◌, ◌<◌, ◌^◌, ℕ, List, [], ◌∷◌, ◌++◌, length, codes, bytes_eq, map, nat_lt, Option, None, Some, Result, Ok, Err, if◌then◌else◌}
use Rattle.std.specs.Option.{option_map}
use Rattle.edge_words.specs.declared.fault.LineFault.{LineFault}
use Rattle.edge_words.specs.declared.fault.LineFault.TheVariants as fault
use Rattle.http_front.specs.declared.heads.Incoming.{Incoming}
use Rattle.run_files.specs.Run.{most_guests}
use Rattle.line_reader.specs.ByLines.{Machine}
use Rattle.play_files.specs.Play.{fuel_text, random_text, request_text, IsRandom, AreBytes}
use Rattle.play_files.specs.Reading.{fuel_in, random_in, request_in}
use Rattle.play_files.specs.Requests.{AreRequestTexts, AreRequests}
use Rattle.batch_files.specs.declared.batch.BatchFile.{BatchFile}
use Rattle.batch_files.specs.declared.machine.Head.{Head}
use Rattle.batch_files.specs.declared.machine.State.{State}
use Rattle.batch_files.specs.declared.machine.State.TheVariants as state
use Rattle.batch_files.specs.Batch.{Batch, limit_text, workers_text, most_workers}
use Rattle.batch_files.specs.Reading.{limit_in, workers_in}

-- what the lines so far say: nothing; the first line; one line more of the head each; the head and some requests; all
pub data Progress : Type 0 where
  Start : Progress
  Begun : Progress
  Fuelled : ℕ → Progress
  Drawn : ℕ → List ℕ → Progress
  Limited : ℕ → List ℕ → ℕ → Progress
  Asking : Head → List (List ℕ) → Progress
  Over : Head → List (List ℕ) → Progress

abbrev pub head_of : ℕ → List ℕ → ℕ → ℕ → Head
head_of fuel random limit workers = record { fuel = fuel; random = random; limit = limit; workers = workers }

-- the same without where it lies in memory, and without what the texts are requests of
abbrev pub seen : State → Progress
seen state.Start = Start
seen state.Begun = Begun
seen (state.Fuelled fuel) = Fuelled fuel
seen (state.Drawn fuel random) = Drawn fuel random
seen (state.Limited fuel random limit) = Limited fuel random limit
seen (state.Asking head texts requests) = Asking head texts.items
seen (state.Over head texts requests) = Over head texts.items

-- a request, if there is room for it, or the last line
abbrev pub after_in_requests : Head → List (List ℕ) → List ℕ → Option Progress
after_in_requests head texts line =
    if bytes_eq line (codes "end") then Some (Over head texts)
    else if nat_lt (length texts) most_guests then option_map (λ text. Asking head (texts ++ text ∷ [])) (request_in line)
    else None

-- one more line
abbrev pub after_line : Progress → List ℕ → Option Progress
after_line Start line = if bytes_eq line (codes "edge-batch 1") then Some Begun else None
after_line Begun line = option_map Fuelled (fuel_in line)
after_line (Fuelled fuel) line = option_map (Drawn fuel) (random_in line)
after_line (Drawn fuel random) line = option_map (Limited fuel random) (limit_in line)
after_line (Limited fuel random limit) line = option_map (λ workers. Asking (head_of fuel random limit workers) []) (workers_in line)
after_line (Asking head texts) line = after_in_requests head texts line
after_line (Over head texts) line = None

-- what the file says, where all was said and nothing stands behind it
abbrev pub batch_with : Head → List (List ℕ) → Batch
batch_with head texts = record { fuel = head.fuel; random = head.random; limit = head.limit; workers = head.workers; texts = texts }

abbrev pub finished : Progress → List ℕ → Option Batch
finished (Over head texts) [] = Some (batch_with head texts)
finished _ rest = None

abbrev pub machine : Machine Progress Batch
machine = record { start = Start; after = after_line; finished = finished }

-- ---- what the lines so far were

abbrev pub head_lines : Head → List (List ℕ)
head_lines head = codes "edge-batch 1" ∷ (fuel_text head.fuel ∷ (random_text head.random ∷ (limit_text head.limit ∷ (workers_text head.workers ∷ []))))

-- the lines that lead there
abbrev pub lines_to : Progress → List (List ℕ)
lines_to Start = []
lines_to Begun = codes "edge-batch 1" ∷ []
lines_to (Fuelled fuel) = codes "edge-batch 1" ∷ (fuel_text fuel ∷ [])
lines_to (Drawn fuel random) = codes "edge-batch 1" ∷ (fuel_text fuel ∷ (random_text random ∷ []))
lines_to (Limited fuel random limit) = codes "edge-batch 1" ∷ (fuel_text fuel ∷ (random_text random ∷ (limit_text limit ∷ [])))
lines_to (Asking head texts) = head_lines head ++ map request_text texts
lines_to (Over head texts) = head_lines head ++ (map request_text texts ++ codes "end" ∷ [])

-- fuel and random bytes fit
pub record IsDrawn (fuel : ℕ) (random : List ℕ) : Type 0 where
  pub fuel_fits : fuel < 2 ^ 64
  pub random_fits : IsRandom random

-- so does the whole head
pub record IsHead (head : Head) : Type 0 where
  pub fuel : head.fuel < 2 ^ 64
  pub random : IsRandom head.random
  pub limit : head.limit < 2 ^ 64
  pub some_workers : 1 ≤ head.workers
  pub few_workers : head.workers ≤ most_workers

-- so do requests
pub record AreCounted (head : Head) (texts : List (List ℕ)) : Type 0 where
  pub head_is : IsHead head
  pub few_requests : length texts ≤ most_guests
  pub all_bytes : AreBytes texts

abbrev pub IsProgress : Progress → Type 0
IsProgress Start = Unit {0}
IsProgress Begun = Unit {0}
IsProgress (Fuelled fuel) = fuel < 2 ^ 64
IsProgress (Drawn fuel random) = IsDrawn fuel random
IsProgress (Limited fuel random limit) = IsDrawn fuel random × (limit < 2 ^ 64)
IsProgress (Asking head texts) = AreCounted head texts
IsProgress (Over head texts) = AreCounted head texts

-- ---- requests

-- the texts of the requests so far
abbrev pub texts_in : Progress → List (List ℕ)
texts_in (Asking head texts) = texts
texts_in (Over head texts) = texts
texts_in _ = []

abbrev pub AreGood : Progress → Type 0
AreGood p = AreRequestTexts (texts_in p)

-- the requests so far
abbrev pub requests_in : State → List Incoming
requests_in (state.Asking head texts requests) = requests.items
requests_in (state.Over head texts requests) = requests.items
requests_in _ = []

-- they are those of the texts
abbrev pub IsSound : State → Type 0
IsSound s = AreRequests (texts_in (seen s)) (requests_in s)

-- what a line leads to: the next state, whose requests are those of the texts; or the line can't stand there, by its words
-- or because its text is no request; or memory ran out
abbrev pub LeadsTo : Progress → List ℕ → Result State LineFault → Type 0
LeadsTo p line (Ok next) = (after_line p line ≡ Some (seen next)) × IsSound next
LeadsTo p line (Err fault.Bad) = (q : Progress) → after_line p line ≡ Some q → AreGood q → ⊥
LeadsTo p line (Err fault.OutOfMemory) = Unit {0}

-- what the file says, or it ends too early or too late
abbrev pub EndsWith : State → List ℕ → Option BatchFile → Type 0
EndsWith s rest (Some file) = (seen s ≡ Over (head_of file.fuel file.random file.limit file.workers) (texts_in (seen s))) × (requests_in s ≡ file.requests) × (rest ≡ [])
EndsWith s rest None = finished (seen s) rest ≡ None
