-- A play file: the fuel and the random bytes of guests, a request for each, and the steps of their schedule.
use Rattle.std.specs.Prelude.{◌≡◌, ◌<◌, ◌≤◌, ◌^◌, ℕ, List, [], ◌∷◌, ◌++◌, length, decimal, codes, map}
use Rattle.hex.specs.Hex.{IsBytes}
use Rattle.edge_words.specs.Words.{hex_word, line_of, text_of}
use Rattle.script_lines.specs.declared.step.Step.{Step}
use Rattle.run_files.specs.Run.{step_text, AreStepsOf, most_guests, most_steps}
use Rattle.play_files.specs.declared.play.PlayFile.{PlayFile}
use Rattle.play_files.specs.Requests.{AreRequestTexts, AreRequests}

-- what a play file says, with each request by its text
pub record Play : Type 0 where
  pub fuel : ℕ
  pub random : List ℕ
  pub texts : List (List ℕ)
  pub steps : List Step

-- ---- spelling

-- a name, and then one word
abbrev pub named_line : List ℕ → List ℕ → List ℕ
named_line name word = line_of (name ∷ (word ∷ []))

abbrev pub fuel_text : ℕ → List ℕ
fuel_text fuel = named_line (codes "fuel") (decimal fuel)

abbrev pub random_text : List ℕ → List ℕ
random_text random = named_line (codes "random") (hex_word random)

abbrev pub request_text : List ℕ → List ℕ
request_text text = named_line (codes "request") (hex_word text)

-- the lines of a play file
abbrev pub play_lines : Play → List (List ℕ)
play_lines play =
    codes "edge-play 1" ∷ (fuel_text play.fuel ∷ (random_text play.random
    ∷ (map request_text play.texts ++ (codes "steps" ∷ (map step_text play.steps ++ codes "end" ∷ [])))))

unfoldable pub play_text : Play → List ℕ
play_text play = text_of (play_lines play)

-- ---- what has a spelling

-- so many random bytes
abbrev pub IsRandom : List ℕ → Type 0
IsRandom random = IsBytes random × (length random ≡ 32)

-- each text has bytes
abbrev pub AreBytes : List (List ℕ) → Type 0
AreBytes [] = Unit {0}
AreBytes (text ∷ texts) = IsBytes text × AreBytes texts

-- what has a play file, whose size is a limit of its own, and whatever the bytes of its requests are
pub record IsPlay (play : Play) : Type 0 where
  pub fuel : play.fuel < 2 ^ 64
  pub random : IsRandom play.random
  pub few_requests : length play.texts ≤ most_guests
  pub texts : AreBytes play.texts
  pub few_steps : length play.steps ≤ most_steps
  pub steps : AreStepsOf (length play.texts) play.steps

-- and each text is one request
pub record IsGoodPlay (play : Play) : Type 0 where
  pub is : IsPlay play
  pub requests : AreRequestTexts play.texts

-- ---- what was read

-- the bytes are a play file that says this
pub record IsPlayFile (bytes : List ℕ) (file : PlayFile) : Type 0 where
  pub texts : List (List ℕ)
  pub requests : AreRequests texts file.requests
  pub is : IsPlay (record { fuel = file.fuel; random = file.random; texts = texts; steps = file.steps })
  pub spelled : bytes ≡ play_text (record { fuel = file.fuel; random = file.random; texts = texts; steps = file.steps })
