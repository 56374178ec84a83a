-- Readings that go on by a word: what stands first says how the others are read.
use Rattle.std.specs.Prelude.{ℕ, Bool, true, false, List, [], ◌∷◌, decimal, bytes_eq, Option, None, Some, if◌then◌else◌}
use Rattle.std.specs.Option.{option_map}
use Rattle.edge_words.specs.Reading.{at_end, number_in, ◌>>=◌}

-- a first word, and how the words after it are read
abbrev pub Row : Type 0 → Type 0
Row X = List ℕ × (List (List ℕ) → Option X)

-- the reading of the row with this name
abbrev pub in_row : {X : Type 0} → List (Row X) → List ℕ → List (List ℕ) → Option X
in_row [] name words = None
in_row (row ∷ rows) name words = if bytes_eq name row.0 then row.1 words else in_row rows name words

abbrev pub by_name : {X : Type 0} → List (Row X) → List (List ℕ) → Option X
by_name rows [] = None
by_name rows (name ∷ words) = in_row rows name words

-- this value, where no word is left
abbrev pub alone : {X : Type 0} → X → List (List ℕ) → Option X
alone value words = option_map (λ _. value) (at_end words)

-- what this reading says of all words that are left, made into a value
abbrev pub made : {X Y : Type 0} → (X → Y) → (List (List ℕ) → Option X) → List (List ℕ) → Option Y
made make read words = option_map make (read words)

-- some words, and then all that are left
abbrev pub first_then : {X Y : Type 0} → (List (List ℕ) → Option (X × List (List ℕ))) → (List (List ℕ) → Option Y) → List (List ℕ) → Option (X × Y)
first_then first others words = do
  a ← first words
  b ← others a.1
  Some (a.0, b)

abbrev pub no_words : List (List ℕ) → Bool
no_words [] = true
no_words (_ ∷ _) = false

-- all words that are left, if there are any
abbrev pub if_any : {X : Type 0} → (List (List ℕ) → Option X) → List (List ℕ) → Option (Option X)
if_any read words = if no_words words then Some None else option_map (λ x. Some x) (read words)

abbrev pub if_any_words : {X : Type 0} → (X → List (List ℕ)) → Option X → List (List ℕ)
if_any_words spell None = []
if_any_words spell (Some x) = spell x

-- this word
abbrev pub exactly : List ℕ → List ℕ → Option (Unit {0})
exactly name word = if bytes_eq word name then Some tt else None

-- a number, or this word in its place
abbrev pub number_or : List ℕ → List ℕ → Option (Option ℕ)
number_or name word = if bytes_eq word name then Some None else option_map (λ n. Some n) (number_in word)

abbrev pub number_or_word : List ℕ → Option ℕ → List ℕ
number_or_word name None = name
number_or_word name (Some n) = decimal n

-- what there is fits
abbrev pub FitOption : {X : Type 0} → (X → Type 0) → Option X → Type 0
FitOption Fits None = Unit {0}
FitOption Fits (Some x) = Fits x
