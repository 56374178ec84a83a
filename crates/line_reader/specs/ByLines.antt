-- Texts that are read line by line.
use Rattle.std.specs.Prelude.{◌≡◌, ◌≢◌, ◌≤◌, ◌+◌, ◌-◌, ◌⊎◌, min, ℕ, List, [], ◌∷◌, ◌++◌, length, take, Option, None, Some, Result, Ok, Err}
use Rattle.std.specs.Option.{option_map_or}
use Rattle.edge_words.specs.Words.{text_of}
use Rattle.edge_words.specs.Reading.{whole_lines, after_lines, ◌>>=◌}
use Rattle.line_reader.specs.declared.fault.RunFault.{RunFault}
use Rattle.line_reader.specs.declared.fault.RunFault.TheVariants as fault

-- ---- a machine

-- How a text is read: what is known at its start, after one more line, and the value where all was said, from what is
-- known and what stands behind the last line feed.
pub record Machine (State Value : Type 0) : Type 0 where
  pub start : State
  pub after : State → List ℕ → Option State
  pub finished : State → List ℕ → Option Value

-- some more lines
abbrev pub after_all : {State Value : Type 0} → Machine State Value → State → List (List ℕ) → Option State
after_all m state [] = Some state
after_all m state (line ∷ lines) = m.after state line >>= λ next. after_all m next lines

abbrev pub ok_or_line : {Value : Type 0} → ℕ → Option Value → Result Value ℕ
ok_or_line n None = Err n
ok_or_line n (Some value) = Ok value

-- the value, or the number of the first line that can't follow; the first of these lines has the number n
abbrev pub told : {State Value : Type 0} → Machine State Value → ℕ → State → List (List ℕ) → List ℕ → Result Value ℕ
told m n state [] rest = ok_or_line n (m.finished state rest)
told m n state (line ∷ lines) rest =
    option_map_or (λ next. told m (n + 1) next lines rest) (m.after state line) (Err n)

-- what all lines of a text tell
abbrev pub told_of : {State Value : Type 0} → Machine State Value → List ℕ → Result Value ℕ
told_of m bytes = told m 1 m.start (whole_lines bytes) (after_lines bytes)

-- ---- the answer of a reader

-- the greatest number of a line that is told; a line behind it is told as this one
abbrev pub most_line : ℕ
most_line = 4294967295

-- what all lines tell in the words of the reader, unless memory ran out
abbrev pub Tells : {Value : Type 0} → Result Value RunFault → Result Value ℕ → Type 0
Tells (Ok value) read = read ≡ Ok value
Tells (Err (fault.Line n)) read = (m : ℕ) × (read ≡ Err m) × (n ≡ min m most_line)
Tells (Err fault.OutOfMemory) read = Unit {0}

-- read, unless memory ran out
abbrev pub IsReadAs : {Value : Type 0} → Value → Result Value RunFault → Type 0
IsReadAs value answer = (answer ≡ Ok value) ⊎ (answer ≡ Err fault.OutOfMemory)

-- ---- the first line that can't stand where it stands

-- some good text begins with these lines
pub record Begins {Value : Type 0} (Fits : Value → Type 0) (spell : Value → List (List ℕ)) (lines : List (List ℕ)) : Type 0 where
  pub value : Value
  pub fits : Fits value
  pub rest : List (List ℕ)
  pub begins : spell value ≡ lines ++ rest

-- the bytes are no good text
abbrev pub IsNone : {Value : Type 0} → (Value → Type 0) → (Value → List (List ℕ)) → List ℕ → Type 0
IsNone {Value} Fits spell bytes = (value : Value) → Fits value → bytes ≢ text_of (spell value)

-- The n-th line, counted from 1, can't stand there: a good text may begin with the lines before it, and none begins
-- with those and it. In a text that ends too early it is the line after the whole lines.
pub record IsBadLine {Value : Type 0} (Fits : Value → Type 0) (spell : Value → List (List ℕ)) (bytes : List ℕ) (n : ℕ) : Type 0 where
  pub none : IsNone Fits spell bytes
  pub first : 1 ≤ n
  pub within : n ≤ length (whole_lines bytes) + 1
  pub before : Begins Fits spell (take (n - 1) (whole_lines bytes))
  pub here : n ≤ length (whole_lines bytes) → Begins Fits spell (take n (whole_lines bytes)) → ⊥

-- The cause of a fault; want of memory has none.
abbrev pub IsFirstBad : {Value : Type 0} → (Value → Type 0) → (Value → List (List ℕ)) → List ℕ → RunFault → Type 0
IsFirstBad Fits spell bytes (fault.Line n) = (m : ℕ) × IsBadLine Fits spell bytes m × (n ≡ min m most_line)
IsFirstBad Fits spell bytes fault.OutOfMemory = Unit {0}
