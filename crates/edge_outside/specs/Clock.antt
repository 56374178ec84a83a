-- Readings of a clock, in nanoseconds.
use Rattle.std.specs.Prelude.{◌≡◌, ℕ, List, [], ◌∷◌, drop, map, Option, None, IsSomeAnd, MatchOption}
use Rattle.edge_outside.specs.Faults.{raised}
use Rattle.edge_outside.specs.Made.{Made}

-- the readings that a clock has left to give, the one that it gave last (0 before the first), and how many it gave
pub record ClockContent : Type 0 where
  pub left : List ℕ
  pub last : ℕ
  pub made : ℕ

-- the next reading: the first of those that are left, or where none is the last one again
abbrev pub next_reading : List ℕ → ℕ → ℕ
next_reading [] last = last
next_reading (reading ∷ left) last = reading

-- one reading
pub record Tells (old : ClockContent) (reading : ℕ) (new : ClockContent) : Type 0 where
  pub next : reading ≡ next_reading old.left old.last
  pub left : new.left ≡ drop 1 old.left
  pub last : new.last ≡ reading
  pub made : new.made ≡ raised old.made

-- the same of a clock that may not tell
abbrev pub TellsWhereTold : Option ClockContent → ℕ → Option ClockContent → Type 0
TellsWhereTold old reading new = MatchOption old (new ≡ None) (λ content. IsSomeAnd new (Tells content reading))

-- One reading as any clock makes it: `reads` says that it was made, and where the content is told it is the next. Nothing
-- is asked.
pub record IsReading {C : Type 0} (reads : C → ℕ → C → Type 0) (content : C → Option ClockContent) (before : C) (asked : Unit {0}) (reading : ℕ) (after : C) : Type 0 where
  pub made : reads before reading after
  pub told : TellsWhereTold (content before) reading (content after)

-- these readings were made, in this order and no others
abbrev pub AreReadings : {C : Type 0} → (C → ℕ → C → Type 0) → (C → Option ClockContent) → C → List ℕ → C → Type 0
AreReadings reads content before readings after = Made (IsReading reads content) before (map (λ reading. (tt, reading)) readings) after
