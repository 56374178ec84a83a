-- Readings of a clock, one after the other.
use Rattle.std.proofs.Common.{ℕ, List, [], ◌∷◌, ◌++◌, map, Option, subst, sym}
use Rattle.std.proofs.lemmas.List.{map-append}
use Rattle.edge_outside.specs.Made.{Made, made_none, made_one, made_then}
use Rattle.edge_outside.specs.Clock.{ClockContent, IsReading, AreReadings}

module _ {C : Type 0} (reads : C → ℕ → C → Type 0) (content : C → Option ClockContent) where
  -- no reading
  pub no_readings : (clock : C) → AreReadings reads content clock [] clock
  no_readings clock = made_none (IsReading reads content) clock

  -- readings, and one more
  pub one_reading_more : (before : C) (readings : List ℕ) (between : C) (reading : ℕ) (after : C)
      → AreReadings reads content before readings between → IsReading reads content between tt reading after
      → AreReadings reads content before (readings ++ reading ∷ []) after
  one_reading_more before readings between reading after made one =
      subst (λ calls. Made (IsReading reads content) before calls after) (sym (map-append (λ r. (tt, r)) readings (reading ∷ [])))
      (made_then (IsReading reads content) before (map (λ r. (tt, r)) readings) between ((tt, reading) ∷ []) after made
      (made_one (IsReading reads content) between tt reading after one))
