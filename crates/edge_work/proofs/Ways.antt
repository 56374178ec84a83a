-- Readings and writes that may be followed by others.
use Rattle.std.proofs.Common.{ℕ, List, [], ◌∷◌, ◌++◌, Option, Result}
use Rattle.turnstile.specs.Pass.{PassView}
use Rattle.cache_types.specs.declared.entries.Entry.{Entry}
use Rattle.edge_outside.specs.declared.fault.Failed.{Failed}
use Rattle.edge_outside.specs.Clock.{ClockContent, AreReadings, TellsWhereTold}
use Rattle.edge_outside.specs.Made.{Made, made_none, made_then}
use Rattle.edge_outside.specs.Sink.{SinkContent, Write, IsWrite}
use Rattle.edge_outside.proofs.Readings.{no_readings, one_reading_more}
use Rattle.edge_work.proofs.Lists.{readings_both}

-- which readings and writes were made, how many faults there were, and what a pass has of the one history
pub record Ways (T C K : Type 0) : Type 1 where
  pub Reads : C → List ℕ → C → Type 0
  pub Writes : K → List Write → K → Type 0
  pub faults : K → ℕ
  pub Share : PassView T Entry → Type 0
  pub reads_both : (before : C) (xs : List ℕ) (between : C) (ys : List ℕ) (after : C) → Reads before xs between → Reads between ys after → Reads before (xs ++ ys) after
  pub writes_none : (k : K) → Writes k [] k
  pub writes_both : (before : K) (xs : List Write) (between : K) (ys : List Write) (after : K) → Writes before xs between → Writes between ys after → Writes before (xs ++ ys) after

-- those of a clock and a sink
abbrev pub ways : {T C K : Type 0} → (C → ℕ → C → Type 0) → (C → Option ClockContent) → (K → List ℕ → Result (Unit {0}) Failed → K → Type 0) → (K → Option SinkContent) → (K → ℕ) → (PassView T Entry → Type 0) → Ways T C K
ways reads content writes held faults Share = record {
  Reads = AreReadings reads content;
  Writes = Made (IsWrite writes held);
  faults = faults;
  Share = Share;
  reads_both = readings_both reads content;
  writes_none = made_none (IsWrite writes held);
  writes_both = made_then (IsWrite writes held);
}

-- one reading
pub one_reading : {C : Type 0} (reads : C → ℕ → C → Type 0) (content : C → Option ClockContent) (before : C) (reading : ℕ) (after : C) → reads before reading after → TellsWhereTold (content before) reading (content after) → AreReadings reads content before (reading ∷ []) after
one_reading reads content before reading after made told = one_reading_more reads content before [] before reading after (no_readings reads content before) (record { made = made; told = told })
