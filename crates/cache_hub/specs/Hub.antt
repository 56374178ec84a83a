-- The answers of the hub's calls.
use Rattle.std.specs.Prelude.{◌≡◌, ℕ, ◌+◌, List, Contains, Result, Ok, Err}
use Rattle.turnstile.specs.Pass.{PassView}
use Rattle.turnstile.specs.declared.turnstile.Busy.{Busy}
use Rattle.cache_types.specs.declared.calls.CacheCall.{CacheCall}
use Rattle.cache_types.specs.declared.entries.Entry.{Entry}
use Rattle.cache_types.specs.declared.entries.Stepped.{Stepped}
use Rattle.cache_types.specs.declared.entries.StepFault.{StepFault}
use Rattle.cache_types.specs.declared.entries.StepFault.TheVariants as step_fault
use Rattle.cache_hub.specs.declared.faults.CallFault.{CallFault}
use Rattle.cache_hub.specs.declared.faults.CallFault.TheVariants as call_fault
use Rattle.cache_hub.specs.Calls.{Tried}

-- what a turn's answer is to a caller of the hub
abbrev pub told_of : Result (Result Stepped StepFault) Busy → Result Stepped CallFault
told_of (Ok (Ok told)) = Ok told
told_of (Ok (Err step_fault.Full)) = Err call_fault.Full
told_of (Ok (Err step_fault.OutOfMemory)) = Err call_fault.OutOfMemory
told_of (Err busy) = Err call_fault.Busy

module _ {T : Type 0} where
  -- one try: a step, or another pass had the turn
  abbrev pub Called : ℕ → PassView T Entry → ℕ → ℕ → CacheCall → Result Stepped CallFault → PassView T Entry → Type 0
  Called most before guest reading call (Ok told) after = Tried most before guest reading call (Ok told) after
  Called most before guest reading call (Err call_fault.Full) after = Tried most before guest reading call (Err step_fault.Full) after
  Called most before guest reading call (Err call_fault.OutOfMemory) after = Tried most before guest reading call (Err step_fault.OutOfMemory) after
  Called most before guest reading call (Err call_fault.Busy) after = after ≡ record before { lost = before.lost + 1 }

-- no number stands in both lists
abbrev pub AreApart : List (ℕ × Entry) → List (ℕ × Entry) → Type 0
AreApart one other = (number : ℕ) (e f : Entry) → Contains one (number, e) → ¬ Contains other (number, f)
