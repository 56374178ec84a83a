-- Calls that wait.
use Rattle.std.specs.Prelude.{◌≡◌, ℕ, ◌+◌, ◌<◌, ◌≤◌, not, List, [], ◌∷◌, ◌++◌, length, All, Contains, IsTrue, Option, None, Some, Result, Ok, Err, if◌then◌else◌}
use mathlib.Core.List.{IsPrefix}
use Rattle.turnstile.specs.Pass.{PassView}
use Rattle.cache_types.specs.declared.calls.CacheCall.{CacheCall}
use Rattle.cache_types.specs.declared.calls.CacheCall.TheVariants.{End}
use Rattle.cache_types.specs.declared.entries.Entry.{Entry}
use Rattle.cache_types.specs.declared.entries.Stepped.{Stepped}
use Rattle.cache_types.specs.declared.entries.StepFault.TheVariants as step_fault
use Rattle.cache_types.specs.declared.replies.Reply.TheVariants.{Done}
use Rattle.cache_types.specs.Entries.{newest_first, is_not_yet}
use Rattle.cache_types.specs.Legal.{IsLegal}
use Rattle.cache_types.specs.Step.{reply_after}
use Rattle.edge_outside.specs.Clock.{ClockContent, AreReadings}
use Rattle.cache_hub.specs.declared.faults.CallFault.{CallFault}
use Rattle.cache_hub.specs.declared.faults.CallFault.TheVariants as call_fault
use Rattle.cache_hub.specs.declared.faults.UntilFault.{UntilFault}
use Rattle.cache_hub.specs.declared.faults.UntilFault.TheVariants as until_fault
use Rattle.cache_hub.specs.Calls.{Tried}

-- the answer of a try that isn't made again
abbrev pub settled_of : Result Stepped CallFault → Option (Result Stepped UntilFault)
settled_of (Ok told) = if is_not_yet told.reply then None else Some (Ok told)
settled_of (Err call_fault.Busy) = None
settled_of (Err call_fault.Full) = Some (Err until_fault.Full)
settled_of (Err call_fault.OutOfMemory) = Some (Err until_fault.OutOfMemory)

module _ {T : Type 0} where
  -- One try at each of these readings, all before the deadline: another pass had the turn, or the reply was NotYet. Nothing
  -- was gained.
  pub record Waited (before : PassView T Entry) (guest deadline : ℕ) (call : CacheCall) (readings : List ℕ) (after : PassView T Entry) : Type 0 where
    pub lost : ℕ
    pub idle : ℕ
    pub result : after ≡ record before { seen = after.seen; lost = before.lost + lost; idle = before.idle + idle }
    pub longer : IsPrefix before.seen after.seen
    pub legal : IsLegal before.seen → IsLegal after.seen
    pub count : length readings ≡ lost + idle
    pub early : All (λ r. r < deadline) readings
    pub unanswered : 0 < idle → (r : ℕ) × Contains readings r × IsTrue (is_not_yet (reply_after (newest_first after.seen) guest r call))

  -- how it ended at the last reading: by an answer to a try, or by the deadline
  abbrev pub Ended : ℕ → PassView T Entry → ℕ → ℕ → ℕ → CacheCall → Result Stepped UntilFault → PassView T Entry → Type 0
  Ended most before guest deadline last call (Ok told) after = (last < deadline) × IsTrue (not (is_not_yet told.reply)) × Tried most before guest last call (Ok told) after
  Ended most before guest deadline last call (Err until_fault.Full) after = (last < deadline) × Tried most before guest last call (Err step_fault.Full) after
  Ended most before guest deadline last call (Err until_fault.OutOfMemory) after = (last < deadline) × Tried most before guest last call (Err step_fault.OutOfMemory) after
  Ended most before guest deadline last call (Err (until_fault.Timeout reading)) after = (deadline ≤ last) × (reading ≡ last) × (after ≡ before)

  -- A call that was tried until it was answered, or the deadline came: one reading was made before each try, and no others,
  -- `last` the last of them.
  pub record CalledUntil {C : Type 0} (reads : C → ℕ → C → Type 0) (content : C → Option ClockContent) (most : ℕ) (clock : C) (before : PassView T Entry) (guest deadline : ℕ) (call : CacheCall) (last : ℕ)
      (answer : Result Stepped UntilFault) (clock' : C) (after : PassView T Entry) : Type 0 where
    pub readings : List ℕ
    pub between : PassView T Entry
    pub read : AreReadings reads content clock (readings ++ last ∷ []) clock'
    pub waited : Waited before guest deadline call readings between
    pub ended : Ended most between guest deadline last call answer after

  -- the guest's End was made, with this number, after so many losses
  abbrev pub HasEnded : ℕ → PassView T Entry → ℕ → ℕ → ℕ → PassView T Entry → Type 0
  HasEnded most before guest reading number after =
      (losses : ℕ) × Tried most (record before { lost = before.lost + losses }) guest reading End (Ok (record { number = number; reply = Done })) after
