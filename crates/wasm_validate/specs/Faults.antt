-- The first fault of a module, and where it stands.
use Rattle.std.specs.Prelude.{◌≡◌, ◌⊎◌, ℕ, min, Result, Ok, Err}
use Rattle.wasm_validate.specs.declared.fault.ValidKind.{ValidKind}
use Rattle.wasm_validate.specs.declared.fault.ValidKind.TheVariants.{OutOfMemory}
use Rattle.wasm_validate.specs.declared.fault.Part.{Part}
use Rattle.wasm_validate.specs.declared.fault.Part.TheVariants as parts
use Rattle.wasm_validate.specs.declared.fault.ValidFault.{ValidFault}
use Rattle.basics.specs.declared.stop.Stop.{Stop}
use Rattle.basics.specs.declared.stop.Stop.TheVariants as stops

-- a number too great to tell is told as the greatest
abbrev pub fault_in : Part → ℕ → ValidKind × ℕ → ValidFault
fault_in part index told = record { kind = told.0; part = part; index = min index 4294967295; at = min told.1 4294967295 }

abbrev pub halt_in : Part → ℕ → Stop ValidKind → ℕ → Stop ValidFault
halt_in part index stops.Memory at = stops.Memory
halt_in part index (stops.Fault kind) at = stops.Fault (fault_in part index (kind, at))

-- a fault, with its part and its index
abbrev pub in_part : {A : Type 0} → Part → ℕ → Result A (ValidKind × ℕ) → Result A ValidFault
in_part part index (Ok x) = Ok x
in_part part index (Err told) = Err (fault_in part index told)

-- The same of a call that tells want of memory as a fault.
abbrev pub memory_fault : ValidFault
memory_fault = record { kind = OutOfMemory; part = parts.Import; index = 0; at = 0 }

abbrev pub told_of : Stop ValidFault → ValidFault
told_of stops.Memory = memory_fault
told_of (stops.Fault fault) = fault

abbrev pub Answers : {X : Type 0} → Result X ValidFault → Result (Unit {0}) ValidFault → Type 0
Answers (Ok x) check = check ≡ Ok tt
Answers (Err fault) check = (fault ≡ memory_fault) ⊎ (check ≡ Err fault)

-- no fault was told but want of memory
abbrev pub Passes : {X : Type 0} → Result X ValidFault → Type 0
Passes (Ok x) = Unit {0}
Passes (Err fault) = fault ≡ memory_fault
