use Rattle.std.specs.Prelude.{◌≡◌, ◌⊎◌, ℕ, List, Result, Ok, Err}
use Rattle.wasm_types.specs.declared.modules.Module.{Module}
use Rattle.wasm_reader.specs.Grammar.{IsModule}
use Rattle.wasm_reader.specs.Sections.{module_at}
use Rattle.wasm_validate.specs.Parts.{first_fault}
use Rattle.wasm_code.specs.Reading as reading
use Rattle.wasm_validate.specs.Faults as faults
use Rattle.wasm_accept.specs.declared.accepting.Refusal.{Refusal}
use Rattle.wasm_accept.specs.declared.accepting.Refusal.TheVariants as refusals

-- nothing was refused but by want of memory
abbrev pub ByMemory : Refusal → Type 0
ByMemory (refusals.Read fault) = fault ≡ reading.no_memory
ByMemory (refusals.Valid fault) = fault ≡ faults.memory_fault

abbrev pub OnlyMemory : {X : Type 0} → Result X Refusal → Type 0
OnlyMemory (Ok x) = Unit {0}
OnlyMemory (Err refusal) = ByMemory refusal

-- why nothing was answered: the fault of the bytes, or of the module that they spell; want of memory has no cause
abbrev pub IsCause : List ℕ → Refusal → Type 0
IsCause bytes (refusals.Read fault) = (fault ≡ reading.no_memory) ⊎ (module_at bytes ≡ Err fault)
IsCause bytes (refusals.Valid fault) = (fault ≡ faults.memory_fault) ⊎ ((m : Module) × IsModule bytes m × (first_fault m ≡ Err fault))
