-- What bytes are to this host: a module that runs here, or the first thing that stands in its way.
use Rattle.std.specs.Prelude.{◌≡◌, ◌⊎◌, ℕ, List, Result, Ok, Err}
use Rattle.wasm_types.specs.declared.modules.Module.{Module}
use Rattle.wasm_code.specs.declared.fault.ReadKind.{ReadKind}
use Rattle.wasm_code.specs.declared.fault.ReadKind.TheVariants as read_kinds
use Rattle.wasm_code.specs.declared.fault.ReadFault.{ReadFault}
use Rattle.wasm_reader.specs.Grammar.{IsModule}
use Rattle.wasm_reader.specs.Sections.{module_at}
use Rattle.wasm_validate.specs.declared.fault.ValidKind.{ValidKind}
use Rattle.wasm_validate.specs.declared.fault.ValidKind.TheVariants as valid_kinds
use Rattle.wasm_validate.specs.declared.fault.ValidFault.{ValidFault}
use Rattle.wasm_validate.specs.Valid.{IsValid}
use Rattle.wasm_validate.specs.Parts.{first_fault}
use Rattle.wasm_accept.specs.declared.accepting.Refusal.{Refusal}
use Rattle.wasm_accept.specs.declared.accepting.Refusal.TheVariants as refusals
use Rattle.edge_imports.specs.declared.links.LinkRefusal.{LinkRefusal}
use Rattle.edge_imports.specs.declared.links.LinkRefusal.TheVariants as link_refusals
use Rattle.edge_imports.specs.Links.{LinkedModule, linked}
use Rattle.edge_modules.specs.declared.fault.ModuleFault.{ModuleFault}
use Rattle.edge_modules.specs.declared.fault.ModuleFault.TheVariants as faults
use Rattle.edge_modules.specs.declared.fault.Stopped.{Stopped}
use Rattle.edge_modules.specs.declared.fault.Stopped.TheVariants as stopped

-- the module that the bytes spell; it is valid, and these are its links
pub record IsLoaded (bytes : List ℕ) (l : LinkedModule) : Type 0 where
  pub spelled : IsModule bytes l.whole
  pub valid : IsValid l.whole
  pub links_are : linked l.whole ≡ Ok l.links

-- the first fault of the bytes; or else of the module that they spell; or else, where it is valid, the first refusal
abbrev pub IsFault : List ℕ → ModuleFault → Type 0
IsFault bytes (faults.Read fault) = module_at bytes ≡ Err fault
IsFault bytes (faults.Valid fault) = (m : Module) × IsModule bytes m × (first_fault m ≡ Err fault)
IsFault bytes (faults.Link refusal) = (m : Module) × IsModule bytes m × IsValid m × (linked m ≡ Err refusal)

-- want of memory has no cause
abbrev pub IsCause : List ℕ → Stopped → Type 0
IsCause bytes (stopped.Fault fault) = IsFault bytes fault
IsCause bytes stopped.OutOfMemory = Unit {0}

-- answered with this, unless memory ran out
abbrev pub IsAnswered : LinkedModule → Result LinkedModule Stopped → Type 0
IsAnswered l (Ok answer) = answer ≡ l
IsAnswered l (Err stopped.OutOfMemory) = Unit {0}
IsAnswered l (Err (stopped.Fault fault)) = ⊥

-- want of memory is no fault
abbrev pub read_stop : ReadKind → ReadFault → Stopped
read_stop read_kinds.OutOfMemory fault = stopped.OutOfMemory
read_stop kind fault = stopped.Fault (faults.Read fault)

abbrev pub valid_stop : ValidKind → ValidFault → Stopped
valid_stop valid_kinds.OutOfMemory fault = stopped.OutOfMemory
valid_stop kind fault = stopped.Fault (faults.Valid fault)

abbrev pub stop_of : Refusal → Stopped
stop_of (refusals.Read fault) = read_stop fault.kind fault
stop_of (refusals.Valid fault) = valid_stop fault.kind fault

abbrev pub link_stop : LinkRefusal → Stopped
link_stop link_refusals.OutOfMemory = stopped.OutOfMemory
link_stop refusal = stopped.Fault (faults.Link refusal)
