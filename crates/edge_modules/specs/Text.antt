-- What is told of modules.
use Rattle.std.specs.Prelude.{ℕ, List, [], ◌∷◌, ◌++◌, length, codes, decimal}
use Rattle.wasm_types.specs.declared.types.Limits.{Limits}
use Rattle.wasm_types.specs.declared.modules.Module.{Module}
use Rattle.wasm_code.specs.declared.fault.ReadKind.{ReadKind}
use Rattle.wasm_code.specs.declared.fault.ReadKind.TheVariants as kinds
use Rattle.wasm_code.specs.declared.fault.ReadFault.{ReadFault}
use Rattle.wasm_validate.specs.Text as validation
use Rattle.edge_imports.specs.Text as linking
use Rattle.edge_modules.specs.declared.fault.ModuleFault.{ModuleFault}
use Rattle.edge_modules.specs.declared.fault.ModuleFault.TheVariants as faults

abbrev pub kind_name : ReadKind → List ℕ
kind_name kinds.Truncated = codes "truncated"
kind_name kinds.BadMagic = codes "bad-magic"
kind_name kinds.BadVersion = codes "bad-version"
kind_name kinds.SectionOrder = codes "section-order"
kind_name kinds.SectionSize = codes "section-size"
kind_name kinds.BadLeb = codes "bad-leb"
kind_name kinds.BadName = codes "bad-name"
kind_name kinds.BadForm = codes "bad-form"
kind_name kinds.TooLarge = codes "too-large"
kind_name kinds.BadOpcode = codes "bad-opcode"
kind_name kinds.FloatUsed = codes "float-used"
kind_name kinds.NestedTooDeep = codes "nested-too-deep"
kind_name kinds.CountMismatch = codes "count-mismatch"
kind_name kinds.OutOfMemory = codes "out-of-memory"

abbrev pub read_text : ReadFault → List ℕ
read_text fault = codes "module: " ++ (kind_name fault.kind ++ (codes " at " ++ decimal fault.place))

abbrev pub fault_text : ModuleFault → List ℕ
fault_text (faults.Read fault) = read_text fault
fault_text (faults.Valid fault) = validation.fault_text fault
fault_text (faults.Link refusal) = linking.refusal_text refusal

-- the least size in pages of a module's memory, 0 where it has none
abbrev pub pages_of : List Limits → ℕ
pages_of [] = 0
pages_of (memory ∷ memories) = memory.least

-- the line that tells what a module is: its defined functions, its imports, and its least memory
abbrev pub module_line : Module → List ℕ
module_line m =
    codes "ok functions " ++ (decimal (length m.functions)
    ++ (codes " imports " ++ (decimal (length m.imports)
    ++ (codes " pages " ++ (decimal (pages_of m.memories) ++ 10 ∷ [])))))
