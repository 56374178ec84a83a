-- The texts of faults.
use Rattle.std.specs.Prelude.{ℕ, List, ◌++◌, codes, decimal}
use Rattle.wasm_validate.specs.declared.fault.ValidKind.{ValidKind}
use Rattle.wasm_validate.specs.declared.fault.ValidKind.TheVariants as kinds
use Rattle.wasm_validate.specs.declared.fault.Part.{Part}
use Rattle.wasm_validate.specs.declared.fault.Part.TheVariants as parts
use Rattle.wasm_validate.specs.declared.fault.ValidFault.{ValidFault}

abbrev pub kind_name : ValidKind → List ℕ
kind_name kinds.UnknownType = codes "unknown-type"
kind_name kinds.UnknownFunction = codes "unknown-function"
kind_name kinds.UnknownTable = codes "unknown-table"
kind_name kinds.UnknownMemory = codes "unknown-memory"
kind_name kinds.UnknownGlobal = codes "unknown-global"
kind_name kinds.UnknownLocal = codes "unknown-local"
kind_name kinds.UnknownLabel = codes "unknown-label"
kind_name kinds.TypeMismatch = codes "type-mismatch"
kind_name kinds.ImmutableGlobal = codes "immutable-global"
kind_name kinds.BadAlign = codes "bad-align"
kind_name kinds.BadConst = codes "bad-const"
kind_name kinds.BadLimits = codes "bad-limits"
kind_name kinds.BadStart = codes "bad-start"
kind_name kinds.DuplicateExport = codes "duplicate-export"
kind_name kinds.MoreThanOne = codes "more-than-one"
kind_name kinds.TooHigh = codes "too-high"
kind_name kinds.OutOfMemory = codes "out-of-memory"

abbrev pub part_name : Part → List ℕ
part_name parts.Import = codes "import"
part_name parts.Func = codes "func"
part_name parts.Table = codes "table"
part_name parts.Memory = codes "memory"
part_name parts.Global = codes "global"
part_name parts.Export = codes "export"
part_name parts.Start = codes "start"
part_name parts.Element = codes "element"
part_name parts.Code = codes "function"
part_name parts.Data = codes "data"

-- an instruction of a function has a number, the other parts have none
abbrev pub text_at : Part → ValidKind → ℕ → ℕ → List ℕ
text_at parts.Code kind index at = codes "module: " ++ kind_name kind ++ codes " in function " ++ decimal index ++ codes " at " ++ decimal at
text_at part kind index at = codes "module: " ++ kind_name kind ++ codes " in " ++ part_name part ++ codes " " ++ decimal index

abbrev pub fault_text : ValidFault → List ℕ
fault_text f = text_at f.part f.kind f.index f.at
