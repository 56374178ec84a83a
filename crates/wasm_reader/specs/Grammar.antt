-- The binary grammar of modules (sections 5.2.4, 5.3 and 5.5): a relation between bytes, what the first of them spell, and
-- the bytes after it.
use Rattle.std.specs.Prelude.{◌≡◌, ◌⊎◌, ℕ, zero, suc, ◌+◌, ◌≤◌, Bool, true, false, Option, Some, None, IfSome, List, [], ◌∷◌, ◌++◌, length, replicate, slice_get, IsUtf8}
use Rattle.std.specs.Option.{option_to_list, option_map_or}
use Rattle.wasm_types.specs.declared.types.ValueType.{ValueType}
use Rattle.wasm_types.specs.declared.types.FuncType.{FuncType}
use Rattle.wasm_types.specs.declared.locals.Group.{Group}
use Rattle.wasm_types.specs.Locals.{locals_of}
use Rattle.wasm_types.specs.declared.types.Limits.{Limits}
use Rattle.wasm_types.specs.declared.types.GlobalType.{GlobalType}
use Rattle.wasm_types.specs.declared.modules.ImportKind.{ImportKind}
use Rattle.wasm_types.specs.declared.modules.ImportKind.TheVariants as kinds
use Rattle.wasm_types.specs.declared.modules.Import.{Import}
use Rattle.wasm_types.specs.declared.modules.GlobalItem.{GlobalItem}
use Rattle.wasm_types.specs.declared.modules.ExportKind.{ExportKind}
use Rattle.wasm_types.specs.declared.modules.ExportKind.TheVariants as exports
use Rattle.wasm_types.specs.declared.modules.Export.{Export}
use Rattle.wasm_types.specs.declared.modules.Element.{Element}
use Rattle.wasm_types.specs.declared.modules.Code.{Code}
use Rattle.wasm_types.specs.declared.modules.Segment.{Segment}
use Rattle.wasm_types.specs.declared.modules.Module.{Module}
use Rattle.wasm_code.specs.Grammar.{Behind, AreMany, IsU32, IsVector, IsValueType, IsExpression, AreTwo}

-- a vector with no limit of its own: its count is a u32
abbrev pub IsList : {A : Type 0} → (List ℕ → A → List ℕ → Type 0) → List ℕ → List A → List ℕ → Type 0
IsList = IsVector 4294967295

-- a vector of bytes (section 5.1.3)
abbrev pub AreBytes : List ℕ → List ℕ → List ℕ → Type 0
AreBytes bytes inside rest = IsU32 bytes (length inside) (inside ++ rest)

-- a name (section 5.2.4)
abbrev pub IsName : List ℕ → List ℕ → List ℕ → Type 0
IsName bytes name rest = AreBytes bytes name rest × IsUtf8 name

-- a function type (section 5.3.3), of one result at most
abbrev pub IsFuncType : List ℕ → FuncType → List ℕ → Type 0
IsFuncType bytes t rest = (start : List ℕ) × (mid : List ℕ) × (bytes ≡ 0x60 ∷ start) × IsList IsValueType start t.params mid × IsVector 1 IsValueType mid (option_to_list t.result) rest

-- limits (section 5.3.4), the least and the stated most each within its own
abbrev pub IsSize : ℕ → Option ℕ → List ℕ → List ℕ → Type 0
IsSize least None bytes rest = Behind 0x00 IsU32 bytes least rest
IsSize least (Some most) bytes rest = (start : List ℕ) × (bytes ≡ 0x01 ∷ start) × AreTwo start least most rest

abbrev pub IsLimits : ℕ → ℕ → List ℕ → Limits → List ℕ → Type 0
IsLimits least most bytes l rest = IsSize l.least l.most bytes rest × (l.least ≤ least) × IfSome l.most (λ n. n ≤ most)

-- a memory type (section 5.3.5): 2,048 pages at least wanted, and no more than 65,536 stated
abbrev pub IsMemory : List ℕ → Limits → List ℕ → Type 0
IsMemory = IsLimits 2048 65536

-- a table type (section 5.3.6)
abbrev pub IsTable : List ℕ → Limits → List ℕ → Type 0
IsTable = Behind 0x70 (IsLimits 65536 4294967295)

abbrev pub flag_byte : Bool → ℕ
flag_byte false = 0x00
flag_byte true = 0x01

-- a global type (section 5.3.7)
abbrev pub IsGlobalType : List ℕ → GlobalType → List ℕ → Type 0
IsGlobalType bytes g rest = IsValueType bytes g.kind (flag_byte g.mutable ∷ rest)

-- an import (section 5.5.5)
abbrev pub IsImportKind : List ℕ → ImportKind → List ℕ → Type 0
IsImportKind bytes (kinds.Function t) rest = Behind 0x00 IsU32 bytes t rest
IsImportKind bytes (kinds.Table l) rest = Behind 0x01 IsTable bytes l rest
IsImportKind bytes (kinds.Memory l) rest = Behind 0x02 IsMemory bytes l rest
IsImportKind bytes (kinds.Global g) rest = Behind 0x03 IsGlobalType bytes g rest

abbrev pub IsImport : List ℕ → Import → List ℕ → Type 0
IsImport bytes i rest = (first : List ℕ) × (second : List ℕ) × IsName bytes i.module first × IsName first i.name second × IsImportKind second i.kind rest

-- a global (section 5.5.9)
abbrev pub IsGlobal : List ℕ → GlobalItem → List ℕ → Type 0
IsGlobal bytes g rest = (mid : List ℕ) × IsGlobalType bytes g.kind mid × IsExpression mid g.start rest

abbrev pub export_byte : ExportKind → ℕ
export_byte exports.Function = 0x00
export_byte exports.Table = 0x01
export_byte exports.Memory = 0x02
export_byte exports.Global = 0x03

-- an export (section 5.5.10)
abbrev pub IsExport : List ℕ → Export → List ℕ → Type 0
IsExport bytes e rest = (mid : List ℕ) × IsName bytes e.name (export_byte e.kind ∷ mid) × IsU32 mid e.index rest

-- an element segment (section 5.5.12)
abbrev pub IsElement : List ℕ → Element → List ℕ → Type 0
IsElement bytes e rest = (first : List ℕ) × (second : List ℕ) × IsU32 bytes e.table first × IsExpression first e.offset second × IsList IsU32 second e.functions rest

-- a data segment (section 5.5.14)
abbrev pub IsSegment : List ℕ → Segment → List ℕ → Type 0
IsSegment bytes s rest = (first : List ℕ) × (second : List ℕ) × IsU32 bytes s.memory first × IsExpression first s.offset second × AreBytes second s.bytes rest

-- a size, and so many bytes that spell the value, all of them (sections 5.5.2 and 5.5.13)
abbrev pub IsSized : {A : Type 0} → (List ℕ → A → List ℕ → Type 0) → List ℕ → A → List ℕ → Type 0
IsSized Is bytes x rest = (inside : List ℕ) × AreBytes bytes inside rest × Is inside x []

-- locals (section 5.5.13): groups of a count and a type
abbrev pub IsGroup : List ℕ → Group → List ℕ → Type 0
IsGroup bytes g rest = (mid : List ℕ) × IsU32 bytes g.count mid × IsValueType mid g.kind rest

abbrev pub AreLocals : List ℕ → List ValueType → List ℕ → Type 0
AreLocals bytes locals rest = (groups : List Group) × (mid : List ℕ) × IsU32 bytes (length groups) mid × AreMany IsGroup mid groups rest × (locals ≡ locals_of groups)

-- how many parameters the function at an index has, none where the parts before don't give its type
abbrev pub params_of : List FuncType → List ℕ → ℕ → ℕ
params_of types functions index = option_map_or (λ t. option_map_or (λ f. length f.params) (slice_get types t) 0) (slice_get functions index) 0

-- a function's code (section 5.5.13): with its parameters it has 4,096 locals at most
abbrev pub IsBody : ℕ → List ℕ → Code → List ℕ → Type 0
IsBody params bytes c rest = (params + length c.locals ≤ 4096) × ((mid : List ℕ) × AreLocals bytes c.locals mid × IsExpression mid c.body rest)

-- the code of the functions from an index on
abbrev pub AreBodies : List FuncType → List ℕ → ℕ → List ℕ → List Code → List ℕ → Type 0
AreBodies types functions index bytes [] rest = bytes ≡ rest
AreBodies types functions index bytes (c ∷ cs) rest = (mid : List ℕ) × IsSized (IsBody (params_of types functions index)) bytes c mid × AreBodies types functions (suc index) mid cs rest

abbrev pub AreCode : List FuncType → List ℕ → List ℕ → List Code → List ℕ → Type 0
AreCode types functions bytes cs rest = (length cs ≤ 65536) × ((mid : List ℕ) × IsU32 bytes (length cs) mid × AreBodies types functions 0 mid cs rest)

-- a start section's function (section 5.5.11)
abbrev pub IsStart : List ℕ → Option ℕ → List ℕ → Type 0
IsStart bytes None rest = ⊥
IsStart bytes (Some function) rest = IsU32 bytes function rest

-- custom sections (section 5.5.3), so many: each has a name, and any bytes after it
abbrev pub IsCustom : List ℕ → List ℕ → Type 0
IsCustom bytes rest = (start : List ℕ) × (inside : List ℕ) × (name : List ℕ) × (after : List ℕ) × (bytes ≡ 0 ∷ start) × AreBytes start inside rest × IsName inside name after

abbrev pub AreCustoms : ℕ → List ℕ → List ℕ → Type 0
AreCustoms zero bytes rest = bytes ≡ rest
AreCustoms (suc n) bytes rest = (mid : List ℕ) × IsCustom bytes mid × AreCustoms n mid rest

-- a section that may be left out, and then stands for none (section 5.5.2)
abbrev pub IsOptional : {A : Type 0} → ℕ → A → (List ℕ → A → List ℕ → Type 0) → List ℕ → A → List ℕ → Type 0
IsOptional id none Is bytes x rest = ((x ≡ none) × (bytes ≡ rest)) ⊎ Behind id (IsSized Is) bytes x rest

-- custom sections, and then the section
abbrev pub Section : {A : Type 0} → ℕ → A → (List ℕ → A → List ℕ → Type 0) → A → List ℕ → List ℕ → Type 0
Section id none Is x bytes rest = (n : ℕ) × (mid : List ℕ) × AreCustoms n bytes mid × IsOptional id none Is mid x rest

infixr 5 ◌>>◌
abbrev pub ◌>>◌ : (List ℕ → List ℕ → Type 0) → (List ℕ → List ℕ → Type 0) → List ℕ → List ℕ → Type 0
(First >> Second) bytes rest = (mid : List ℕ) × First bytes mid × Second mid rest

-- custom sections up to the end
abbrev pub Ends : List ℕ → List ℕ → Type 0
Ends bytes rest = (n : ℕ) × AreCustoms n bytes rest × (rest ≡ [])

-- a module (section 5.5.15): magic, version, and the sections in this order
abbrev pub AreSections : Module → List ℕ → List ℕ → Type 0
AreSections m =
    Section 1 [] (IsVector 65536 IsFuncType) m.types
    >> Section 2 [] (IsList IsImport) m.imports
    >> Section 3 [] (IsVector 65536 IsU32) m.functions
    >> Section 4 [] (IsList IsTable) m.tables
    >> Section 5 [] (IsList IsMemory) m.memories
    >> Section 6 [] (IsVector 4096 IsGlobal) m.globals
    >> Section 7 [] (IsList IsExport) m.exports
    >> Section 8 None IsStart m.start
    >> Section 9 [] (IsList IsElement) m.elements
    >> Section 10 [] (AreCode m.types m.functions) m.code
    >> Section 11 [] (IsList IsSegment) m.segments
    >> Ends

pub record IsModule (bytes : List ℕ) (m : Module) : Type 0 where
  pub size : length bytes ≤ 16777216
  pub sections : (start : List ℕ) × (bytes ≡ 0x00 ∷ 0x61 ∷ 0x73 ∷ 0x6D ∷ 0x01 ∷ 0x00 ∷ 0x00 ∷ 0x00 ∷ start) × AreSections m start []
  pub same_count : length m.functions ≡ length m.code
