-- Valid modules (sections 3.2 and 3.4), within the limit on the height of operands.
use Rattle.std.specs.Prelude.{◌≡◌, ℕ, ◌+◌, ◌≤◌, ◌<◌, false, Option, Some, None, List, [], ◌∷◌, ◌++◌, length, slice_get}
use Rattle.wasm_types.specs.declared.types.ValueType.{ValueType}
use Rattle.wasm_types.specs.declared.types.ValueType.TheVariants.{I32}
use Rattle.wasm_types.specs.declared.types.FuncType.{FuncType}
use Rattle.wasm_types.specs.declared.types.GlobalType.{GlobalType}
use Rattle.wasm_types.specs.declared.types.Limits.{Limits}
use Rattle.wasm_types.specs.declared.instructions.Instr.{Instr}
use Rattle.wasm_types.specs.declared.instructions.Instr.TheVariants.{GlobalGet, Const}
use Rattle.wasm_types.specs.declared.modules.ImportKind.{ImportKind}
use Rattle.wasm_types.specs.declared.modules.ImportKind.TheVariants as kinds
use Rattle.wasm_types.specs.declared.modules.ExportKind.{ExportKind}
use Rattle.wasm_types.specs.declared.modules.ExportKind.TheVariants as exports
use Rattle.wasm_types.specs.declared.modules.Export.{Export}
use Rattle.wasm_types.specs.declared.modules.Element.{Element}
use Rattle.wasm_types.specs.declared.modules.Code.{Code}
use Rattle.wasm_types.specs.declared.modules.Segment.{Segment}
use Rattle.wasm_types.specs.declared.modules.Module.{Module}
use Rattle.wasm_types.specs.Nested.{Body, Done, Goes, InBlock, InLoop, InIf, InIfElse, Nests}
use Rattle.wasm_validate.specs.Rules.{Context}
use Rattle.wasm_validate.specs.Typing.{AreTyped, IsTypedBody}
use Rattle.wasm_validate.specs.Spaces.{functions_of, globals_in, globals_of, tables_of, memories_of, context_of}

-- each item of a list, with its index, is so
abbrev pub AllAt : {A : Type 0} → (ℕ → A → Type 0) → ℕ → List A → Type 0
AllAt P k [] = Unit {0}
AllAt P k (x ∷ xs) = P k x × AllAt P (k + 1) xs

-- limits within a range (section 3.2.1)
abbrev pub IsWithin : ℕ → Option ℕ → ℕ → Type 0
IsWithin least None range = least ≤ range
IsWithin least (Some most) range = (least ≤ range) × (most ≤ range) × (least ≤ most)

abbrev pub AreLimits : ℕ → Limits → Type 0
AreLimits range l = IsWithin l.least l.most range

-- ---- constant expressions (section 3.3.7)

abbrev pub IsConstant : List GlobalType → Instr → Type 0
IsConstant globals (Const v) = Unit {0}
IsConstant globals (GlobalGet x) = (g : GlobalType) × (slice_get globals x ≡ Some g) × (g.mutable ≡ false)
IsConstant globals i = ⊥

abbrev pub AreConstant : List GlobalType → Body → Type 0
AreConstant globals Done = Unit {0}
AreConstant globals (Goes i p rest) = IsConstant globals i × AreConstant globals rest
AreConstant globals (InBlock r inner rest) = ⊥
AreConstant globals (InLoop r inner rest) = ⊥
AreConstant globals (InIf r inner rest) = ⊥
AreConstant globals (InIfElse r first second rest) = ⊥

-- what a constant expression stands in: it sees globals alone
abbrev pub sees : List GlobalType → Context
sees globals = record { types = []; functions = []; globals = globals; tables = 0; memories = 0; locals = []; result = None }

-- a constant expression of a type
abbrev pub GivesConstant : List GlobalType → ValueType → List Instr → Type 0
GivesConstant globals t code = (body : Body) × Nests code body × AreConstant globals body × AreTyped body (sees globals) [] [] (t ∷ [])

-- ---- the parts of a module

-- the type of an imported function is there (section 3.2.2)
abbrev pub HasType : List FuncType → ImportKind → Type 0
HasType types (kinds.Function t) = t < length types
HasType types kind = Unit {0}

-- what an export names is there (section 3.4.6)
abbrev pub count_of : Module → ExportKind → ℕ
count_of m exports.Function = length (functions_of m)
count_of m exports.Table = length (tables_of m)
count_of m exports.Memory = length (memories_of m)
count_of m exports.Global = length (globals_of m)

-- no export before it has its name
abbrev pub IsNew : List Export → ℕ → Export → Type 0
IsNew all k e = (j : ℕ) (d : Export) → j < k → slice_get all j ≡ Some d → d.name ≡ e.name → ⊥

abbrev pub IsExport : Module → ℕ → Export → Type 0
IsExport m k e = (e.index < count_of m e.kind) × IsNew m.exports k e

-- a start function takes and gives nothing (section 3.4.5)
abbrev pub IsStart : Module → Option ℕ → Type 0
IsStart m None = Unit {0}
IsStart m (Some f) = (t : ℕ) × (kind : FuncType) × (slice_get (functions_of m) f ≡ Some t) × (slice_get m.types t ≡ Some kind) × (kind.params ≡ []) × (kind.result ≡ None)

-- an element segment (section 3.4.4)
abbrev pub IsElement : Module → ℕ → Element → Type 0
IsElement m k e = (e.table < length (tables_of m)) × GivesConstant (globals_of m) I32 e.offset × AllAt (λ _ f. f < length (functions_of m)) 0 e.functions

-- a function (section 3.4.1): its locals are its parameters and those that it declares
abbrev pub IsFunction : Module → ℕ → Code → Type 0
IsFunction m k c =
    (t : ℕ) × (kind : FuncType) × (slice_get m.functions k ≡ Some t) × (slice_get m.types t ≡ Some kind)
    × ((body : Body) × Nests c.body body × IsTypedBody (context_of m (kind.params ++ c.locals) kind.result) body)

-- a data segment (section 3.4.4)
abbrev pub IsSegment : Module → ℕ → Segment → Type 0
IsSegment m k s = (s.memory < length (memories_of m)) × GivesConstant (globals_of m) I32 s.offset

-- a module (section 3.4.10)
pub record IsValid (m : Module) : Type 0 where
  pub imports : AllAt (λ _ i. HasType m.types i.kind) 0 m.imports
  pub functions : AllAt (λ _ t. t < length m.types) 0 m.functions
  pub tables : AllAt (λ _ l. AreLimits 4294967296 l) 0 (tables_of m)
  pub one_table : length (tables_of m) ≤ 1
  pub memories : AllAt (λ _ l. AreLimits 65536 l) 0 (memories_of m)
  pub one_memory : length (memories_of m) ≤ 1
  pub globals : AllAt (λ _ g. GivesConstant (globals_in m.imports) g.kind.kind g.start) 0 m.globals
  pub exports : AllAt (IsExport m) 0 m.exports
  pub start : IsStart m m.start
  pub elements : AllAt (IsElement m) 0 m.elements
  pub code : AllAt (IsFunction m) 0 m.code
  pub data_segments : AllAt (IsSegment m) 0 m.segments
