-- The parts of a module in the order in which they are checked, and the first fault.
use Rattle.std.specs.Prelude.{ℕ, ◌+◌, nat_lt, nat_le, ◌&&◌, ◌||◌, Bool, true, false, if◌then◌else◌, Option, Some, None, Result, Ok, Err, List, [], ◌∷◌, ◌++◌, length, take, slice_get}
use Rattle.std.specs.Str.{bytes_eq}
use Rattle.wasm_types.specs.declared.types.ValueType.{ValueType}
use Rattle.wasm_types.specs.declared.types.ValueType.TheVariants.{I32, I64}
use Rattle.wasm_types.specs.Types.{same_result}
use Rattle.wasm_types.specs.declared.types.FuncType.{FuncType}
use Rattle.wasm_types.specs.declared.types.GlobalType.{GlobalType}
use Rattle.wasm_types.specs.declared.types.Limits.{Limits}
use Rattle.wasm_types.specs.declared.instructions.Instr.{Instr}
use Rattle.wasm_types.specs.declared.instructions.Instr.TheVariants.{GlobalGet, Const, End}
use Rattle.wasm_types.specs.declared.modules.ImportKind.{ImportKind}
use Rattle.wasm_types.specs.declared.modules.ImportKind.TheVariants as kinds
use Rattle.wasm_types.specs.declared.modules.Import.{Import}
use Rattle.wasm_types.specs.declared.modules.GlobalItem.{GlobalItem}
use Rattle.wasm_types.specs.declared.modules.ExportKind.{ExportKind}
use Rattle.wasm_types.specs.declared.modules.ExportKind.TheVariants as exports
use Rattle.wasm_types.specs.declared.modules.Export.{Export}
use Rattle.wasm_types.specs.declared.modules.Element.{Element}
use Rattle.wasm_types.specs.declared.modules.Code.{Code}
use Rattle.wasm_types.specs.declared.modules.Segment.{Segment}
use Rattle.wasm_types.specs.declared.modules.Module.{Module}
use Rattle.wasm_validate.specs.declared.fault.ValidKind.{ValidKind}
use Rattle.wasm_validate.specs.declared.fault.ValidKind.TheVariants.{UnknownType, UnknownFunction, UnknownTable, UnknownMemory, UnknownGlobal, TypeMismatch, BadConst, BadLimits, BadStart, DuplicateExport, MoreThanOne, TooHigh}
use Rattle.wasm_validate.specs.declared.fault.Part.{Part}
use Rattle.wasm_validate.specs.declared.fault.Part.TheVariants as parts
use Rattle.wasm_validate.specs.declared.fault.ValidFault.{ValidFault}
use Rattle.wasm_validate.specs.Lists.{head_of, tail_of, is_nil}
use Rattle.wasm_validate.specs.Steps.{◌>>=◌, found, told}
use Rattle.wasm_validate.specs.Faults.{in_part}
use Rattle.wasm_validate.specs.Rules.{Context, type_of, type_at, function_at}
use Rattle.wasm_validate.specs.Scanning.{scan, outset}
use Rattle.wasm_validate.specs.Spaces.{functions_in, globals_in, sizes_in, context_of}

abbrev pub Checked : Type 0
Checked = Result (Unit {0}) ValidKind

abbrev pub needs : Bool → ValidKind → Checked
needs b kind = if b then Ok tt else Err kind

-- the first fault of items, one after the other
abbrev pub each : {A : Type 0} → (ℕ → A → Result (Unit {0}) ValidFault) → ℕ → List A → Result (Unit {0}) ValidFault
each check k [] = Ok tt
each check k (x ∷ xs) = check k x >>= λ _. each check (k + 1) xs

-- the same of items whose faults are told with their index
abbrev pub placed : {A : Type 0} → Part → (ℕ → A → Checked) → ℕ → A → Result (Unit {0}) ValidFault
placed part check k x = in_part part k (told 0 (check k x))

abbrev pub every : {A : Type 0} → Part → (ℕ → A → Checked) → List A → Result (Unit {0}) ValidFault
every part check xs = each (placed part check) 0 xs

-- ---- function types

abbrev pub import_type : List FuncType → ImportKind → Checked
import_type types (kinds.Function t) = needs (nat_lt t (length types)) UnknownType
import_type types kind = Ok tt

-- ---- tables and memories

abbrev pub within : ℕ → ℕ → Option ℕ → Bool
within range least None = nat_le least range
within range least (Some most) = nat_le least range && (nat_le most range && nat_le least most)

-- limits, where so many of the kind stand before
abbrev pub size : ℕ → ℕ → Limits → Checked
size range seen l = needs (within range l.least l.most) BadLimits >>= λ _. needs (nat_lt seen 1) MoreThanOne

-- how many there are of the kind, or the first fault
abbrev pub sizes : Part → ℕ → ℕ → ℕ → List (Option Limits) → Result ℕ ValidFault
sizes part range k seen [] = Ok seen
sizes part range k seen (None ∷ ls) = sizes part range (k + 1) seen ls
sizes part range k seen (Some l ∷ ls) = in_part part k (told 0 (size range seen l)) >>= λ _. sizes part range (k + 1) (seen + 1) ls

abbrev pub all_present : List Limits → List (Option Limits)
all_present [] = []
all_present (l ∷ ls) = Some l ∷ all_present ls

-- ---- constant expressions

abbrev pub one_constant : List GlobalType → Instr → Result ValueType ValidKind
one_constant globals (Const v) = Ok (type_of v)
one_constant globals (GlobalGet x) = found UnknownGlobal (slice_get globals x) >>= λ g. if g.mutable then Err BadConst else Ok g.kind
one_constant globals i = Err BadConst

abbrev pub is_end : Instr → Bool
is_end End = true
is_end i = false

-- the operands after an expression, the topmost first
abbrev pub constants : List Instr → List GlobalType → List ValueType → Result (List ValueType) ValidKind
constants [] globals seen = Ok seen
constants (i ∷ code) globals seen =
    if is_end i then Ok seen else (one_constant globals i >>= λ t. if nat_lt 1024 (1 + length seen) then Err TooHigh else constants code globals (t ∷ seen))

abbrev pub is_one : ValueType → List ValueType → Bool
is_one t ts = same_result (Some t) (head_of ts) && is_nil (tail_of ts)

abbrev pub constant : List GlobalType → ValueType → List Instr → Checked
constant globals t code = constants code globals [] >>= λ ts. needs (is_one t ts) TypeMismatch

-- ---- exports

abbrev pub count_in : Context → ExportKind → ℕ
count_in c exports.Function = length c.functions
count_in c exports.Table = c.tables
count_in c exports.Memory = c.memories
count_in c exports.Global = length c.globals

abbrev pub unknown : ExportKind → ValidKind
unknown exports.Function = UnknownFunction
unknown exports.Table = UnknownTable
unknown exports.Memory = UnknownMemory
unknown exports.Global = UnknownGlobal

abbrev pub any_named : List ℕ → List Export → Bool
any_named name [] = false
any_named name (e ∷ es) = bytes_eq e.name name || any_named name es

abbrev pub export_at : Context → List Export → ℕ → Export → Checked
export_at c all k e =
    needs (nat_lt e.index (count_in c e.kind)) (unknown e.kind) >>= λ _. if any_named e.name (take k all) then Err DuplicateExport else Ok tt

-- ---- the start function

abbrev pub gives_nothing : Option ValueType → Bool
gives_nothing None = true
gives_nothing (Some t) = false

abbrev pub start : Context → ℕ → Checked
start c f = function_at c f >>= λ t. needs (is_nil t.params && gives_nothing t.result) BadStart

abbrev pub start_at : Context → Option ℕ → Result (Unit {0}) ValidFault
start_at c None = Ok tt
start_at c (Some f) = in_part parts.Start 0 (told 0 (start c f))

-- ---- segments

abbrev pub all_below : ℕ → List ℕ → Bool
all_below n [] = true
all_below n (x ∷ xs) = nat_lt x n && all_below n xs

abbrev pub element : Context → Element → Checked
element c e =
    needs (nat_lt e.table c.tables) UnknownTable >>= λ _. constant c.globals I32 e.offset >>= λ _. needs (all_below (length c.functions) e.functions) UnknownFunction

abbrev pub segment : Context → Segment → Checked
segment c s = needs (nat_lt s.memory c.memories) UnknownMemory >>= λ _. constant c.globals I32 s.offset

-- ---- bodies: the functions of the module stand behind those that are imported

abbrev pub body_type : Context → List ℕ → ℕ → Result FuncType ValidKind
body_type c own k = found UnknownFunction (slice_get own k) >>= type_at c

abbrev pub inside : Context → FuncType → Code → Context
inside c t code = record c { locals = t.params ++ code.locals; result = t.result }

abbrev pub code_at : Context → ℕ → List ℕ → ℕ → Code → Result (Unit {0}) ValidFault
code_at c first own k code = in_part parts.Code (first + k) (told 0 (body_type c own k) >>= λ t. scan code.body (inside c t code) (Some (outset t.result)))

-- ---- all items of a part

unfoldable pub imports_at : List FuncType → List Import → Result (Unit {0}) ValidFault
imports_at types imports = every parts.Import (λ _ i. import_type types i.kind) imports

unfoldable pub functions_at : List FuncType → List ℕ → Result (Unit {0}) ValidFault
functions_at types functions = every parts.Func (λ _ t. needs (nat_lt t (length types)) UnknownType) functions

unfoldable pub globals_at : List GlobalType → List GlobalItem → Result (Unit {0}) ValidFault
globals_at globals items = every parts.Global (λ _ g. constant globals g.kind.kind g.start) items

unfoldable pub exports_at : Context → List Export → Result (Unit {0}) ValidFault
exports_at c all = every parts.Export (export_at c all) all

unfoldable pub elements_at : Context → List Element → Result (Unit {0}) ValidFault
elements_at c items = every parts.Element (λ _ e. element c e) items

unfoldable pub bodies_at : Context → ℕ → List ℕ → List Code → Result (Unit {0}) ValidFault
bodies_at c first own code = each (code_at c first own) 0 code

unfoldable pub segments_at : Context → List Segment → Result (Unit {0}) ValidFault
segments_at c items = every parts.Data (λ _ s. segment c s) items

-- ---- the whole module

-- the parts that are checked in the whole module, not in its types alone
abbrev pub later_fault : Context → ℕ → Module → Result (Unit {0}) ValidFault
later_fault c first m =
    exports_at c m.exports >>= λ _.
    start_at c m.start >>= λ _.
    elements_at c m.elements >>= λ _.
    bodies_at c first m.functions m.code >>= λ _.
    segments_at c m.segments

-- how many tables there are, how many memories
unfoldable pub tables_at : Module → Result ℕ ValidFault
tables_at m = sizes parts.Import 4294967296 0 0 (sizes_in exports.Table m.imports) >>= λ n. sizes parts.Table 4294967296 0 n (all_present m.tables)

unfoldable pub memories_at : Module → Result ℕ ValidFault
memories_at m = sizes parts.Import 65536 0 0 (sizes_in exports.Memory m.imports) >>= λ n. sizes parts.Memory 65536 0 n (all_present m.memories)

abbrev pub rest_fault : Module → Result (Unit {0}) ValidFault
rest_fault m =
    globals_at (globals_in m.imports) m.globals >>= λ _. later_fault (context_of m [] None) (length (functions_in m.imports)) m

abbrev pub first_fault : Module → Result (Unit {0}) ValidFault
first_fault m =
    imports_at m.types m.imports >>= λ _.
    functions_at m.types m.functions >>= λ _.
    tables_at m >>= λ _.
    memories_at m >>= λ _.
    rest_fault m
