-- The type of each instruction (sections 3.3.1 to 3.3.5). Operands stand with the topmost one first.
use Rattle.std.specs.Prelude.{ℕ, nat_lt, Bool, true, false, ◌&&◌, if◌then◌else◌, Option, Some, None, Result, Ok, Err, List, [], ◌∷◌, length, reverse, slice_get}
use Rattle.std.specs.Option.{option_to_list}
use Rattle.wasm_types.specs.declared.types.ValueType.{ValueType}
use Rattle.wasm_types.specs.declared.types.ValueType.TheVariants.{I32, I64}
use Rattle.wasm_types.specs.Types.{same_result}
use Rattle.wasm_types.specs.declared.types.FuncType.{FuncType}
use Rattle.wasm_types.specs.declared.types.GlobalType.{GlobalType}
use Rattle.wasm_types.specs.declared.values.Value.{Value}
use Rattle.wasm_types.specs.declared.values.Value.TheVariants as values
use Rattle.wasm_types.specs.declared.instructions.LoadKind.{LoadKind}
use Rattle.wasm_types.specs.declared.instructions.LoadKind.TheVariants as loads
use Rattle.wasm_types.specs.declared.instructions.StoreKind.{StoreKind}
use Rattle.wasm_types.specs.declared.instructions.StoreKind.TheVariants as stores
use Rattle.wasm_types.specs.declared.instructions.Convert.{Convert}
use Rattle.wasm_types.specs.declared.instructions.Convert.TheVariants as converts
use Rattle.wasm_types.specs.declared.instructions.Instr.{Instr}
use Rattle.wasm_types.specs.declared.instructions.Instr.TheVariants.{Unreachable, Br, BrIf, BrTable, Return, Call, CallIndirect, Drop, Select, LocalGet, LocalSet, LocalTee, GlobalGet, GlobalSet, Load, Store, MemorySize, MemoryGrow, Const, I32Test, I32Compare, I32Unary, I32Binary, I64Test, I64Compare, I64Unary, I64Binary}
use Rattle.wasm_types.specs.declared.instructions.Instr.TheVariants as instrs
use Rattle.wasm_validate.specs.declared.fault.ValidKind.{ValidKind}
use Rattle.wasm_validate.specs.declared.fault.ValidKind.TheVariants.{UnknownType, UnknownFunction, UnknownTable, UnknownMemory, UnknownGlobal, UnknownLocal, UnknownLabel, TypeMismatch, ImmutableGlobal, BadAlign}
use Rattle.wasm_validate.specs.Steps.{◌>>=◌, found}

-- What code stands in (section 3.1.1). A function is the index of its type; of tables and memories the count is enough.
pub record Context : Type 0 where
  pub types : List FuncType
  pub functions : List ℕ
  pub globals : List GlobalType
  pub tables : ℕ
  pub memories : ℕ
  pub locals : List ValueType
  pub result : Option ValueType

-- An instruction's type. One that never goes on takes operands and gives any; drop and select take any type.
pub data Rule : Type 0 where
  Mono : List ValueType → List ValueType → Rule
  Leaves : List ValueType → Rule
  AnyDrop : Rule
  AnySelect : Rule

-- ---- what indices name

abbrev pub type_at : Context → ℕ → Result FuncType ValidKind
type_at c x = found UnknownType (slice_get c.types x)

abbrev pub function_at : Context → ℕ → Result FuncType ValidKind
function_at c x = found UnknownFunction (slice_get c.functions x) >>= type_at c

abbrev pub local_at : Context → ℕ → Result ValueType ValidKind
local_at c x = found UnknownLocal (slice_get c.locals x)

abbrev pub global_at : Context → ℕ → Result GlobalType ValidKind
global_at c x = found UnknownGlobal (slice_get c.globals x)

-- A label has the types that a branch to it takes (section 3.3.5). Labels stand with the innermost one first.
abbrev pub Labels : Type 0
Labels = List (Option ValueType)

abbrev pub label_at : Labels → ℕ → Result (Option ValueType) ValidKind
label_at labels x = found UnknownLabel (slice_get labels x)

-- the first table, the first memory
abbrev pub some_table : Context → Result (Unit {0}) ValidKind
some_table c = if nat_lt 0 c.tables then Ok tt else Err UnknownTable

abbrev pub some_memory : Context → Result (Unit {0}) ValidKind
some_memory c = if nat_lt 0 c.memories then Ok tt else Err UnknownMemory

-- ---- numbers and memory

abbrev pub type_of : Value → ValueType
type_of (values.I32 n) = I32
type_of (values.I64 n) = I64

abbrev pub loaded : LoadKind → ValueType
loaded loads.I32 = I32
loaded loads.I64 = I64
loaded loads.I32From8S = I32
loaded loads.I32From8U = I32
loaded loads.I32From16S = I32
loaded loads.I32From16U = I32
loaded loads.I64From8S = I64
loaded loads.I64From8U = I64
loaded loads.I64From16S = I64
loaded loads.I64From16U = I64
loaded loads.I64From32S = I64
loaded loads.I64From32U = I64

abbrev pub stored : StoreKind → ValueType
stored stores.I32 = I32
stored stores.I64 = I64
stored stores.I32To8 = I32
stored stores.I32To16 = I32
stored stores.I64To8 = I64
stored stores.I64To16 = I64
stored stores.I64To32 = I64

-- the greatest alignment, as the exponent of a power of two: that of the width in bytes
abbrev pub load_align : LoadKind → ℕ
load_align loads.I32 = 2
load_align loads.I64 = 3
load_align loads.I32From8S = 0
load_align loads.I32From8U = 0
load_align loads.I32From16S = 1
load_align loads.I32From16U = 1
load_align loads.I64From8S = 0
load_align loads.I64From8U = 0
load_align loads.I64From16S = 1
load_align loads.I64From16U = 1
load_align loads.I64From32S = 2
load_align loads.I64From32U = 2

abbrev pub store_align : StoreKind → ℕ
store_align stores.I32 = 2
store_align stores.I64 = 3
store_align stores.I32To8 = 0
store_align stores.I32To16 = 1
store_align stores.I64To8 = 0
store_align stores.I64To16 = 1
store_align stores.I64To32 = 2

abbrev pub converted : Convert → ValueType
converted converts.WrapI64 = I64
converted converts.ExtendI32S = I32
converted converts.ExtendI32U = I32

abbrev pub conversion : Convert → ValueType
conversion converts.WrapI64 = I32
conversion converts.ExtendI32S = I64
conversion converts.ExtendI32U = I64

-- ---- the rules

-- what a call takes, the last argument on top
abbrev pub params_of : FuncType → List ValueType
params_of t = reverse t.params

-- the type that the labels of a table have: each has to be there, and to have the type of the last one
abbrev pub all_known : Labels → List ℕ → Bool
all_known labels [] = true
all_known labels (x ∷ xs) = nat_lt x (length labels) && all_known labels xs

abbrev pub has_type : Option ValueType → Option (Option ValueType) → Bool
has_type t None = false
has_type t (Some u) = same_result t u

abbrev pub all_same : Labels → Option ValueType → List ℕ → Bool
all_same labels t [] = true
all_same labels t (x ∷ xs) = has_type t (slice_get labels x) && all_same labels t xs

abbrev pub table_type : Labels → List ℕ → ℕ → Result (Option ValueType) ValidKind
table_type labels xs other =
    label_at labels other >>= λ t. if all_known labels xs then (if all_same labels t xs then Ok t else Err TypeMismatch) else Err UnknownLabel

-- the rule of an instruction that opens no block and closes none
abbrev pub rule_of : Context → Labels → Instr → Result Rule ValidKind
rule_of c labels Unreachable = Ok (Leaves [])
rule_of c labels (Br l) = label_at labels l >>= λ t. Ok (Leaves (option_to_list t))
rule_of c labels (BrIf l) = label_at labels l >>= λ t. Ok (Mono (I32 ∷ option_to_list t) (option_to_list t))
rule_of c labels (BrTable xs other) = table_type labels xs other >>= λ t. Ok (Leaves (I32 ∷ option_to_list t))
rule_of c labels Return = Ok (Leaves (option_to_list c.result))
rule_of c labels (Call f) = function_at c f >>= λ t. Ok (Mono (params_of t) (option_to_list t.result))
rule_of c labels (CallIndirect x) = type_at c x >>= λ t. some_table c >>= λ _. Ok (Mono (I32 ∷ params_of t) (option_to_list t.result))
rule_of c labels Drop = Ok AnyDrop
rule_of c labels Select = Ok AnySelect
rule_of c labels (LocalGet x) = local_at c x >>= λ t. Ok (Mono [] (t ∷ []))
rule_of c labels (LocalSet x) = local_at c x >>= λ t. Ok (Mono (t ∷ []) [])
rule_of c labels (LocalTee x) = local_at c x >>= λ t. Ok (Mono (t ∷ []) (t ∷ []))
rule_of c labels (GlobalGet x) = global_at c x >>= λ g. Ok (Mono [] (g.kind ∷ []))
rule_of c labels (GlobalSet x) = global_at c x >>= λ g. Ok (Mono (g.kind ∷ []) [])
rule_of c labels (Load kind align offset) = some_memory c >>= λ _. Ok (Mono (I32 ∷ []) (loaded kind ∷ []))
rule_of c labels (Store kind align offset) = some_memory c >>= λ _. Ok (Mono (stored kind ∷ I32 ∷ []) [])
rule_of c labels MemorySize = some_memory c >>= λ _. Ok (Mono [] (I32 ∷ []))
rule_of c labels MemoryGrow = some_memory c >>= λ _. Ok (Mono (I32 ∷ []) (I32 ∷ []))
rule_of c labels (Const v) = Ok (Mono [] (type_of v ∷ []))
rule_of c labels (I32Test op) = Ok (Mono (I32 ∷ []) (I32 ∷ []))
rule_of c labels (I32Compare op) = Ok (Mono (I32 ∷ I32 ∷ []) (I32 ∷ []))
rule_of c labels (I32Unary op) = Ok (Mono (I32 ∷ []) (I32 ∷ []))
rule_of c labels (I32Binary op) = Ok (Mono (I32 ∷ I32 ∷ []) (I32 ∷ []))
rule_of c labels (I64Test op) = Ok (Mono (I64 ∷ []) (I32 ∷ []))
rule_of c labels (I64Compare op) = Ok (Mono (I64 ∷ I64 ∷ []) (I32 ∷ []))
rule_of c labels (I64Unary op) = Ok (Mono (I64 ∷ []) (I64 ∷ []))
rule_of c labels (I64Binary op) = Ok (Mono (I64 ∷ I64 ∷ []) (I64 ∷ []))
rule_of c labels (instrs.Convert op) = Ok (Mono (converted op ∷ []) (conversion op ∷ []))
rule_of c labels i = Ok (Mono [] [])

-- ---- what is wrong with an instruction, its operands aside

abbrev pub above : ℕ → ℕ → Option ValidKind
above most align = if nat_lt most align then Some BadAlign else None

abbrev pub fixed : Option GlobalType → Option ValidKind
fixed None = None
fixed (Some g) = if g.mutable then None else Some ImmutableGlobal

abbrev pub misuse : Context → Instr → Option ValidKind
misuse c (GlobalSet x) = fixed (slice_get c.globals x)
misuse c (Load kind align offset) = above (load_align kind) align
misuse c (Store kind align offset) = above (store_align kind) align
misuse c i = None
