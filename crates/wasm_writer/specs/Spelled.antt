-- How each part of a module is written (chapter 5): numbers in their shortest spellings, locals in the fewest groups, no
-- section that has nothing to say.
use Rattle.std.specs.Prelude.{ℕ, suc, Bool, true, false, if◌then◌else◌, Option, Some, None, List, [], ◌∷◌, ◌++◌, length}
use Rattle.std.specs.List.{flat_map}
use Rattle.std.specs.Option.{option_to_list}
use Rattle.wasm_types.specs.declared.types.ValueType.{ValueType}
use Rattle.wasm_types.specs.declared.types.ValueType.TheVariants as types
use Rattle.wasm_types.specs.declared.types.FuncType.{FuncType}
use Rattle.wasm_types.specs.declared.types.Limits.{Limits}
use Rattle.wasm_types.specs.declared.types.GlobalType.{GlobalType}
use Rattle.wasm_types.specs.declared.values.Value.TheVariants as values
use Rattle.wasm_types.specs.declared.instructions.Instr.{Instr}
use Rattle.wasm_types.specs.declared.instructions.Instr.TheVariants.{Block, Loop, If, Br, BrIf, BrTable, Call, CallIndirect, LocalGet, LocalSet, LocalTee, GlobalGet, GlobalSet, Load, Store, MemorySize, MemoryGrow, Const}
use Rattle.wasm_types.specs.declared.modules.ImportKind.{ImportKind}
use Rattle.wasm_types.specs.declared.modules.ImportKind.TheVariants as kinds
use Rattle.wasm_types.specs.declared.modules.Import.{Import}
use Rattle.wasm_types.specs.declared.modules.GlobalItem.{GlobalItem}
use Rattle.wasm_types.specs.declared.modules.Export.{Export}
use Rattle.wasm_types.specs.declared.modules.Element.{Element}
use Rattle.wasm_types.specs.declared.modules.Code.{Code}
use Rattle.wasm_types.specs.declared.modules.Segment.{Segment}
use Rattle.wasm_types.specs.declared.modules.Module.{Module}
use Rattle.wasm_code.specs.Opcodes.{opcode_of}
use Rattle.wasm_reader.specs.Grammar.{flag_byte, export_byte}
use Rattle.wasm_types.specs.declared.locals.Group.{Group}
use Rattle.wasm_types.specs.Locals.{groups_of}
use Rattle.wasm_writer.specs.Numbers.{number_text, i32_text, i64_text}

-- ---- vectors and names

unfoldable pub vector_text : {A : Type 0} → (A → List ℕ) → List A → List ℕ
vector_text text xs = number_text (length xs) ++ flat_map text xs

unfoldable pub bytes_text : List ℕ → List ℕ
bytes_text bytes = number_text (length bytes) ++ bytes

-- ---- types

abbrev pub type_byte : ValueType → ℕ
type_byte types.I32 = 0x7F
type_byte types.I64 = 0x7E

abbrev pub result_byte : Option ValueType → ℕ
result_byte None = 0x40
result_byte (Some kind) = type_byte kind

abbrev pub type_text : ValueType → List ℕ
type_text kind = type_byte kind ∷ []

unfoldable pub func_type_text : FuncType → List ℕ
func_type_text t = 0x60 ∷ (vector_text type_text t.params ++ vector_text type_text (option_to_list t.result))

abbrev pub size_text : ℕ → Option ℕ → List ℕ
size_text least None = 0x00 ∷ number_text least
size_text least (Some most) = 0x01 ∷ (number_text least ++ number_text most)

unfoldable pub limits_text : Limits → List ℕ
limits_text l = size_text l.least l.most

unfoldable pub table_text : Limits → List ℕ
table_text l = 0x70 ∷ limits_text l

unfoldable pub global_type_text : GlobalType → List ℕ
global_type_text g = type_byte g.kind ∷ (flag_byte g.mutable ∷ [])

-- ---- instructions

abbrev pub operands_text : Instr → List ℕ
operands_text (Block r) = result_byte r ∷ []
operands_text (Loop r) = result_byte r ∷ []
operands_text (If r) = result_byte r ∷ []
operands_text (Br label) = number_text label
operands_text (BrIf label) = number_text label
operands_text (BrTable labels other) = vector_text number_text labels ++ number_text other
operands_text (Call function) = number_text function
operands_text (CallIndirect kind) = number_text kind ++ (0x00 ∷ [])
operands_text (LocalGet local) = number_text local
operands_text (LocalSet local) = number_text local
operands_text (LocalTee local) = number_text local
operands_text (GlobalGet global) = number_text global
operands_text (GlobalSet global) = number_text global
operands_text (Load kind align offset) = number_text align ++ number_text offset
operands_text (Store kind align offset) = number_text align ++ number_text offset
operands_text MemorySize = 0x00 ∷ []
operands_text MemoryGrow = 0x00 ∷ []
operands_text (Const (values.I32 n)) = i32_text n
operands_text (Const (values.I64 n)) = i64_text n
operands_text i = []

unfoldable pub instr_text : Instr → List ℕ
instr_text i = opcode_of i ∷ operands_text i

unfoldable pub code_text : List Instr → List ℕ
code_text code = flat_map instr_text code

-- ---- imports, globals, exports and segments

unfoldable pub import_kind_text : ImportKind → List ℕ
import_kind_text (kinds.Function t) = 0x00 ∷ number_text t
import_kind_text (kinds.Table l) = 0x01 ∷ table_text l
import_kind_text (kinds.Memory l) = 0x02 ∷ limits_text l
import_kind_text (kinds.Global g) = 0x03 ∷ global_type_text g

unfoldable pub import_text : Import → List ℕ
import_text i = bytes_text i.module ++ (bytes_text i.name ++ import_kind_text i.kind)

unfoldable pub global_text : GlobalItem → List ℕ
global_text g = global_type_text g.kind ++ code_text g.start

unfoldable pub export_text : Export → List ℕ
export_text e = bytes_text e.name ++ (export_byte e.kind ∷ number_text e.index)

unfoldable pub element_text : Element → List ℕ
element_text e = number_text e.table ++ (code_text e.offset ++ vector_text number_text e.functions)

unfoldable pub segment_text : Segment → List ℕ
segment_text s = number_text s.memory ++ (code_text s.offset ++ bytes_text s.bytes)

-- ---- code

-- one more local before these groups
unfoldable pub group_text : Group → List ℕ
group_text g = number_text g.count ++ (type_byte g.kind ∷ [])

unfoldable pub body_text : Code → List ℕ
body_text c = vector_text group_text (groups_of c.locals) ++ code_text c.body

unfoldable pub sized_body_text : Code → List ℕ
sized_body_text c = bytes_text (body_text c)

-- ---- sections

unfoldable pub section_text : ℕ → List ℕ → List ℕ
section_text id inside = id ∷ bytes_text inside

-- a section of a list; where the list is empty, none
unfoldable pub list_text : {A : Type 0} → ℕ → (A → List ℕ) → List A → List ℕ
list_text id text [] = []
list_text id text (x ∷ xs) = section_text id (vector_text text (x ∷ xs))

unfoldable pub start_text : Option ℕ → List ℕ
start_text None = []
start_text (Some function) = section_text 8 (number_text function)

unfoldable pub module_text : Module → List ℕ
module_text m =
    (0x00 ∷ 0x61 ∷ 0x73 ∷ 0x6D ∷ 0x01 ∷ 0x00 ∷ 0x00 ∷ 0x00 ∷ [])
    ++ (list_text 1 func_type_text m.types
    ++ (list_text 2 import_text m.imports
    ++ (list_text 3 number_text m.functions
    ++ (list_text 4 table_text m.tables
    ++ (list_text 5 limits_text m.memories
    ++ (list_text 6 global_text m.globals
    ++ (list_text 7 export_text m.exports
    ++ (start_text m.start
    ++ (list_text 9 element_text m.elements
    ++ (list_text 10 sized_body_text m.code
    ++ list_text 11 segment_text m.segments))))))))))
