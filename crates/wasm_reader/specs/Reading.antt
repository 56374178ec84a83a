-- Reading the parts of a module from left to right, with the first fault that is met.
use Rattle.std.specs.Prelude.{ℕ, zero, ◌-◌, ◌==◌, nat_le, if◌then◌else◌, Bool, true, false, Option, Some, None, Result, Ok, Err, List, [], ◌∷◌, length, take, drop}
use Rattle.std.specs.Str.{is_utf8}
use Rattle.wasm_types.specs.declared.types.ValueType.{ValueType}
use Rattle.wasm_types.specs.declared.types.FuncType.{FuncType}
use Rattle.wasm_types.specs.declared.types.Limits.{Limits}
use Rattle.wasm_types.specs.declared.types.GlobalType.{GlobalType}
use Rattle.wasm_types.specs.declared.modules.ImportKind.{ImportKind}
use Rattle.wasm_types.specs.declared.modules.ImportKind.TheVariants as kinds
use Rattle.wasm_types.specs.declared.modules.Import.{Import}
use Rattle.wasm_types.specs.declared.modules.GlobalItem.{GlobalItem}
use Rattle.wasm_types.specs.declared.modules.ExportKind.{ExportKind}
use Rattle.wasm_types.specs.declared.modules.ExportKind.TheVariants as exports
use Rattle.wasm_types.specs.declared.modules.Export.{Export}
use Rattle.wasm_types.specs.declared.modules.Element.{Element}
use Rattle.wasm_types.specs.declared.modules.Segment.{Segment}
use Rattle.wasm_code.specs.declared.fault.ReadKind.TheVariants.{BadName, BadForm}
use Rattle.wasm_code.specs.declared.fault.ReadFault.{ReadFault}
use Rattle.wasm_code.specs.declared.scope.Scope.{Scope}
use Rattle.wasm_code.specs.Reading.{Reading, ◌>>=◌, fault_at, short_of, u32_at, count_at, vector_at}
use Rattle.wasm_code.specs.Instructions.{value_type_at, expression_at}

-- ---- bytes and names

unfoldable pub bytes_at : Scope → List ℕ → Reading (List ℕ)
bytes_at scope bytes = u32_at scope bytes >>= λ n. if nat_le n.0 (length n.1) then Ok (take n.0 n.1, drop n.0 n.1) else Err (short_of scope)

-- a name that isn't UTF-8 is told at the first byte of its text
unfoldable pub name_at : Scope → List ℕ → Reading (List ℕ)
name_at scope bytes =
    u32_at scope bytes >>= λ n.
    if nat_le n.0 (length n.1)
    then (if is_utf8 (take n.0 n.1) then Ok (take n.0 n.1, drop n.0 n.1) else Err (fault_at BadName scope n.1))
    else Err (short_of scope)

-- ---- types

-- a byte that must be this one
unfoldable pub byte_at : ℕ → Scope → List ℕ → Result (List ℕ) ReadFault
byte_at byte scope [] = Err (short_of scope)
byte_at byte scope (b ∷ rest) = if b == byte then Ok rest else Err (fault_at BadForm scope (b ∷ rest))

unfoldable pub results_at : Scope → List ℕ → Reading (Option ValueType)
results_at scope bytes =
    count_at 1 scope bytes >>= λ n.
    if n.0 == 0 then Ok (None, n.1) else (value_type_at scope n.1 >>= λ t. Ok (Some t.0, t.1))

unfoldable pub func_type_at : Scope → List ℕ → Reading FuncType
func_type_at scope bytes =
    byte_at 0x60 scope bytes >>= λ start.
    vector_at 4294967295 value_type_at scope start >>= λ params.
    results_at scope params.1 >>= λ found.
    Ok (record { params = params.0; result = found.0 }, found.1)

-- a byte that must be zero or one, as the flag of limits and of what may change
unfoldable pub flag_at : Scope → List ℕ → Reading Bool
flag_at scope [] = Err (short_of scope)
flag_at scope (b ∷ rest) = if b == 0x00 then Ok (false, rest) else (if b == 0x01 then Ok (true, rest) else Err (fault_at BadForm scope (b ∷ rest)))

unfoldable pub limits_at : ℕ → ℕ → Scope → List ℕ → Reading Limits
limits_at least most scope bytes =
    flag_at scope bytes >>= λ flag.
    count_at least scope flag.1 >>= λ low.
    if flag.0
    then (count_at most scope low.1 >>= λ high. Ok (record { least = low.0; most = Some high.0 }, high.1))
    else Ok (record { least = low.0; most = None }, low.1)

unfoldable pub memory_at : Scope → List ℕ → Reading Limits
memory_at = limits_at 2048 65536

unfoldable pub table_at : Scope → List ℕ → Reading Limits
table_at scope bytes = byte_at 0x70 scope bytes >>= λ start. limits_at 65536 4294967295 scope start

unfoldable pub global_type_at : Scope → List ℕ → Reading GlobalType
global_type_at scope bytes = value_type_at scope bytes >>= λ kind. flag_at scope kind.1 >>= λ flag. Ok (record { kind = kind.0; mutable = flag.0 }, flag.1)

-- ---- imports, exports and globals

unfoldable pub import_kind_at : Scope → List ℕ → Reading ImportKind
import_kind_at scope [] = Err (short_of scope)
import_kind_at scope (b ∷ rest) =
    if b == 0x00 then (u32_at scope rest >>= λ t. Ok (kinds.Function t.0, t.1)) else (
    if b == 0x01 then (table_at scope rest >>= λ l. Ok (kinds.Table l.0, l.1)) else (
    if b == 0x02 then (memory_at scope rest >>= λ l. Ok (kinds.Memory l.0, l.1)) else (
    if b == 0x03 then (global_type_at scope rest >>= λ g. Ok (kinds.Global g.0, g.1)) else
    Err (fault_at BadForm scope (b ∷ rest)))))

unfoldable pub import_at : Scope → List ℕ → Reading Import
import_at scope bytes =
    name_at scope bytes >>= λ first.
    name_at scope first.1 >>= λ second.
    import_kind_at scope second.1 >>= λ kind.
    Ok (record { «module» = first.0; name = second.0; kind = kind.0 }, kind.1)

unfoldable pub export_kind_at : Scope → List ℕ → Reading ExportKind
export_kind_at scope [] = Err (short_of scope)
export_kind_at scope (b ∷ rest) =
    if b == 0x00 then Ok (exports.Function, rest) else (
    if b == 0x01 then Ok (exports.Table, rest) else (
    if b == 0x02 then Ok (exports.Memory, rest) else (
    if b == 0x03 then Ok (exports.Global, rest) else
    Err (fault_at BadForm scope (b ∷ rest)))))

unfoldable pub export_at : Scope → List ℕ → Reading Export
export_at scope bytes =
    name_at scope bytes >>= λ name.
    export_kind_at scope name.1 >>= λ kind.
    u32_at scope kind.1 >>= λ index.
    Ok (record { name = name.0; kind = kind.0; index = index.0 }, index.1)

unfoldable pub global_at : Scope → List ℕ → Reading GlobalItem
global_at scope bytes =
    global_type_at scope bytes >>= λ kind.
    expression_at scope kind.1 >>= λ start.
    Ok (record { kind = kind.0; start = start.0 }, start.1)

-- ---- segments

unfoldable pub element_at : Scope → List ℕ → Reading Element
element_at scope bytes =
    u32_at scope bytes >>= λ table.
    expression_at scope table.1 >>= λ offset.
    vector_at 4294967295 u32_at scope offset.1 >>= λ functions.
    Ok (record { table = table.0; offset = offset.0; functions = functions.0 }, functions.1)

unfoldable pub segment_at : Scope → List ℕ → Reading Segment
segment_at scope bytes =
    u32_at scope bytes >>= λ memory.
    expression_at scope memory.1 >>= λ offset.
    bytes_at scope offset.1 >>= λ inside.
    Ok (record { memory = memory.0; offset = offset.0; bytes = inside.0 }, inside.1)

-- ---- the function of a start section

unfoldable pub start_at : Scope → List ℕ → Reading (Option ℕ)
start_at scope bytes = u32_at scope bytes >>= λ f. Ok (Some f.0, f.1)
