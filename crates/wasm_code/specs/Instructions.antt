-- Reading instructions and expressions from left to right.
use Rattle.std.specs.Prelude.{ℕ, zero, suc, ◌-◌, slice_range, ◌==◌, nat_lt, nat_le, ◌||◌, ◌&&◌, Bool, true, false, if◌then◌else◌, Option, Some, None, Result, Ok, Err, List, [], ◌∷◌, length}
use Rattle.wasm_types.specs.declared.types.ValueType.{ValueType}
use Rattle.wasm_types.specs.declared.types.ValueType.TheVariants as kinds
use Rattle.wasm_types.specs.declared.values.Value.TheVariants as values
use Rattle.wasm_types.specs.declared.instructions.Instr.{Instr}
use Rattle.wasm_types.specs.declared.instructions.Instr.TheVariants.{Unreachable, Nop, Block, Loop, If, Else, End, Br, BrIf, BrTable, Return, Call, CallIndirect, Drop, Select, LocalGet, LocalSet, LocalTee, GlobalGet, GlobalSet, Load, Store, MemorySize, MemoryGrow, Const}
use Rattle.wasm_types.specs.Nested.{Role, Opens, Parts, Closes, Plain, role_of}
use Rattle.wasm_code.specs.declared.fault.ReadKind.{ReadKind}
use Rattle.wasm_code.specs.declared.fault.ReadKind.TheVariants.{BadForm, FloatUsed, NestedTooDeep, SectionSize}
use Rattle.wasm_code.specs.declared.fault.ReadFault.{ReadFault}
use Rattle.wasm_code.specs.declared.scope.Scope.{Scope}
use Rattle.wasm_code.specs.Decoding.{load_at, store_at, numeric_at, opcode_fault}
use Rattle.wasm_code.specs.Reading.{Reading, ◌>>=◌, fault_at, short_of, ok_or, u32_at, s32_at, s64_at, vector_at}

-- a type of floating point, or no value type
abbrev pub type_fault : ℕ → ReadKind
type_fault byte = if byte == 0x7D || byte == 0x7C then FloatUsed else BadForm

unfoldable pub value_type_at : Scope → List ℕ → Reading ValueType
value_type_at scope [] = Err (short_of scope)
value_type_at scope (byte ∷ rest) =
    if byte == 0x7F then Ok (kinds.I32, rest) else (
    if byte == 0x7E then Ok (kinds.I64, rest) else
    Err (fault_at (type_fault byte) scope (byte ∷ rest)))

unfoldable pub result_at : Scope → List ℕ → Reading (Option ValueType)
result_at scope [] = Err (short_of scope)
result_at scope (byte ∷ rest) =
    if byte == 0x40 then Ok (None, rest) else (
    if byte == 0x7F then Ok (Some kinds.I32, rest) else (
    if byte == 0x7E then Ok (Some kinds.I64, rest) else
    Err (fault_at (type_fault byte) scope (byte ∷ rest))))

-- a byte that must be zero
unfoldable pub zero_at : Scope → List ℕ → Reading ℕ
zero_at scope [] = Err (short_of scope)
zero_at scope (byte ∷ rest) = if byte == 0x00 then Ok (0, rest) else Err (fault_at BadForm scope (byte ∷ rest))

-- two numbers, one behind the other
unfoldable pub two_at : Scope → List ℕ → Reading (ℕ × ℕ)
two_at scope bytes = u32_at scope bytes >>= λ first. u32_at scope first.1 >>= λ second. Ok ((first.0, second.0), second.1)

-- ---- by opcode, and what stands behind it; unknown is the fault of another opcode

unfoldable pub control_at : ReadFault → Scope → ℕ → List ℕ → Reading Instr
control_at unknown scope code rest =
    if code == 0x00 then Ok (Unreachable, rest) else (
    if code == 0x01 then Ok (Nop, rest) else (
    if code == 0x02 then (result_at scope rest >>= λ r. Ok (Block r.0, r.1)) else (
    if code == 0x03 then (result_at scope rest >>= λ r. Ok (Loop r.0, r.1)) else (
    if code == 0x04 then (result_at scope rest >>= λ r. Ok (If r.0, r.1)) else (
    if code == 0x05 then Ok (Else, rest) else (
    if code == 0x0B then Ok (End, rest) else
    Err unknown))))))

unfoldable pub branch_at : ReadFault → Scope → ℕ → List ℕ → Reading Instr
branch_at unknown scope code rest =
    if code == 0x0C then (u32_at scope rest >>= λ n. Ok (Br n.0, n.1)) else (
    if code == 0x0D then (u32_at scope rest >>= λ n. Ok (BrIf n.0, n.1)) else (
    if code == 0x0E then (vector_at 65536 u32_at scope rest >>= λ labels. u32_at scope labels.1 >>= λ other. Ok (BrTable labels.0 other.0, other.1)) else (
    if code == 0x0F then Ok (Return, rest) else (
    if code == 0x10 then (u32_at scope rest >>= λ n. Ok (Call n.0, n.1)) else (
    if code == 0x11 then (u32_at scope rest >>= λ n. zero_at scope n.1 >>= λ z. Ok (CallIndirect n.0, z.1)) else (
    if code == 0x1A then Ok (Drop, rest) else (
    if code == 0x1B then Ok (Select, rest) else
    Err unknown)))))))

unfoldable pub variable_at : ReadFault → Scope → ℕ → List ℕ → Reading Instr
variable_at unknown scope code rest =
    if code == 0x20 then (u32_at scope rest >>= λ n. Ok (LocalGet n.0, n.1)) else (
    if code == 0x21 then (u32_at scope rest >>= λ n. Ok (LocalSet n.0, n.1)) else (
    if code == 0x22 then (u32_at scope rest >>= λ n. Ok (LocalTee n.0, n.1)) else (
    if code == 0x23 then (u32_at scope rest >>= λ n. Ok (GlobalGet n.0, n.1)) else (
    if code == 0x24 then (u32_at scope rest >>= λ n. Ok (GlobalSet n.0, n.1)) else
    Err unknown))))

unfoldable pub memory_at : ReadFault → Scope → ℕ → List ℕ → Reading Instr
memory_at unknown scope code rest =
    if code == 0x3F then (zero_at scope rest >>= λ z. Ok (MemorySize, z.1)) else (
    if code == 0x40 then (zero_at scope rest >>= λ z. Ok (MemoryGrow, z.1)) else (
    if nat_lt code 0x36
    then (ok_or unknown (load_at code) rest >>= λ kind. two_at scope kind.1 >>= λ n. Ok (Load kind.0 n.0.0 n.0.1, n.1))
    else (ok_or unknown (store_at code) rest >>= λ kind. two_at scope kind.1 >>= λ n. Ok (Store kind.0 n.0.0 n.0.1, n.1))))

unfoldable pub number_at : ReadFault → Scope → ℕ → List ℕ → Reading Instr
number_at unknown scope code rest =
    if code == 0x41 then (s32_at scope rest >>= λ n. Ok (Const (values.I32 n.0), n.1)) else (
    if code == 0x42 then (s64_at scope rest >>= λ n. Ok (Const (values.I64 n.0), n.1)) else
    ok_or unknown (numeric_at code) rest)

unfoldable pub instr_of : ReadFault → Scope → ℕ → List ℕ → Reading Instr
instr_of unknown scope code rest =
    if nat_lt code 0x0C then control_at unknown scope code rest else (
    if nat_lt code 0x20 then branch_at unknown scope code rest else (
    if nat_lt code 0x28 then variable_at unknown scope code rest else (
    if nat_lt code 0x41 then memory_at unknown scope code rest else
    number_at unknown scope code rest)))

-- ---- expressions: for each open block, the innermost first, whether an else may part it

-- why an opcode may not stand inside these blocks: a block inside 1,024 others, an else outside an if
abbrev pub may_else : List Bool → Bool
may_else [] = false
may_else (may ∷ opens) = may

abbrev pub refusal : List Bool → ℕ → Option ReadKind
refusal opens code =
    if code == 0x05 then (if may_else opens then None else Some BadForm) else (
    if nat_le 0x02 code && nat_le code 0x04 then (if nat_lt (length opens) 1024 then None else Some NestedTooDeep) else
    None)

abbrev pub opens_after : Role → List Bool → List Bool
opens_after (Opens may) opens = may ∷ opens
opens_after Parts [] = []
opens_after Parts (may ∷ opens) = false ∷ opens
opens_after Closes [] = []
opens_after Closes (may ∷ opens) = opens
opens_after Plain opens = opens

-- whether the expression ends here
abbrev pub is_last : Role → List Bool → Bool
is_last Closes [] = true
is_last Closes (may ∷ opens) = false
is_last role opens = false

abbrev pub refused_or : ReadFault → Option ReadKind → Reading Instr → Scope → List ℕ → Reading Instr
refused_or unknown None reading scope bytes = reading
refused_or unknown (Some kind) reading scope bytes = Err (fault_at kind scope bytes)

unfoldable pub instr_at : List Bool → Scope → List ℕ → Reading Instr
instr_at opens scope [] = Err (short_of scope)
instr_at opens scope (code ∷ rest) =
    let unknown = fault_at (opcode_fault code) scope (code ∷ rest) in
    refused_or unknown (refusal opens code) (instr_of unknown scope code rest) scope (code ∷ rest)

-- so many instructions at most; there are no more than bytes
unfoldable pub instrs_at : ℕ → List Bool → Scope → List ℕ → Reading (List Instr)
instrs_at zero opens scope bytes = Err (short_of scope)
instrs_at (suc most) opens scope bytes =
    instr_at opens scope bytes >>= λ i.
    if is_last (role_of i.0) opens
    then Ok (i.0 ∷ [], i.1)
    else (instrs_at most (opens_after (role_of i.0) opens) scope i.1 >>= λ others. Ok (i.0 ∷ others.0, others.1))

unfoldable pub expression_at : Scope → List ℕ → Reading (List Instr)
expression_at scope bytes = instrs_at (length bytes) [] scope bytes

-- the expression that begins at a place and may go until another, and the place after it
unfoldable pub code_at : ℕ → ℕ → List ℕ → Result (List Instr × ℕ) ReadFault
code_at place until bytes = expression_at (record { end = until; short = SectionSize }) (slice_range bytes place until) >>= λ x. Ok (x.0, until - length x.1)
