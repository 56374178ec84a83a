-- The binary grammar (chapter 5): a relation between bytes, the value that the first of them spell, and the bytes after it.
use Rattle.std.specs.Prelude.{◌≡◌, ℕ, ◌+◌, ◌-◌, ◌*◌, ◌/◌, ◌<◌, ◌≤◌, nat_lt, nat_le, if◌then◌else◌, MatchBool, Option, Some, None, List, [], ◌∷◌, length}
use Rattle.wasm_types.specs.declared.types.ValueType.{ValueType}
use Rattle.wasm_types.specs.declared.types.ValueType.TheVariants as kinds
use Rattle.wasm_types.specs.declared.values.Value.TheVariants as values
use Rattle.wasm_types.specs.declared.instructions.Instr.{Instr}
use Rattle.wasm_types.specs.declared.instructions.Instr.TheVariants.{Block, Loop, If, Br, BrIf, BrTable, Call, CallIndirect, LocalGet, LocalSet, LocalTee, GlobalGet, GlobalSet, Load, Store, MemorySize, MemoryGrow, Const}
use Rattle.wasm_types.specs.Nested.{NestsWithin}
use Rattle.wasm_code.specs.Opcodes.{opcode_of}

-- a byte, and then the value
abbrev pub Behind : {A : Type 0} → ℕ → (List ℕ → A → List ℕ → Type 0) → List ℕ → A → List ℕ → Type 0
Behind byte Is bytes x rest = (mid : List ℕ) × (bytes ≡ byte ∷ mid) × Is mid x rest

-- one after another
abbrev pub AreMany : {A : Type 0} → (List ℕ → A → List ℕ → Type 0) → List ℕ → List A → List ℕ → Type 0
AreMany Is bytes [] rest = bytes ≡ rest
AreMany Is bytes (x ∷ xs) rest = (mid : List ℕ) × Is bytes x mid × AreMany Is mid xs rest

-- uN, where limit is 2 to the power N (section 5.2.2). The last byte is below 128 and stands for itself; another
-- one has seven bits, and the bytes after it spell the rest, in seven bits less. There may be more bytes than are needed.
abbrev pub IsUnsigned : ℕ → List ℕ → ℕ → List ℕ → Type 0
IsUnsigned limit [] n rest = ⊥
IsUnsigned limit (byte ∷ bytes) n rest =
    MatchBool (nat_lt byte 128)
    ((byte < limit) × (n ≡ byte) × (bytes ≡ rest))
    ((128 < limit) × ((high : ℕ) × IsUnsigned (limit / 128) bytes high rest × (n ≡ 128 * high + (byte - 128))))

-- the last byte of sN as two's complement, if it has that many bits: from 64 on it is negative
abbrev pub last_signed : ℕ → ℕ → Option ℕ
last_signed limit byte =
    if nat_lt byte 64
    then (if nat_lt byte (limit / 2) then Some byte else None)
    else (if nat_le 128 (limit / 2 + byte) then Some (limit + byte - 128) else None)

-- sN as two's complement (section 5.2.2)
abbrev pub IsSigned : ℕ → List ℕ → ℕ → List ℕ → Type 0
IsSigned limit [] n rest = ⊥
IsSigned limit (byte ∷ bytes) n rest =
    MatchBool (nat_lt byte 128)
    ((last_signed limit byte ≡ Some n) × (bytes ≡ rest))
    ((128 < limit) × ((high : ℕ) × IsSigned (limit / 128) bytes high rest × (n ≡ 128 * high + (byte - 128))))

abbrev pub IsU32 : List ℕ → ℕ → List ℕ → Type 0
IsU32 = IsUnsigned 4294967296

abbrev pub IsS32 : List ℕ → ℕ → List ℕ → Type 0
IsS32 = IsSigned 4294967296

abbrev pub IsS64 : List ℕ → ℕ → List ℕ → Type 0
IsS64 = IsSigned 18446744073709551616

-- a vector (section 5.1.3): a count, which may not exceed the limit, and that many items
abbrev pub IsVector : {A : Type 0} → ℕ → (List ℕ → A → List ℕ → Type 0) → List ℕ → List A → List ℕ → Type 0
IsVector limit Is bytes xs rest = (length xs ≤ limit) × ((mid : List ℕ) × IsU32 bytes (length xs) mid × AreMany Is mid xs rest)

-- a value type (section 5.3.1)
abbrev pub IsValueType : List ℕ → ValueType → List ℕ → Type 0
IsValueType bytes kinds.I32 rest = bytes ≡ 0x7F ∷ rest
IsValueType bytes kinds.I64 rest = bytes ≡ 0x7E ∷ rest

-- a result type (section 5.3.2)
abbrev pub IsResult : List ℕ → Option ValueType → List ℕ → Type 0
IsResult bytes None rest = bytes ≡ 0x40 ∷ rest
IsResult bytes (Some kind) rest = IsValueType bytes kind rest

-- two indices, or the alignment and the offset of a memory instruction
abbrev pub AreTwo : List ℕ → ℕ → ℕ → List ℕ → Type 0
AreTwo bytes first second rest = (mid : List ℕ) × IsU32 bytes first mid × IsU32 mid second rest

-- what stands behind an opcode (sections 5.4.1 to 5.4.5)
abbrev pub AreOperands : List ℕ → Instr → List ℕ → Type 0
AreOperands bytes (Block result) rest = IsResult bytes result rest
AreOperands bytes (Loop result) rest = IsResult bytes result rest
AreOperands bytes (If result) rest = IsResult bytes result rest
AreOperands bytes (Br label) rest = IsU32 bytes label rest
AreOperands bytes (BrIf label) rest = IsU32 bytes label rest
AreOperands bytes (BrTable labels other) rest = (mid : List ℕ) × IsVector 65536 IsU32 bytes labels mid × IsU32 mid other rest
AreOperands bytes (Call function) rest = IsU32 bytes function rest
AreOperands bytes (CallIndirect kind) rest = IsU32 bytes kind (0x00 ∷ rest)
AreOperands bytes (LocalGet local) rest = IsU32 bytes local rest
AreOperands bytes (LocalSet local) rest = IsU32 bytes local rest
AreOperands bytes (LocalTee local) rest = IsU32 bytes local rest
AreOperands bytes (GlobalGet global) rest = IsU32 bytes global rest
AreOperands bytes (GlobalSet global) rest = IsU32 bytes global rest
AreOperands bytes (Load kind align offset) rest = AreTwo bytes align offset rest
AreOperands bytes (Store kind align offset) rest = AreTwo bytes align offset rest
AreOperands bytes MemorySize rest = bytes ≡ 0x00 ∷ rest
AreOperands bytes MemoryGrow rest = bytes ≡ 0x00 ∷ rest
AreOperands bytes (Const (values.I32 n)) rest = IsS32 bytes n rest
AreOperands bytes (Const (values.I64 n)) rest = IsS64 bytes n rest
AreOperands bytes i rest = bytes ≡ rest

-- an instruction, or an else or end (section 5.4): its opcode and operands
abbrev pub IsInstr : List ℕ → Instr → List ℕ → Type 0
IsInstr bytes i rest = (mid : List ℕ) × (bytes ≡ opcode_of i ∷ mid) × AreOperands mid i rest

-- an expression (section 5.4.6): instructions that nest, at most 1,024 blocks in one another, and the end
abbrev pub IsExpression : List ℕ → List Instr → List ℕ → Type 0
IsExpression bytes code rest = AreMany IsInstr bytes code rest × NestsWithin 1024 code
