-- The opcodes of the profile (section 5.4), each instruction's by its own line.
use Rattle.std.specs.Prelude.{ℕ, ◌+◌}
use Rattle.wasm_types.specs.declared.instructions.Compare.{Compare}
use Rattle.wasm_types.specs.declared.instructions.Compare.TheVariants as compares
use Rattle.wasm_types.specs.declared.instructions.Unary.{Unary}
use Rattle.wasm_types.specs.declared.instructions.Unary.TheVariants as unaries
use Rattle.wasm_types.specs.declared.instructions.Binary.{Binary}
use Rattle.wasm_types.specs.declared.instructions.Binary.TheVariants as binaries
use Rattle.wasm_types.specs.declared.instructions.LoadKind.{LoadKind}
use Rattle.wasm_types.specs.declared.instructions.LoadKind.TheVariants as loads
use Rattle.wasm_types.specs.declared.instructions.StoreKind.{StoreKind}
use Rattle.wasm_types.specs.declared.instructions.StoreKind.TheVariants as stores
use Rattle.wasm_types.specs.declared.instructions.Convert.{Convert}
use Rattle.wasm_types.specs.declared.instructions.Convert.TheVariants as converts
use Rattle.wasm_types.specs.declared.values.Value.TheVariants as values
use Rattle.wasm_types.specs.declared.instructions.Instr.{Instr}
use Rattle.wasm_types.specs.declared.instructions.Instr.TheVariants.{Unreachable, Nop, Block, Loop, If, Else, End, Br, BrIf, BrTable, Return, Call, CallIndirect, Drop, Select, LocalGet, LocalSet, LocalTee, GlobalGet, GlobalSet, Load, Store, MemorySize, MemoryGrow, Const, I32Test, I32Compare, I32Unary, I32Binary, I64Test, I64Compare, I64Unary, I64Binary}
use Rattle.wasm_types.specs.declared.instructions.Instr.TheVariants as instrs

-- the comparisons in their order: from 0x46 on for i32, from 0x51 on for i64
abbrev pub compare_number : Compare → ℕ
compare_number compares.Eq = 0
compare_number compares.Ne = 1
compare_number compares.LtS = 2
compare_number compares.LtU = 3
compare_number compares.GtS = 4
compare_number compares.GtU = 5
compare_number compares.LeS = 6
compare_number compares.LeU = 7
compare_number compares.GeS = 8
compare_number compares.GeU = 9

-- from 0x67 on for i32, from 0x79 on for i64
abbrev pub unary_number : Unary → ℕ
unary_number unaries.Clz = 0
unary_number unaries.Ctz = 1
unary_number unaries.Popcnt = 2

-- from 0x6A on for i32, from 0x7C on for i64
abbrev pub binary_number : Binary → ℕ
binary_number binaries.Add = 0
binary_number binaries.Sub = 1
binary_number binaries.Mul = 2
binary_number binaries.DivS = 3
binary_number binaries.DivU = 4
binary_number binaries.RemS = 5
binary_number binaries.RemU = 6
binary_number binaries.And = 7
binary_number binaries.Or = 8
binary_number binaries.Xor = 9
binary_number binaries.Shl = 10
binary_number binaries.ShrS = 11
binary_number binaries.ShrU = 12
binary_number binaries.Rotl = 13
binary_number binaries.Rotr = 14

-- the opcodes of loads
abbrev pub load_number : LoadKind → ℕ
load_number loads.I32 = 0x28
load_number loads.I64 = 0x29
load_number loads.I32From8S = 0x2C
load_number loads.I32From8U = 0x2D
load_number loads.I32From16S = 0x2E
load_number loads.I32From16U = 0x2F
load_number loads.I64From8S = 0x30
load_number loads.I64From8U = 0x31
load_number loads.I64From16S = 0x32
load_number loads.I64From16U = 0x33
load_number loads.I64From32S = 0x34
load_number loads.I64From32U = 0x35

-- the opcodes of stores
abbrev pub store_number : StoreKind → ℕ
store_number stores.I32 = 0x36
store_number stores.I64 = 0x37
store_number stores.I32To8 = 0x3A
store_number stores.I32To16 = 0x3B
store_number stores.I64To8 = 0x3C
store_number stores.I64To16 = 0x3D
store_number stores.I64To32 = 0x3E

-- the opcodes of conversions
abbrev pub convert_number : Convert → ℕ
convert_number converts.WrapI64 = 0xA7
convert_number converts.ExtendI32S = 0xAC
convert_number converts.ExtendI32U = 0xAD

abbrev pub opcode_of : Instr → ℕ
opcode_of Unreachable = 0x00
opcode_of Nop = 0x01
opcode_of (Block r) = 0x02
opcode_of (Loop r) = 0x03
opcode_of (If r) = 0x04
opcode_of Else = 0x05
opcode_of End = 0x0B
opcode_of (Br l) = 0x0C
opcode_of (BrIf l) = 0x0D
opcode_of (BrTable labels other) = 0x0E
opcode_of Return = 0x0F
opcode_of (Call f) = 0x10
opcode_of (CallIndirect t) = 0x11
opcode_of Drop = 0x1A
opcode_of Select = 0x1B
opcode_of (LocalGet x) = 0x20
opcode_of (LocalSet x) = 0x21
opcode_of (LocalTee x) = 0x22
opcode_of (GlobalGet x) = 0x23
opcode_of (GlobalSet x) = 0x24
opcode_of (Load kind align offset) = load_number kind
opcode_of (Store kind align offset) = store_number kind
opcode_of MemorySize = 0x3F
opcode_of MemoryGrow = 0x40
opcode_of (Const (values.I32 n)) = 0x41
opcode_of (Const (values.I64 n)) = 0x42
opcode_of (I32Test op) = 0x45
opcode_of (I32Compare op) = 0x46 + compare_number op
opcode_of (I64Test op) = 0x50
opcode_of (I64Compare op) = 0x51 + compare_number op
opcode_of (I32Unary op) = 0x67 + unary_number op
opcode_of (I32Binary op) = 0x6A + binary_number op
opcode_of (I64Unary op) = 0x79 + unary_number op
opcode_of (I64Binary op) = 0x7C + binary_number op
opcode_of (instrs.Convert op) = convert_number op
