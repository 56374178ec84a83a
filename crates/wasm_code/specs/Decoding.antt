-- From an opcode back to what it stands for.
use Rattle.std.specs.Prelude.{ℕ, ◌-◌, ◌==◌, nat_lt, ◌||◌, ◌&&◌, nat_le, Bool, if◌then◌else◌, Option, Some, None}
use Rattle.std.specs.Option.{option_map}
use Rattle.wasm_types.specs.declared.instructions.Compare.{Compare}
use Rattle.wasm_types.specs.declared.instructions.Compare.TheVariants as compares
use Rattle.wasm_types.specs.declared.instructions.Unary.{Unary}
use Rattle.wasm_types.specs.declared.instructions.Unary.TheVariants as unaries
use Rattle.wasm_types.specs.declared.instructions.Binary.{Binary}
use Rattle.wasm_types.specs.declared.instructions.Binary.TheVariants as binaries
use Rattle.wasm_types.specs.declared.instructions.LoadKind.{LoadKind}
use Rattle.wasm_types.specs.declared.instructions.LoadKind.TheVariants as loads
use Rattle.wasm_types.specs.declared.instructions.StoreKind.{StoreKind}
use Rattle.wasm_types.specs.declared.instructions.StoreKind.TheVariants as stores
use Rattle.wasm_types.specs.declared.instructions.Convert.{Convert}
use Rattle.wasm_types.specs.declared.instructions.Convert.TheVariants as converts
use Rattle.wasm_types.specs.declared.instructions.Test.TheVariants as tests
use Rattle.wasm_types.specs.declared.instructions.Instr.{Instr}
use Rattle.wasm_types.specs.declared.instructions.Instr.TheVariants.{I32Test, I32Compare, I32Unary, I32Binary, I64Test, I64Compare, I64Unary, I64Binary}
use Rattle.wasm_types.specs.declared.instructions.Instr.TheVariants as instrs
use Rattle.wasm_code.specs.declared.fault.ReadKind.{ReadKind}
use Rattle.wasm_code.specs.declared.fault.ReadKind.TheVariants.{BadOpcode, FloatUsed}

abbrev pub compare_at : ℕ → Option Compare
compare_at k =
    if k == 0 then Some compares.Eq else (
    if k == 1 then Some compares.Ne else (
    if k == 2 then Some compares.LtS else (
    if k == 3 then Some compares.LtU else (
    if k == 4 then Some compares.GtS else (
    if k == 5 then Some compares.GtU else (
    if k == 6 then Some compares.LeS else (
    if k == 7 then Some compares.LeU else (
    if k == 8 then Some compares.GeS else (
    if k == 9 then Some compares.GeU else (
    None))))))))))

abbrev pub unary_at : ℕ → Option Unary
unary_at k =
    if k == 0 then Some unaries.Clz else (
    if k == 1 then Some unaries.Ctz else (
    if k == 2 then Some unaries.Popcnt else (
    None)))

abbrev pub binary_at : ℕ → Option Binary
binary_at k =
    if k == 0 then Some binaries.Add else (
    if k == 1 then Some binaries.Sub else (
    if k == 2 then Some binaries.Mul else (
    if k == 3 then Some binaries.DivS else (
    if k == 4 then Some binaries.DivU else (
    if k == 5 then Some binaries.RemS else (
    if k == 6 then Some binaries.RemU else (
    if k == 7 then Some binaries.And else (
    if k == 8 then Some binaries.Or else (
    if k == 9 then Some binaries.Xor else (
    if k == 10 then Some binaries.Shl else (
    if k == 11 then Some binaries.ShrS else (
    if k == 12 then Some binaries.ShrU else (
    if k == 13 then Some binaries.Rotl else (
    if k == 14 then Some binaries.Rotr else (
    None)))))))))))))))

abbrev pub load_at : ℕ → Option LoadKind
load_at k =
    if k == 0x28 then Some loads.I32 else (
    if k == 0x29 then Some loads.I64 else (
    if k == 0x2C then Some loads.I32From8S else (
    if k == 0x2D then Some loads.I32From8U else (
    if k == 0x2E then Some loads.I32From16S else (
    if k == 0x2F then Some loads.I32From16U else (
    if k == 0x30 then Some loads.I64From8S else (
    if k == 0x31 then Some loads.I64From8U else (
    if k == 0x32 then Some loads.I64From16S else (
    if k == 0x33 then Some loads.I64From16U else (
    if k == 0x34 then Some loads.I64From32S else (
    if k == 0x35 then Some loads.I64From32U else (
    None))))))))))))

abbrev pub store_at : ℕ → Option StoreKind
store_at k =
    if k == 0x36 then Some stores.I32 else (
    if k == 0x37 then Some stores.I64 else (
    if k == 0x3A then Some stores.I32To8 else (
    if k == 0x3B then Some stores.I32To16 else (
    if k == 0x3C then Some stores.I64To8 else (
    if k == 0x3D then Some stores.I64To16 else (
    if k == 0x3E then Some stores.I64To32 else (
    None)))))))

abbrev pub convert_at : ℕ → Option Convert
convert_at k =
    if k == 0xA7 then Some converts.WrapI64 else (
    if k == 0xAC then Some converts.ExtendI32S else (
    if k == 0xAD then Some converts.ExtendI32U else (
    None)))

-- the instructions on numbers, which have no operands
unfoldable pub numeric_at : ℕ → Option Instr
numeric_at code =
    if nat_lt code 0x45 then None else (
    if nat_lt code 0x46 then Some (I32Test tests.Eqz) else (
    if nat_lt code 0x50 then option_map I32Compare (compare_at (code - 0x46)) else (
    if nat_lt code 0x51 then Some (I64Test tests.Eqz) else (
    if nat_lt code 0x5B then option_map I64Compare (compare_at (code - 0x51)) else (
    if nat_lt code 0x67 then None else (
    if nat_lt code 0x6A then option_map I32Unary (unary_at (code - 0x67)) else (
    if nat_lt code 0x79 then option_map I32Binary (binary_at (code - 0x6A)) else (
    if nat_lt code 0x7C then option_map I64Unary (unary_at (code - 0x79)) else (
    if nat_lt code 0x8B then option_map I64Binary (binary_at (code - 0x7C)) else (
    option_map instrs.Convert (convert_at code)))))))))))

-- the opcodes of floating point
abbrev pub is_float : ℕ → Bool
is_float code =
    (nat_le 0x2A code && nat_le code 0x2B) || (nat_le 0x38 code && nat_le code 0x39) || (nat_le 0x43 code && nat_le code 0x44) || (nat_le 0x5B code && nat_le code 0x66) || (nat_le 0x8B code && nat_le code 0xA6) || (nat_le 0xA8 code && nat_le code 0xAB) || (nat_le 0xAE code && nat_le code 0xBF)

-- what is wrong with an opcode that the profile doesn't have
abbrev pub opcode_fault : ℕ → ReadKind
opcode_fault code = if is_float code then FloatUsed else BadOpcode
