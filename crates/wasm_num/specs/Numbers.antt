-- What the operations on numbers give (section 4.3.2). A number of N bits is one below 2 ^ N; `w32` and `w64` are the sizes.
use Rattle.std.specs.Prelude.{ℕ, ◌+◌, ◌-◌, ◌*◌, ◌/◌, ◌%◌, ◌^◌, ◌==◌, nat_lt, nat_le, Bool, true, false, ℤ, pos, negsuc, if◌then◌else◌, Result, Ok, Err, not, bit_and, bit_or, bit_xor, count_ones}
use Rattle.std.specs.Int.{Width, w32, w64, cast_signed, cast_unsigned, int_shr, leading_zeros, trailing_zeros}
use mir.Val.{bits}
use Rattle.std.specs.Int.RustNames.{int_div, int_rem, int_lt, int_le}
use Rattle.wasm_types.specs.declared.values.TrapKind.{TrapKind}
use Rattle.wasm_types.specs.declared.values.TrapKind.TheVariants.{DivideByZero, Overflow}
use Rattle.wasm_types.specs.declared.instructions.Test.{Test}
use Rattle.wasm_types.specs.declared.instructions.Test.TheVariants.{Eqz}
use Rattle.wasm_types.specs.declared.instructions.Compare.{Compare}
use Rattle.wasm_types.specs.declared.instructions.Compare.TheVariants.{Eq, Ne, LtS, LtU, GtS, GtU, LeS, LeU, GeS, GeU}
use Rattle.wasm_types.specs.declared.instructions.Unary.{Unary}
use Rattle.wasm_types.specs.declared.instructions.Unary.TheVariants.{Clz, Ctz, Popcnt}
use Rattle.wasm_types.specs.declared.instructions.Binary.{Binary}
use Rattle.wasm_types.specs.declared.instructions.Binary.TheVariants.{Add, Sub, Mul, DivS, DivU, RemS, RemU, And, Or, Xor, Shl, ShrS, ShrU, Rotl, Rotr}
use Rattle.wasm_types.specs.declared.instructions.Convert.{Convert}
use Rattle.wasm_types.specs.declared.instructions.Convert.TheVariants.{WrapI64, ExtendI32S, ExtendI32U}

-- N
abbrev pub size : Width → ℕ
size w = bits w

-- the signed number that bits are in two's complement: below 2 ^ (N - 1) the number itself, from there on 2 ^ N less (section 4.3.1)
abbrev pub signed : Width → ℕ → ℤ
signed w a = cast_signed w a

abbrev pub is_minus : ℤ → Bool
is_minus (pos n) = false
is_minus (negsuc n) = true

-- the bits of a signed number
abbrev pub bits_of : Width → ℤ → ℕ
bits_of w z = cast_unsigned w z

-- ---- arithmetic, modulo 2 ^ N

abbrev pub iadd : Width → ℕ → ℕ → ℕ
iadd w a b = (a + b) % 2 ^ size w

abbrev pub isub : Width → ℕ → ℕ → ℕ
isub w a b = (a + (2 ^ size w - b)) % 2 ^ size w

abbrev pub imul : Width → ℕ → ℕ → ℕ
imul w a b = (a * b) % 2 ^ size w

-- ---- division: by 0 it has no result

abbrev pub divided : ℕ → Result ℕ TrapKind → Result ℕ TrapKind
divided b r = if b == 0 then Err DivideByZero else r

abbrev pub idiv_u : ℕ → ℕ → Result ℕ TrapKind
idiv_u a b = divided b (Ok (a / b))

abbrev pub irem_u : ℕ → ℕ → Result ℕ TrapKind
irem_u a b = divided b (Ok (a % b))

-- whether a signed number has N bits: it lies from -2 ^ (N - 1) to 2 ^ (N - 1) - 1
abbrev pub has_bits : Width → ℤ → Bool
has_bits w (pos n) = nat_lt n (2 ^ (size w - 1))
has_bits w (negsuc n) = nat_lt n (2 ^ (size w - 1))

-- the quotient rounds toward zero; one that has no bits is no result
abbrev pub idiv_s : Width → ℕ → ℕ → Result ℕ TrapKind
idiv_s w a b =
    divided b (if has_bits w (int_div (signed w a) (signed w b)) then Ok (bits_of w (int_div (signed w a) (signed w b))) else Err Overflow)

-- the remainder has the sign of the dividend
abbrev pub irem_s : Width → ℕ → ℕ → Result ℕ TrapKind
irem_s w a b = divided b (Ok (bits_of w (int_rem (signed w a) (signed w b))))

-- ---- shifts, by a count modulo N

abbrev pub ishl : Width → ℕ → ℕ → ℕ
ishl w a b = (a * 2 ^ (b % size w)) % 2 ^ size w

abbrev pub ishr_u : Width → ℕ → ℕ → ℕ
ishr_u w a b = a / 2 ^ (b % size w)

-- the signed number divided by a power of 2, rounded down
abbrev pub ishr_s : Width → ℕ → ℕ → ℕ
ishr_s w a b = bits_of w (int_shr (signed w a) (b % size w))

-- the k highest bits come to stand below the others
abbrev pub irotl : Width → ℕ → ℕ → ℕ
irotl w a b = a % 2 ^ (size w - b % size w) * 2 ^ (b % size w) + a / 2 ^ (size w - b % size w)

-- the k lowest bits come to stand above the others
abbrev pub irotr : Width → ℕ → ℕ → ℕ
irotr w a b = a % 2 ^ (b % size w) * 2 ^ (size w - b % size w) + a / 2 ^ (b % size w)

-- ---- the instructions, by their names

abbrev pub binary : Width → Binary → ℕ → ℕ → Result ℕ TrapKind
binary w Add a b = Ok (iadd w a b)
binary w Sub a b = Ok (isub w a b)
binary w Mul a b = Ok (imul w a b)
binary w DivS a b = idiv_s w a b
binary w DivU a b = idiv_u a b
binary w RemS a b = irem_s w a b
binary w RemU a b = irem_u a b
binary w And a b = Ok (bit_and a b)
binary w Or a b = Ok (bit_or a b)
binary w Xor a b = Ok (bit_xor a b)
binary w Shl a b = Ok (ishl w a b)
binary w ShrS a b = Ok (ishr_s w a b)
binary w ShrU a b = Ok (ishr_u w a b)
binary w Rotl a b = Ok (irotl w a b)
binary w Rotr a b = Ok (irotr w a b)

-- how many zeros stand above the highest one, below the lowest one; how many ones there are
abbrev pub unary : Width → Unary → ℕ → ℕ
unary w Clz a = leading_zeros w a
unary w Ctz a = trailing_zeros w a
unary w Popcnt a = count_ones a

abbrev pub test : Test → ℕ → Bool
test Eqz a = a == 0

abbrev pub compare : Width → Compare → ℕ → ℕ → Bool
compare w Eq a b = a == b
compare w Ne a b = not (a == b)
compare w LtS a b = int_lt (signed w a) (signed w b)
compare w LtU a b = nat_lt a b
compare w GtS a b = int_lt (signed w b) (signed w a)
compare w GtU a b = nat_lt b a
compare w LeS a b = int_le (signed w a) (signed w b)
compare w LeU a b = nat_le a b
compare w GeS a b = int_le (signed w b) (signed w a)
compare w GeU a b = nat_le b a

-- a test answers 1 or 0
abbrev pub truth : Bool → ℕ
truth b = if b then 1 else 0

-- ---- conversions (section 4.3.4)

-- the same signed number in more bits
abbrev pub extend_s : Width → Width → ℕ → ℕ
extend_s from to a = bits_of to (signed from a)

abbrev pub convert : Convert → ℕ → ℕ
convert WrapI64 a = a % 2 ^ 32
convert ExtendI32S a = extend_s w32 w64 a
convert ExtendI32U a = a

-- how many bits an operand has
abbrev pub operand_width : Convert → Width
operand_width WrapI64 = w64
operand_width ExtendI32S = w32
operand_width ExtendI32U = w32
