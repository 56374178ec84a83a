-- Instructions on numbers, operands, globals and memory (sections 4.4.1, 4.4.2, 4.4.4, and the globals of 4.4.3).
use Rattle.std.specs.Prelude.{ℕ, ◌+◌, ◌-◌, ◌^◌, ◌==◌, nat_lt, Bool, true, false, if◌then◌else◌, Result, Ok, Err, Option, Some, None, List, [], ◌∷◌, slice_get, slice_set, length}
use Rattle.std.specs.Int.{w8, w16, w32, w64}
use Rattle.wasm_types.specs.declared.values.TrapKind.{TrapKind}
use Rattle.wasm_types.specs.declared.values.TrapKind.TheVariants as traps
use Rattle.wasm_types.specs.declared.values.Value.{Value}
use Rattle.wasm_types.specs.declared.values.Value.TheVariants.{I32, I64}
use Rattle.wasm_types.specs.declared.instructions.Instr.{Instr}
use Rattle.wasm_types.specs.declared.instructions.Instr.TheVariants.{Nop, Unreachable, Drop, Select, GlobalGet, GlobalSet, Load, Store, MemorySize, MemoryGrow, Const, I32Test, I32Compare, I32Unary, I32Binary, I64Test, I64Compare, I64Unary, I64Binary}
use Rattle.wasm_types.specs.declared.instructions.Instr.TheVariants as instrs
use Rattle.wasm_types.specs.declared.instructions.Convert.{Convert}
use Rattle.wasm_types.specs.declared.instructions.Convert.TheVariants.{WrapI64, ExtendI32S, ExtendI32U}
use Rattle.wasm_types.specs.declared.instructions.LoadKind.{LoadKind}
use Rattle.wasm_types.specs.declared.instructions.LoadKind.TheVariants as loads
use Rattle.wasm_types.specs.declared.instructions.StoreKind.{StoreKind}
use Rattle.wasm_types.specs.declared.instructions.StoreKind.TheVariants as stores
use Rattle.wasm_num.specs.Numbers.{binary, unary, test, compare, truth, convert, extend_s}
use Rattle.wasm_memory.specs.Bytes.{is_inside, bytes_at, number_of, bytes_of, written}
use Rattle.wasm_memory.specs.Linear.{Linear, pages_of, grown, grown_from, with_bytes}
use Rattle.wasm_meaning.specs.declared.off.Off.{Off}
use Rattle.wasm_meaning.specs.declared.off.Off.TheVariants.{Stuck, Trap}
use Rattle.wasm_meaning.specs.Steps.{◌>>=◌, found}
use Rattle.wasm_meaning.specs.Kinds.{same_kind}
use Rattle.wasm_meaning.specs.World.{Desk}

-- ---- operands

abbrev pub push : Value → Desk → Desk
push v d = record d { operands = v ∷ d.operands }

-- the topmost operand, and what is left
abbrev pub pop_of : List Value → Desk → Result (Value × Desk) Off
pop_of [] d = Err Stuck
pop_of (v ∷ vs) d = Ok (v, record d { operands = vs })

abbrev pub pop : Desk → Result (Value × Desk) Off
pop d = pop_of d.operands d

abbrev pub as32 : Value → Result ℕ Off
as32 (I32 n) = Ok n
as32 (I64 n) = Err Stuck

abbrev pub as64 : Value → Result ℕ Off
as64 (I32 n) = Err Stuck
as64 (I64 n) = Ok n

abbrev pub pop32 : Desk → Result (ℕ × Desk) Off
pop32 d = pop d >>= λ p. as32 p.0 >>= λ n. Ok (n, p.1)

abbrev pub pop64 : Desk → Result (ℕ × Desk) Off
pop64 d = pop d >>= λ p. as64 p.0 >>= λ n. Ok (n, p.1)

-- ---- numbers (section 4.4.1)

-- a number of this kind, or the trap of an operation that has no result
abbrev pub given : (ℕ → Value) → Result ℕ TrapKind → Desk → Result Desk Off
given kind (Ok n) d = Ok (push (kind n) d)
given kind (Err trap) d = Err (Trap trap)

abbrev pub converted : Convert → Desk → Result Desk Off
converted WrapI64 d = pop64 d >>= λ p. Ok (push (I32 (convert WrapI64 p.0)) p.1)
converted ExtendI32S d = pop32 d >>= λ p. Ok (push (I64 (convert ExtendI32S p.0)) p.1)
converted ExtendI32U d = pop32 d >>= λ p. Ok (push (I64 (convert ExtendI32U p.0)) p.1)

-- ---- select (section 4.4.2): of two operands of one type the upper one where the test is zero

abbrev pub chosen : Bool → Value → Value → Value
chosen true first second = second
chosen false first second = first

abbrev pub selected : Bool → Bool → Value → Value → Desk → Result Desk Off
selected true zero first second d = Ok (push (chosen zero first second) d)
selected false zero first second d = Err Stuck

-- ---- globals (section 4.4.3)

abbrev pub set_if : Bool → ℕ → Value → List Value → Result (List Value) Off
set_if true x v vs = Ok (slice_set vs x v)
set_if false x v vs = Err Stuck

-- what is written at an index
abbrev pub set_at : ℕ → Value → List Value → Result (List Value) Off
set_at x v vs = set_if (nat_lt x (length vs)) x v vs

abbrev pub with_globals : List Value → Desk → Desk
with_globals globals d = record d { world = record d.world { globals = globals } }

-- ---- memory (section 4.4.4): the place is the operand plus the offset, without a bound

abbrev pub with_memory : Linear → Desk → Desk
with_memory memory d = record d { world = record d.world { memory = Some memory } }

-- how many bytes a load reads
abbrev pub load_size : LoadKind → ℕ
load_size loads.I32 = 4
load_size loads.I64 = 8
load_size loads.I32From8S = 1
load_size loads.I32From8U = 1
load_size loads.I32From16S = 2
load_size loads.I32From16U = 2
load_size loads.I64From8S = 1
load_size loads.I64From8U = 1
load_size loads.I64From16S = 2
load_size loads.I64From16U = 2
load_size loads.I64From32S = 4
load_size loads.I64From32U = 4

-- what it makes of their number
abbrev pub loaded : LoadKind → ℕ → Value
loaded loads.I32 n = I32 n
loaded loads.I64 n = I64 n
loaded loads.I32From8S n = I32 (extend_s w8 w32 n)
loaded loads.I32From8U n = I32 n
loaded loads.I32From16S n = I32 (extend_s w16 w32 n)
loaded loads.I32From16U n = I32 n
loaded loads.I64From8S n = I64 (extend_s w8 w64 n)
loaded loads.I64From8U n = I64 n
loaded loads.I64From16S n = I64 (extend_s w16 w64 n)
loaded loads.I64From16U n = I64 n
loaded loads.I64From32S n = I64 (extend_s w32 w64 n)
loaded loads.I64From32U n = I64 n

abbrev pub read : ℕ → ℕ → Linear → Result ℕ Off
read size place m = if is_inside m.bytes place size then Ok (number_of (bytes_at m.bytes place size)) else Err (Trap traps.OutOfBounds)

abbrev pub load : LoadKind → ℕ → Desk → Result Desk Off
load kind offset d =
    pop32 d >>= λ p. found p.1.world.memory >>= λ m. read (load_size kind) (p.0 + offset) m >>= λ n. Ok (push (loaded kind n) p.1)

-- how many bytes a store writes
abbrev pub store_size : StoreKind → ℕ
store_size stores.I32 = 4
store_size stores.I64 = 8
store_size stores.I32To8 = 1
store_size stores.I32To16 = 2
store_size stores.I64To8 = 1
store_size stores.I64To16 = 2
store_size stores.I64To32 = 4

-- the number that it takes
abbrev pub stored : StoreKind → Value → Result ℕ Off
stored stores.I32 v = as32 v
stored stores.I64 v = as64 v
stored stores.I32To8 v = as32 v
stored stores.I32To16 v = as32 v
stored stores.I64To8 v = as64 v
stored stores.I64To16 v = as64 v
stored stores.I64To32 v = as64 v

abbrev pub write : ℕ → ℕ → ℕ → Linear → Result Linear Off
write size place n m = if is_inside m.bytes place size then Ok (with_bytes m (written m.bytes place (bytes_of size n))) else Err (Trap traps.OutOfBounds)

abbrev pub store : StoreKind → ℕ → Desk → Result Desk Off
store kind offset d =
    pop d >>= λ p. stored kind p.0 >>= λ n. pop32 p.1 >>= λ q. found q.1.world.memory >>= λ m. write (store_size kind) (q.0 + offset) n m >>= λ m'. Ok (with_memory m' q.1)

-- what `memory.grow` answers: -1 where the memory may not have so many pages
abbrev pub grow_answer : Option ℕ → ℕ
grow_answer None = 2 ^ 32 - 1
grow_answer (Some pages) = pages

-- ---- the instructions, by their names

abbrev pub acts : Instr → Desk → Result Desk Off
acts Unreachable d = Err (Trap traps.Unreachable)
acts Nop d = Ok d
acts Drop d = pop d >>= λ p. Ok p.1
acts Select d = pop32 d >>= λ p. pop p.1 >>= λ q. pop q.1 >>= λ r. selected (same_kind r.0 q.0) (p.0 == 0) r.0 q.0 r.1
acts (GlobalGet x) d = found (slice_get d.world.globals x) >>= λ v. Ok (push v d)
acts (GlobalSet x) d = pop d >>= λ p. set_at x p.0 p.1.world.globals >>= λ vs. Ok (with_globals vs p.1)
acts (Load kind align offset) d = load kind offset d
acts (Store kind align offset) d = store kind offset d
acts MemorySize d = found d.world.memory >>= λ m. Ok (push (I32 (pages_of m)) d)
acts MemoryGrow d = pop32 d >>= λ p. found p.1.world.memory >>= λ m. Ok (push (I32 (grow_answer (grown_from m p.0))) (with_memory (grown m p.0) p.1))
acts (Const v) d = Ok (push v d)
acts (I32Test op) d = pop32 d >>= λ p. Ok (push (I32 (truth (test op p.0))) p.1)
acts (I32Compare op) d = pop32 d >>= λ p. pop32 p.1 >>= λ q. Ok (push (I32 (truth (compare w32 op q.0 p.0))) q.1)
acts (I32Unary op) d = pop32 d >>= λ p. Ok (push (I32 (unary w32 op p.0)) p.1)
acts (I32Binary op) d = pop32 d >>= λ p. pop32 p.1 >>= λ q. given I32 (binary w32 op q.0 p.0) q.1
acts (I64Test op) d = pop64 d >>= λ p. Ok (push (I32 (truth (test op p.0))) p.1)
acts (I64Compare op) d = pop64 d >>= λ p. pop64 p.1 >>= λ q. Ok (push (I32 (truth (compare w64 op q.0 p.0))) q.1)
acts (I64Unary op) d = pop64 d >>= λ p. Ok (push (I64 (unary w64 op p.0)) p.1)
acts (I64Binary op) d = pop64 d >>= λ p. pop64 p.1 >>= λ q. given I64 (binary w64 op q.0 p.0) q.1
acts (instrs.Convert op) d = converted op d
acts i d = Err Stuck
