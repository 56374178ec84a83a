-- What stands below the operands of a block isn't touched.
use Rattle.std.proofs.Common.{◌≡◌, ℕ, ◌+◌, ◌==◌, ◌⊎◌, inl, inr, refl, Ok, Err, Option, Some, None, Bool, true, false, List, [], ◌∷◌, ◌++◌, length, nat_lt, slice_get, Result}
use Rattle.std.specs.Int.{w32, w64}
use Rattle.wasm_types.specs.declared.values.Value.{Value}
use Rattle.wasm_types.specs.declared.values.Value.TheVariants.{I32, I64}
use Rattle.wasm_types.specs.declared.values.TrapKind.{TrapKind}
use Rattle.wasm_types.specs.declared.instructions.Instr.{Instr}
use Rattle.wasm_types.specs.declared.instructions.Instr.TheVariants.{Nop, Unreachable, Const, I32Test, I32Unary, I32Binary, I32Compare, I64Test, I64Unary, I64Binary, I64Compare, Drop, Select, GlobalGet, GlobalSet, Load, Store, MemorySize, MemoryGrow}
use Rattle.wasm_types.specs.declared.instructions.Instr.TheVariants as instrs
use Rattle.wasm_types.specs.declared.instructions.Convert.TheVariants.{WrapI64, ExtendI32S, ExtendI32U}
use Rattle.wasm_types.specs.declared.instructions.LoadKind.{LoadKind}
use Rattle.wasm_types.specs.declared.instructions.StoreKind.{StoreKind}
use Rattle.wasm_num.specs.Numbers.{binary}
use Rattle.wasm_memory.specs.Linear.{Linear, pages_of, grown, grown_from}
use Rattle.wasm_meaning.specs.World.{World, Desk}
use Rattle.wasm_meaning.specs.declared.off.Off.{Off}
use Rattle.wasm_meaning.specs.declared.off.Off.TheVariants.{Stuck}
use Rattle.wasm_meaning.specs.Steps.{◌>>=◌, found}
use Rattle.wasm_meaning.specs.Kinds.{same_kind}
use Rattle.wasm_meaning.specs.Acts.{acts, pop32, given, selected, set_if, push, with_memory, read, write, load_size, loaded, store_size, stored, grow_answer}

abbrev pub desk_of : List Value → World → Desk
desk_of vs w = record { operands = vs; world = w }

abbrev pub over : List Value → Result Desk Off → Result Desk Off
over below (Ok d) = Ok (record d { operands = d.operands ++ below })
over below (Err e) = Err e

given_over : (kind : ℕ → Value) (r : Result ℕ TrapKind) (vs below : List Value) (g : World) → given kind r (desk_of (vs ++ below) g) ≡ over below (given kind r (desk_of vs g))
given_over kind (Ok n) vs below g = refl
given_over kind (Err trap) vs below g = refl

selected_over : (same zero : Bool) (v w : Value) (vs below : List Value) (g : World) → selected same zero v w (desk_of (vs ++ below) g) ≡ over below (selected same zero v w (desk_of vs g))
selected_over true zero v w vs below g = refl
selected_over false zero v w vs below g = refl

get_over : (o : Option Value) (vs below : List Value) (g : World) → (found o >>= λ v. Ok (push v (desk_of (vs ++ below) g))) ≡ over below (found o >>= λ v. Ok (push v (desk_of vs g)))
get_over None vs below g = refl
get_over (Some v) vs below g = refl

set_over : (b : Bool) (x : ℕ) (v : Value) (vs below : List Value) (g : World) → (set_if b x v g.globals >>= λ ws. Ok (desk_of (vs ++ below) (record g { globals = ws }))) ≡ over below (set_if b x v g.globals >>= λ ws. Ok (desk_of vs (record g { globals = ws })))
set_over true x v vs below g = refl
set_over false x v vs below g = refl

-- ---- memory

size_over : (o : Option Linear) (vs below : List Value) (g : World) → (found o >>= λ m. Ok (push (I32 (pages_of m)) (desk_of (vs ++ below) g))) ≡ over below (found o >>= λ m. Ok (push (I32 (pages_of m)) (desk_of vs g)))
size_over None vs below g = refl
size_over (Some m) vs below g = refl

grow_over : (o : Option Linear) (more : ℕ) (vs below : List Value) (g : World)
    → (found o >>= λ m. Ok (push (I32 (grow_answer (grown_from m more))) (with_memory (grown m more) (desk_of (vs ++ below) g)))) ≡ over below (found o >>= λ m. Ok (push (I32 (grow_answer (grown_from m more))) (with_memory (grown m more) (desk_of vs g))))
grow_over None more vs below g = refl
grow_over (Some m) more vs below g = refl

read_over : (kind : LoadKind) (r : Result ℕ Off) (vs below : List Value) (g : World) → (r >>= λ n. Ok (push (loaded kind n) (desk_of (vs ++ below) g))) ≡ over below (r >>= λ n. Ok (push (loaded kind n) (desk_of vs g)))
read_over kind (Ok n) vs below g = refl
read_over kind (Err e) vs below g = refl

load_over : (kind : LoadKind) (o : Option Linear) (place : ℕ) (vs below : List Value) (g : World)
    → (found o >>= λ m. read (load_size kind) place m >>= λ n. Ok (push (loaded kind n) (desk_of (vs ++ below) g))) ≡ over below (found o >>= λ m. read (load_size kind) place m >>= λ n. Ok (push (loaded kind n) (desk_of vs g)))
load_over kind None place vs below g = refl
load_over kind (Some m) place vs below g = read_over kind (read (load_size kind) place m) vs below g

write_over : (r : Result Linear Off) (vs below : List Value) (g : World) → (r >>= λ m. Ok (with_memory m (desk_of (vs ++ below) g))) ≡ over below (r >>= λ m. Ok (with_memory m (desk_of vs g)))
write_over (Ok n) vs below g = refl
write_over (Err e) vs below g = refl

placed_over : (o : Option Linear) (size place n : ℕ) (vs below : List Value) (g : World)
    → (found o >>= λ m. write size place n m >>= λ m'. Ok (with_memory m' (desk_of (vs ++ below) g))) ≡ over below (found o >>= λ m. write size place n m >>= λ m'. Ok (with_memory m' (desk_of vs g)))
placed_over None size place n vs below g = refl
placed_over (Some m) size place n vs below g = write_over (write size place n m) vs below g

-- a store of a number, or of an operand that isn't of the store's type
abbrev stored_at : StoreKind → ℕ → Result ℕ Off → Desk → Result Desk Off
stored_at kind offset r d = r >>= λ n. pop32 d >>= λ q. found q.1.world.memory >>= λ m. write (store_size kind) (q.0 + offset) n m >>= λ m'. Ok (with_memory m' q.1)

store_over : (kind : StoreKind) (offset : ℕ) (r : Result ℕ Off) (vs below : List Value) (g : World)
    → (stored_at kind offset r (desk_of vs g) ≡ Err Stuck) ⊎ (stored_at kind offset r (desk_of (vs ++ below) g) ≡ over below (stored_at kind offset r (desk_of vs g)))
store_over kind offset (Err e) vs below g = inr refl
store_over kind offset (Ok n) [] below g = inl refl
store_over kind offset (Ok n) (I64 k ∷ vs) below g = inl refl
store_over kind offset (Ok n) (I32 k ∷ vs) below g = inr (placed_over g.memory (store_size kind) (k + offset) n vs below g)

-- ---- all

pub carried : (i : Instr) (vs below : List Value) (g : World) → (acts i (desk_of vs g) ≡ Err Stuck) ⊎ (acts i (desk_of (vs ++ below) g) ≡ over below (acts i (desk_of vs g)))
carried Unreachable vs below g = inr refl
carried Nop vs below g = inr refl
carried Drop [] below g = inl refl
carried Drop (v ∷ vs) below g = inr refl
carried Select [] below g = inl refl
carried Select (I64 n ∷ vs) below g = inl refl
carried Select (I32 n ∷ []) below g = inl refl
carried Select (I32 n ∷ v ∷ []) below g = inl refl
carried Select (I32 n ∷ v ∷ w ∷ vs) below g = inr (selected_over (same_kind w v) (n == 0) w v vs below g)
carried (GlobalGet x) vs below g = inr (get_over (slice_get g.globals x) vs below g)
carried (GlobalSet x) [] below g = inl refl
carried (GlobalSet x) (v ∷ vs) below g = inr (set_over (nat_lt x (length g.globals)) x v vs below g)
carried (Load kind align offset) [] below g = inl refl
carried (Load kind align offset) (I64 n ∷ vs) below g = inl refl
carried (Load kind align offset) (I32 n ∷ vs) below g = inr (load_over kind g.memory (n + offset) vs below g)
carried (Store kind align offset) [] below g = inl refl
carried (Store kind align offset) (v ∷ vs) below g = store_over kind offset (stored kind v) vs below g
carried MemorySize vs below g = inr (size_over g.memory vs below g)
carried MemoryGrow [] below g = inl refl
carried MemoryGrow (I64 n ∷ vs) below g = inl refl
carried MemoryGrow (I32 n ∷ vs) below g = inr (grow_over g.memory n vs below g)
carried (Const v) vs below g = inr refl
carried (I32Test op) [] below g = inl refl
carried (I32Test op) (I64 n ∷ vs) below g = inl refl
carried (I32Test op) (I32 n ∷ vs) below g = inr refl
carried (I32Unary op) [] below g = inl refl
carried (I32Unary op) (I64 n ∷ vs) below g = inl refl
carried (I32Unary op) (I32 n ∷ vs) below g = inr refl
carried (I32Compare op) [] below g = inl refl
carried (I32Compare op) (I64 n ∷ vs) below g = inl refl
carried (I32Compare op) (I32 n ∷ []) below g = inl refl
carried (I32Compare op) (I32 n ∷ I64 m ∷ vs) below g = inl refl
carried (I32Compare op) (I32 n ∷ I32 m ∷ vs) below g = inr refl
carried (I32Binary op) [] below g = inl refl
carried (I32Binary op) (I64 n ∷ vs) below g = inl refl
carried (I32Binary op) (I32 n ∷ []) below g = inl refl
carried (I32Binary op) (I32 n ∷ I64 m ∷ vs) below g = inl refl
carried (I32Binary op) (I32 n ∷ I32 m ∷ vs) below g = inr (given_over I32 (binary w32 op m n) vs below g)
carried (I64Test op) [] below g = inl refl
carried (I64Test op) (I32 n ∷ vs) below g = inl refl
carried (I64Test op) (I64 n ∷ vs) below g = inr refl
carried (I64Unary op) [] below g = inl refl
carried (I64Unary op) (I32 n ∷ vs) below g = inl refl
carried (I64Unary op) (I64 n ∷ vs) below g = inr refl
carried (I64Compare op) [] below g = inl refl
carried (I64Compare op) (I32 n ∷ vs) below g = inl refl
carried (I64Compare op) (I64 n ∷ []) below g = inl refl
carried (I64Compare op) (I64 n ∷ I32 m ∷ vs) below g = inl refl
carried (I64Compare op) (I64 n ∷ I64 m ∷ vs) below g = inr refl
carried (I64Binary op) [] below g = inl refl
carried (I64Binary op) (I32 n ∷ vs) below g = inl refl
carried (I64Binary op) (I64 n ∷ []) below g = inl refl
carried (I64Binary op) (I64 n ∷ I32 m ∷ vs) below g = inl refl
carried (I64Binary op) (I64 n ∷ I64 m ∷ vs) below g = inr (given_over I64 (binary w64 op m n) vs below g)
carried (instrs.Convert WrapI64) [] below g = inl refl
carried (instrs.Convert WrapI64) (I32 n ∷ vs) below g = inl refl
carried (instrs.Convert WrapI64) (I64 n ∷ vs) below g = inr refl
carried (instrs.Convert ExtendI32S) [] below g = inl refl
carried (instrs.Convert ExtendI32S) (I64 n ∷ vs) below g = inl refl
carried (instrs.Convert ExtendI32S) (I32 n ∷ vs) below g = inr refl
carried (instrs.Convert ExtendI32U) [] below g = inl refl
carried (instrs.Convert ExtendI32U) (I64 n ∷ vs) below g = inl refl
carried (instrs.Convert ExtendI32U) (I32 n ∷ vs) below g = inr refl
carried i vs below g = inr refl
