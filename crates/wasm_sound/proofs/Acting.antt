-- Typed instructions on operands, globals and memory aren't stuck, and leave typed operands.
use Rattle.std.proofs.Common.{◌≡◌, ℕ, zero, suc, ◌+◌, ◌<◌, refl, sym, ap, subst, ◌∙◌, Ok, Err, Some, None, true, false, Bool, if◌then◌else◌, Option, List, [], ◌∷◌, ◌++◌, Result, length, slice_get, slice_set, nat_lt, ◌==◌, arith}
use Rattle.std.proofs.lemmas.Bool.{lt-ltb}
use Rattle.wasm_types.specs.declared.types.ValueType.{ValueType}
use Rattle.wasm_types.specs.declared.types.ValueType.TheVariants as types
use Rattle.wasm_types.specs.declared.types.GlobalType.{GlobalType}
use Rattle.wasm_types.specs.declared.values.TrapKind.{TrapKind}
use Rattle.wasm_types.specs.declared.values.TrapKind.TheVariants.{OutOfBounds}
use Rattle.wasm_types.specs.declared.values.Value.{Value}
use Rattle.wasm_types.specs.declared.values.Value.TheVariants.{I32, I64}
use Rattle.wasm_types.specs.declared.instructions.Test.{Test}
use Rattle.wasm_types.specs.declared.instructions.Compare.{Compare}
use Rattle.wasm_types.specs.declared.instructions.Unary.{Unary}
use Rattle.wasm_types.specs.declared.instructions.Binary.{Binary}
use Rattle.wasm_types.specs.declared.instructions.Convert.{Convert}
use Rattle.wasm_types.specs.declared.instructions.Convert.TheVariants.{WrapI64, ExtendI32S, ExtendI32U}
use Rattle.wasm_types.specs.declared.instructions.LoadKind.{LoadKind}
use Rattle.wasm_types.specs.declared.instructions.LoadKind.TheVariants as loads
use Rattle.wasm_types.specs.declared.instructions.StoreKind.{StoreKind}
use Rattle.wasm_types.specs.declared.instructions.StoreKind.TheVariants as stores
use Rattle.wasm_types.specs.declared.instructions.Instr.TheVariants as instrs
use Rattle.std.specs.Int.{w32, w64}
use Rattle.wasm_num.specs.Numbers.{binary, unary, test, compare, truth, convert}
use Rattle.wasm_memory.specs.Bytes.{is_inside, bytes_at, number_of, bytes_of, written}
use Rattle.wasm_memory.specs.Linear.{Linear, pages_of, grown, grown_from, with_bytes}
use Rattle.wasm_validate.specs.declared.fault.ValidKind.{ValidKind}
use Rattle.wasm_validate.specs.Rules.{Context, Rule, Mono, type_of}
use Rattle.wasm_validate.specs.Rules as rules_of
use Rattle.wasm_validate.specs.Typing.{Types, Moves}
use Rattle.wasm_meaning.specs.declared.off.Off.{Off}
use Rattle.wasm_meaning.specs.declared.off.Off.TheVariants.{Stuck, Trap}
use Rattle.wasm_meaning.specs.Steps.{◌>>=◌, found}
use Rattle.wasm_meaning.specs.Kinds.{same_kind}
use Rattle.wasm_meaning.specs.World.{World, Desk}
use Rattle.wasm_meaning.specs.Acts.{push, pop, pop32, pop64, given, converted, chosen, selected, set_at, with_globals, with_memory, load_size, loaded, read, load, store_size, stored, write, store, grow_answer, acts}
use Rattle.wasm_sound.specs.Typed.{TypedAs, HaveTypes, HasMemory, WorldTyped}
use Rattle.wasm_sound.proofs.Settling.{retyped}

abbrev pub desk : List Value → World → Desk
desk vs w = record { operands = vs; world = w }

pub record DeskTyped (c : Context) (ts : Types) (d : Desk) : Type 0 where
  pub operands : TypedAs d.operands ts
  pub world : WorldTyped c d.world

abbrev pub DeskSafe : Context → Types → Result Desk Off → Type 0
DeskSafe c ts (Ok d) = DeskTyped c ts d
DeskSafe c ts (Err e) = e ≡ Stuck → ⊥

-- the rule's move, where there is a rule
abbrev pub Moved : Result Rule ValidKind → Types → Types → Type 0
Moved (Ok rule) xs ys = Moves rule xs ys
Moved (Err kind) xs ys = ⊥

-- ---- operands

pushed : (c : Context) (w : World) (v : Value) (vs : List Value) (ts : Types) → WorldTyped c w → TypedAs vs ts → DeskTyped c (type_of v ∷ ts) (push v (desk vs w))
pushed c w v vs ts k h = record { operands = (refl, h); world = k }

first : (c : Context) (ys ts : Types) (t : ValueType) (w : World) (vs : List Value) (f : Value → Desk → Result Desk Off) → TypedAs vs (t ∷ ts)
    → ((v : Value) (rest : List Value) → type_of v ≡ t → TypedAs rest ts → DeskSafe c ys (f v (desk rest w))) → DeskSafe c ys (pop (desk vs w) >>= λ p. f p.0 p.1)
first c ys ts t w [] f h k = absurd h
first c ys ts t w (v ∷ vs) f h k = k v vs h.0 h.1

first32 : (c : Context) (ys ts : Types) (w : World) (vs : List Value) (f : ℕ → Desk → Result Desk Off) → TypedAs vs (types.I32 ∷ ts)
    → ((n : ℕ) (rest : List Value) → TypedAs rest ts → DeskSafe c ys (f n (desk rest w))) → DeskSafe c ys (pop32 (desk vs w) >>= λ p. f p.0 p.1)
first32 c ys ts w [] f h k = absurd h
first32 c ys ts w (I64 n ∷ vs) f h k = absurd (cc (h.0))
first32 c ys ts w (I32 n ∷ vs) f h k = k n vs h.1

first64 : (c : Context) (ys ts : Types) (w : World) (vs : List Value) (f : ℕ → Desk → Result Desk Off) → TypedAs vs (types.I64 ∷ ts)
    → ((n : ℕ) (rest : List Value) → TypedAs rest ts → DeskSafe c ys (f n (desk rest w))) → DeskSafe c ys (pop64 (desk vs w) >>= λ p. f p.0 p.1)
first64 c ys ts w [] f h k = absurd h
first64 c ys ts w (I32 n ∷ vs) f h k = absurd (cc (h.0))
first64 c ys ts w (I64 n ∷ vs) f h k = k n vs h.1

given32 : (c : Context) (w : World) (r : Result ℕ TrapKind) (vs : List Value) (ts : Types) → WorldTyped c w → TypedAs vs ts → DeskSafe c (types.I32 ∷ ts) (given I32 r (desk vs w))
given32 c w (Ok n) vs ts k h = pushed c w (I32 n) vs ts k h
given32 c w (Err e) vs ts k h = λ e. cc

given64 : (c : Context) (w : World) (r : Result ℕ TrapKind) (vs : List Value) (ts : Types) → WorldTyped c w → TypedAs vs ts → DeskSafe c (types.I64 ∷ ts) (given I64 r (desk vs w))
given64 c w (Ok n) vs ts k h = pushed c w (I64 n) vs ts k h
given64 c w (Err e) vs ts k h = λ e. cc

-- an instruction that takes and gives stated types
pub mono : (c : Context) (takes gives xs ys : Types) (vs : List Value) (r : Result Desk Off) → Moves (Mono takes gives) xs ys → TypedAs vs xs
    → ((below : Types) → TypedAs vs (takes ++ below) → DeskSafe c (gives ++ below) r) → DeskSafe c ys r
mono c takes gives xs ys vs r m h k =
    let P : Types → Type 0 = λ ts. DeskSafe c ts r in subst P (sym m.2) (k m.0 (retyped vs xs (takes ++ m.0) m.1 h))

-- ---- numbers

module _ (c : Context) (w : World) (k : WorldTyped c w) (vs : List Value) (below : Types) where
  pub test32 : (op : Test) → TypedAs vs (types.I32 ∷ below) → DeskSafe c (types.I32 ∷ below) (acts (instrs.I32Test op) (desk vs w))
  test32 op h = first32 c (types.I32 ∷ below) below w vs (λ n d. Ok (push (I32 (truth (test op n))) d)) h (λ n rest g. pushed c w (I32 (truth (test op n))) rest below k g)

  pub test64 : (op : Test) → TypedAs vs (types.I64 ∷ below) → DeskSafe c (types.I32 ∷ below) (acts (instrs.I64Test op) (desk vs w))
  test64 op h = first64 c (types.I32 ∷ below) below w vs (λ n d. Ok (push (I32 (truth (test op n))) d)) h (λ n rest g. pushed c w (I32 (truth (test op n))) rest below k g)

  pub unary32 : (op : Unary) → TypedAs vs (types.I32 ∷ below) → DeskSafe c (types.I32 ∷ below) (acts (instrs.I32Unary op) (desk vs w))
  unary32 op h = first32 c (types.I32 ∷ below) below w vs (λ n d. Ok (push (I32 (unary w32 op n)) d)) h (λ n rest g. pushed c w (I32 (unary w32 op n)) rest below k g)

  pub unary64 : (op : Unary) → TypedAs vs (types.I64 ∷ below) → DeskSafe c (types.I64 ∷ below) (acts (instrs.I64Unary op) (desk vs w))
  unary64 op h = first64 c (types.I64 ∷ below) below w vs (λ n d. Ok (push (I64 (unary w64 op n)) d)) h (λ n rest g. pushed c w (I64 (unary w64 op n)) rest below k g)

  pub compare32 : (op : Compare) → TypedAs vs (types.I32 ∷ types.I32 ∷ below) → DeskSafe c (types.I32 ∷ below) (acts (instrs.I32Compare op) (desk vs w))
  compare32 op h =
      first32 c (types.I32 ∷ below) (types.I32 ∷ below) w vs (λ n d. pop32 d >>= λ q. Ok (push (I32 (truth (compare w32 op q.0 n))) q.1)) h (λ n rest g.
      first32 c (types.I32 ∷ below) below w rest (λ m d. Ok (push (I32 (truth (compare w32 op m n))) d)) g (λ m last f. pushed c w (I32 (truth (compare w32 op m n))) last below k f))

  pub compare64 : (op : Compare) → TypedAs vs (types.I64 ∷ types.I64 ∷ below) → DeskSafe c (types.I32 ∷ below) (acts (instrs.I64Compare op) (desk vs w))
  compare64 op h =
      first64 c (types.I32 ∷ below) (types.I64 ∷ below) w vs (λ n d. pop64 d >>= λ q. Ok (push (I32 (truth (compare w64 op q.0 n))) q.1)) h (λ n rest g.
      first64 c (types.I32 ∷ below) below w rest (λ m d. Ok (push (I32 (truth (compare w64 op m n))) d)) g (λ m last f. pushed c w (I32 (truth (compare w64 op m n))) last below k f))

  pub binary32 : (op : Binary) → TypedAs vs (types.I32 ∷ types.I32 ∷ below) → DeskSafe c (types.I32 ∷ below) (acts (instrs.I32Binary op) (desk vs w))
  binary32 op h =
      first32 c (types.I32 ∷ below) (types.I32 ∷ below) w vs (λ n d. pop32 d >>= λ q. given I32 (binary w32 op q.0 n) q.1) h (λ n rest g.
      first32 c (types.I32 ∷ below) below w rest (λ m d. given I32 (binary w32 op m n) d) g (λ m last f. given32 c w (binary w32 op m n) last below k f))

  pub binary64 : (op : Binary) → TypedAs vs (types.I64 ∷ types.I64 ∷ below) → DeskSafe c (types.I64 ∷ below) (acts (instrs.I64Binary op) (desk vs w))
  binary64 op h =
      first64 c (types.I64 ∷ below) (types.I64 ∷ below) w vs (λ n d. pop64 d >>= λ q. given I64 (binary w64 op q.0 n) q.1) h (λ n rest g.
      first64 c (types.I64 ∷ below) below w rest (λ m d. given I64 (binary w64 op m n) d) g (λ m last f. given64 c w (binary w64 op m n) last below k f))

  pub conversion : (op : Convert) → TypedAs vs (rules_of.converted op ∷ below) → DeskSafe c (rules_of.conversion op ∷ below) (converted op (desk vs w))
  conversion WrapI64 h = first64 c (types.I32 ∷ below) below w vs (λ n d. Ok (push (I32 (convert WrapI64 n)) d)) h (λ n rest g. pushed c w (I32 (convert WrapI64 n)) rest below k g)
  conversion ExtendI32S h = first32 c (types.I64 ∷ below) below w vs (λ n d. Ok (push (I64 (convert ExtendI32S n)) d)) h (λ n rest g. pushed c w (I64 (convert ExtendI32S n)) rest below k g)
  conversion ExtendI32U h = first32 c (types.I64 ∷ below) below w vs (λ n d. Ok (push (I64 (convert ExtendI32U n)) d)) h (λ n rest g. pushed c w (I64 (convert ExtendI32U n)) rest below k g)

-- ---- memory

memory_there : (c : Context) (ys : Types) (o : Option Linear) (f : Linear → Result Desk Off) → HasMemory true o → ((m : Linear) → DeskSafe c ys (f m)) → DeskSafe c ys (found o >>= f)
memory_there c ys None f has k = absurd has
memory_there c ys (Some m) f has k = k m

pub any_memory : (b : Bool) (m : Linear) → HasMemory b (Some m)
any_memory true m = tt
any_memory false m = tt

with_some : (c : Context) (w : World) (m : Linear) → WorldTyped c w → WorldTyped c (record w { memory = Some m })
with_some c w m k = record { globals = k.globals; memory = any_memory (nat_lt 0 c.memories) m }

inside_or_trap : {A : Type 0} (c : Context) (ys : Types) (b : Bool) (x : A) (f : A → Result Desk Off) → DeskSafe c ys (f x) → DeskSafe c ys ((if b then Ok x else Err (Trap OutOfBounds)) >>= f)
inside_or_trap c ys true x f k = k
inside_or_trap c ys false x f k = λ e. cc

loaded_type : (kind : LoadKind) (n : ℕ) → type_of (loaded kind n) ≡ rules_of.loaded kind
loaded_type loads.I32 n = refl
loaded_type loads.I64 n = refl
loaded_type loads.I32From8S n = refl
loaded_type loads.I32From8U n = refl
loaded_type loads.I32From16S n = refl
loaded_type loads.I32From16U n = refl
loaded_type loads.I64From8S n = refl
loaded_type loads.I64From8U n = refl
loaded_type loads.I64From16S n = refl
loaded_type loads.I64From16U n = refl
loaded_type loads.I64From32S n = refl
loaded_type loads.I64From32U n = refl

narrow : (v : Value) → type_of v ≡ types.I32 → (n : ℕ) × (v ≡ I32 n)
narrow (I32 n) e = (n, refl)
narrow (I64 n) e = absurd cc

wide : (v : Value) → type_of v ≡ types.I64 → (n : ℕ) × (v ≡ I64 n)
wide (I32 n) e = absurd cc
wide (I64 n) e = (n, refl)

stored_there : (kind : StoreKind) (v : Value) → type_of v ≡ rules_of.stored kind → (n : ℕ) × (stored kind v ≡ Ok n)
stored_there stores.I32 v e = let w = narrow v e in (w.0, ap (stored stores.I32) w.1)
stored_there stores.I64 v e = let w = wide v e in (w.0, ap (stored stores.I64) w.1)
stored_there stores.I32To8 v e = let w = narrow v e in (w.0, ap (stored stores.I32To8) w.1)
stored_there stores.I32To16 v e = let w = narrow v e in (w.0, ap (stored stores.I32To16) w.1)
stored_there stores.I64To8 v e = let w = wide v e in (w.0, ap (stored stores.I64To8) w.1)
stored_there stores.I64To16 v e = let w = wide v e in (w.0, ap (stored stores.I64To16) w.1)
stored_there stores.I64To32 v e = let w = wide v e in (w.0, ap (stored stores.I64To32) w.1)

module _ (c : Context) (w : World) (k : WorldTyped c w) (has : HasMemory true w.memory) (vs : List Value) (below : Types) where
  pub load_row : (kind : LoadKind) (offset : ℕ) → TypedAs vs (types.I32 ∷ below) → DeskSafe c (rules_of.loaded kind ∷ below) (load kind offset (desk vs w))
  load_row kind offset h =
      first32 c (rules_of.loaded kind ∷ below) below w vs (λ n d. found d.world.memory >>= λ m. read (load_size kind) (n + offset) m >>= λ x. Ok (push (loaded kind x) d)) h (λ n rest g.
      memory_there c (rules_of.loaded kind ∷ below) w.memory (λ m. read (load_size kind) (n + offset) m >>= λ x. Ok (push (loaded kind x) (desk rest w))) has (λ m.
      inside_or_trap c (rules_of.loaded kind ∷ below) (is_inside m.bytes (n + offset) (load_size kind)) (number_of (bytes_at m.bytes (n + offset) (load_size kind))) (λ x. Ok (push (loaded kind x) (desk rest w)))
      (record { operands = (loaded_type kind (number_of (bytes_at m.bytes (n + offset) (load_size kind))), g); world = k })))

  pub store_row : (kind : StoreKind) (offset : ℕ) → TypedAs vs (rules_of.stored kind ∷ types.I32 ∷ below) → DeskSafe c below (store kind offset (desk vs w))
  store_row kind offset h =
      first c below (types.I32 ∷ below) (rules_of.stored kind) w vs
      (λ v d. stored kind v >>= λ n. pop32 d >>= λ q. found q.1.world.memory >>= λ m. write (store_size kind) (q.0 + offset) n m >>= λ m'. Ok (with_memory m' q.1)) h (λ v rest is g.
      let taken = stored_there kind v is in
      rw (taken.1)
      (first32 c below below w rest (λ place d. found d.world.memory >>= λ m. write (store_size kind) (place + offset) taken.0 m >>= λ m'. Ok (with_memory m' d)) g (λ place last f.
      memory_there c below w.memory (λ m. write (store_size kind) (place + offset) taken.0 m >>= λ m'. Ok (with_memory m' (desk last w))) has (λ m.
      inside_or_trap c below (is_inside m.bytes (place + offset) (store_size kind)) (with_bytes m (written m.bytes (place + offset) (bytes_of (store_size kind) taken.0))) (λ m'. Ok (with_memory m' (desk last w)))
      (record { operands = f; world = with_some c w (with_bytes m (written m.bytes (place + offset) (bytes_of (store_size kind) taken.0))) k })))))

  pub size_row : TypedAs vs below → DeskSafe c (types.I32 ∷ below) (acts instrs.MemorySize (desk vs w))
  size_row h = memory_there c (types.I32 ∷ below) w.memory (λ m. Ok (push (I32 (pages_of m)) (desk vs w))) has (λ m. pushed c w (I32 (pages_of m)) vs below k h)

  pub grow_row : TypedAs vs (types.I32 ∷ below) → DeskSafe c (types.I32 ∷ below) (acts instrs.MemoryGrow (desk vs w))
  grow_row h =
      first32 c (types.I32 ∷ below) below w vs (λ n d. found d.world.memory >>= λ m. Ok (push (I32 (grow_answer (grown_from m n))) (with_memory (grown m n) d))) h (λ n rest g.
      memory_there c (types.I32 ∷ below) w.memory (λ m. Ok (push (I32 (grow_answer (grown_from m n))) (with_memory (grown m n) (desk rest w)))) has (λ m.
      record { operands = (refl, g); world = with_some c w (grown m n) k }))

-- ---- drop and select

same_kinds : (v u : Value) (t : ValueType) → type_of v ≡ t → type_of u ≡ t → same_kind v u ≡ true
same_kinds (I32 m) (I32 n) t e f = refl
same_kinds (I32 m) (I64 n) t e f = absurd cc
same_kinds (I64 m) (I32 n) t e f = absurd cc
same_kinds (I64 m) (I64 n) t e f = refl

chosen_type : (b : Bool) (v u : Value) (t : ValueType) → type_of v ≡ t → type_of u ≡ t → type_of (chosen b v u) ≡ t
chosen_type true v u t e f = f
chosen_type false v u t e f = e

module _ (c : Context) (w : World) (k : WorldTyped c w) (vs : List Value) (below : Types) (t : ValueType) where
  pub drop_row : TypedAs vs (t ∷ below) → DeskSafe c below (acts instrs.Drop (desk vs w))
  drop_row h = first c below below t w vs (λ v d. Ok d) h (λ v rest is g. record { operands = g; world = k })

  pub select_row : TypedAs vs (types.I32 ∷ t ∷ t ∷ below) → DeskSafe c (t ∷ below) (acts instrs.Select (desk vs w))
  select_row h =
      first32 c (t ∷ below) (t ∷ t ∷ below) w vs (λ n d. pop d >>= λ q. pop q.1 >>= λ r. selected (same_kind r.0 q.0) (n == 0) r.0 q.0 r.1) h (λ n rest g.
      first c (t ∷ below) (t ∷ below) t w rest (λ u d. pop d >>= λ r. selected (same_kind r.0 u) (n == 0) r.0 u r.1) g (λ u next second f.
      first c (t ∷ below) below t w next (λ v d. selected (same_kind v u) (n == 0) v u d) f (λ v last one e.
      rw (same_kinds v u t one second) (record { operands = (chosen_type (n == 0) v u t one second, e); world = k }))))

-- ---- globals

pub have_at : (vs : List Value) (gs : List GlobalType) (x : ℕ) (g : GlobalType) → HaveTypes vs gs → slice_get gs x ≡ Some g → (v : Value) × (slice_get vs x ≡ Some v) × (type_of v ≡ g.kind)
have_at [] [] x g h e = absurd cc
have_at [] (u ∷ us) x g h e = absurd h
have_at (v ∷ vs) [] x g h e = absurd h
have_at (v ∷ vs) (u ∷ us) zero g h e = let same : u ≡ g = cc in (v, refl, h.0 ∙ ap (λ (a : GlobalType). a.kind) same)
have_at (v ∷ vs) (u ∷ us) (suc x) g h e = have_at vs us x g h.1 e

have_set : (vs : List Value) (gs : List GlobalType) (x : ℕ) (g : GlobalType) (v : Value) → HaveTypes vs gs → slice_get gs x ≡ Some g → type_of v ≡ g.kind → (x < length vs) × HaveTypes (slice_set vs x v) gs
have_set [] [] x g v h e is = absurd cc
have_set [] (u ∷ us) x g v h e is = absurd h
have_set (y ∷ vs) [] x g v h e is = absurd h
have_set (y ∷ vs) (u ∷ us) zero g v h e is = let same : g ≡ u = cc in (omega arith, (is ∙ ap (λ (a : GlobalType). a.kind) same, h.1))
have_set (y ∷ vs) (u ∷ us) (suc x) g v h e is = let w = have_set vs us x g v h.1 e is in let less : x < length vs = w.0 in (omega arith, (h.0, w.1))

module _ (c : Context) (w : World) (k : WorldTyped c w) (vs : List Value) (below : Types) (x : ℕ) (g : GlobalType) (there : slice_get c.globals x ≡ Some g) where
  pub global_get_row : TypedAs vs below → DeskSafe c (g.kind ∷ below) (acts (instrs.GlobalGet x) (desk vs w))
  global_get_row h = let v = have_at w.globals c.globals x g k.globals there in rw (v.1) (record { operands = (v.2, h); world = k })

  pub global_set_row : TypedAs vs (g.kind ∷ below) → DeskSafe c below (acts (instrs.GlobalSet x) (desk vs w))
  global_set_row h =
      first c below below g.kind w vs (λ v d. set_at x v d.world.globals >>= λ us. Ok (with_globals us d)) h (λ v rest is f.
      let set = have_set w.globals c.globals x g v k.globals there is in
      rw (lt-ltb x (length w.globals) set.0) (record { operands = f; world = record { globals = set.1; memory = k.memory } }))
