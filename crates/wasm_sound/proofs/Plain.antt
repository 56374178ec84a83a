-- Typed instructions that open no block, all of them.
use Rattle.std.proofs.Common.{◌≡◌, ℕ, refl, sym, subst, Ok, Err, Some, None, true, false, Bool, if◌then◌else◌, Option, [], ◌∷◌, ◌++◌, Result, slice_get, nat_lt}
use Rattle.wasm_types.specs.declared.types.ValueType.TheVariants as types
use Rattle.wasm_types.specs.declared.types.GlobalType.{GlobalType}
use Rattle.wasm_types.specs.declared.instructions.Instr.{Instr}
use Rattle.wasm_types.specs.declared.instructions.Instr.TheVariants.{Unreachable, Nop, Block, Loop, If, Else, End, Br, BrIf, BrTable, Return, Call, CallIndirect, Drop, Select, LocalGet, LocalSet, LocalTee, GlobalGet, GlobalSet, Load, Store, MemorySize, MemoryGrow, Const, I32Test, I32Compare, I32Unary, I32Binary, I64Test, I64Compare, I64Unary, I64Binary}
use Rattle.wasm_types.specs.declared.instructions.Instr.TheVariants as instrs
use Rattle.wasm_types.specs.Nested.{Body}
use Rattle.wasm_validate.specs.declared.fault.ValidKind.TheVariants.{UnknownGlobal, UnknownMemory}
use Rattle.wasm_validate.specs.Rules.{Context, Mono, AnyDrop, AnySelect, Leaves, type_of}
use Rattle.wasm_validate.specs.Rules as rules_of
use Rattle.wasm_validate.specs.Steps as checks
use Rattle.wasm_validate.specs.Typing.{Types, AreTyped, Moves}
use Rattle.wasm_meaning.specs.declared.off.Off.{Off}
use Rattle.wasm_meaning.specs.Steps.{◌>>=◌}
use Rattle.wasm_meaning.specs.World.{Desk}
use Rattle.wasm_meaning.specs.Acts.{acts}
use Rattle.wasm_meaning.specs.Frames.{Program, State}
use Rattle.wasm_meaning.specs.Meaning.{on}
use Rattle.wasm_sound.specs.Typed.{TypedAs, HasMemory, StateTyped, ProgramTyped, inside}
use Rattle.wasm_sound.proofs.Settling.{retyped}
use Rattle.wasm_sound.proofs.Preserving.{StepSafe, PlainSafe}
use Rattle.wasm_sound.proofs.Acting.{desk, DeskSafe, Moved, mono, test32, test64, unary32, unary64, compare32, compare64, binary32, binary64, conversion, load_row, store_row, size_row, grow_row, drop_row, select_row, global_get_row, global_set_row}
use Rattle.wasm_sound.proofs.Rows.{moved, reframed, branch_row, branch_if_row, branch_table_row, return_row, local_get_row, local_set_row, local_tee_row, call_row, call_indirect_row}

-- what an instruction leaves of a state
acted : (c : Context) (s : State) (k : StateTyped c s) (rest : Body) (mid : Types) (r : Result Desk Off) → DeskSafe c mid r → AreTyped rest (inside c k.locals k.result) k.frame.labels mid k.frame.gives
    → StepSafe c (on (r >>= λ d. Ok (record s { frame = record s.frame { body = rest; operands = d.operands }; world = d.world })))
acted c s k rest mid (Err e) h after = h
acted c s k rest mid (Ok d) h after = record { locals = k.locals; result = k.result; frame = reframed c s k rest d.operands mid h.operands after; callers = k.callers; world = h.world }

module _ (c : Context) (s : State) (k : StateTyped c s) (rest : Body) (mid : Types) (after : AreTyped rest (inside c k.locals k.result) k.frame.labels mid k.frame.gives) where
  -- with stated types
  stated : (i : Instr) (takes gives : Types) → Moves (Mono takes gives) k.frame.operands mid
      → ((below : Types) → TypedAs s.frame.operands (takes ++ below) → DeskSafe c (gives ++ below) (acts i (desk s.frame.operands s.world)))
      → StepSafe c (on (acts i (desk s.frame.operands s.world) >>= λ d. Ok (record s { frame = record s.frame { body = rest; operands = d.operands }; world = d.world })))
  stated i takes gives m h =
      acted c s k rest mid (acts i (desk s.frame.operands s.world))
      (mono c takes gives k.frame.operands mid s.frame.operands (acts i (desk s.frame.operands s.world)) m k.frame.operands_typed h) after

  -- with a memory
  in_memory : (i : Instr) (takes gives : Types) (b : Bool) → HasMemory b s.world.memory
      → Moved (checks.◌>>=◌ {A = Unit {0}} (if b then Ok tt else Err UnknownMemory) (λ z. Ok (Mono takes gives))) k.frame.operands mid
      → (HasMemory true s.world.memory → (below : Types) → TypedAs s.frame.operands (takes ++ below) → DeskSafe c (gives ++ below) (acts i (desk s.frame.operands s.world)))
      → StepSafe c (on (acts i (desk s.frame.operands s.world) >>= λ d. Ok (record s { frame = record s.frame { body = rest; operands = d.operands }; world = d.world })))
  in_memory i takes gives false has m h = absurd m
  in_memory i takes gives true has m h = stated i takes gives m (h has)

  get_global : (x : ℕ) (o : Option GlobalType) → slice_get c.globals x ≡ o → Moved (checks.◌>>=◌ (checks.found UnknownGlobal o) (λ g. Ok (Mono [] (g.kind ∷ [])))) k.frame.operands mid
      → StepSafe c (on (acts (GlobalGet x) (desk s.frame.operands s.world) >>= λ d. Ok (record s { frame = record s.frame { body = rest; operands = d.operands }; world = d.world })))
  get_global x None e m = absurd m
  get_global x (Some g) e m = stated (GlobalGet x) [] (g.kind ∷ []) m (λ below h. global_get_row c s.world k.world s.frame.operands below x g e h)

  set_global : (x : ℕ) (o : Option GlobalType) → slice_get c.globals x ≡ o → Moved (checks.◌>>=◌ (checks.found UnknownGlobal o) (λ g. Ok (Mono (g.kind ∷ []) []))) k.frame.operands mid
      → StepSafe c (on (acts (GlobalSet x) (desk s.frame.operands s.world) >>= λ d. Ok (record s { frame = record s.frame { body = rest; operands = d.operands }; world = d.world })))
  set_global x None e m = absurd m
  set_global x (Some g) e m = stated (GlobalSet x) (g.kind ∷ []) [] m (λ below h. global_set_row c s.world k.world s.frame.operands below x g e h)

  dropped : Moves AnyDrop k.frame.operands mid
      → StepSafe c (on (acts Drop (desk s.frame.operands s.world) >>= λ d. Ok (record s { frame = record s.frame { body = rest; operands = d.operands }; world = d.world })))
  dropped m =
      acted c s k rest mid (acts Drop (desk s.frame.operands s.world))
      (drop_row c s.world k.world s.frame.operands mid m.0 (retyped s.frame.operands k.frame.operands (m.0 ∷ mid) m.1 k.frame.operands_typed)) after

  selected : Moves AnySelect k.frame.operands mid
      → StepSafe c (on (acts Select (desk s.frame.operands s.world) >>= λ d. Ok (record s { frame = record s.frame { body = rest; operands = d.operands }; world = d.world })))
  selected m =
      let P : Types → Type 0 = λ ts. DeskSafe c ts (acts Select (desk s.frame.operands s.world)) in
      acted c s k rest mid (acts Select (desk s.frame.operands s.world))
      (subst P (sym m.3) (select_row c s.world k.world s.frame.operands m.1 m.0 (retyped s.frame.operands k.frame.operands (types.I32 ∷ m.0 ∷ m.0 ∷ m.1) m.2 k.frame.operands_typed))) after

-- every row
pub plain_safe : (c : Context) (program : Program) → ProgramTyped c program → PlainSafe c program
plain_safe c program p s k Unreachable rest mid role typed after = λ e. cc
plain_safe c program p s k Nop rest mid role typed after =
    stated c s k rest mid after Nop [] [] (moved (inside c k.locals k.result) k.frame.labels Nop k.frame.operands mid typed) (λ below h. record { operands = h; world = k.world })
plain_safe c program p s k (Block r) rest mid role typed after = absurd cc
plain_safe c program p s k (Loop r) rest mid role typed after = absurd cc
plain_safe c program p s k (If r) rest mid role typed after = absurd cc
plain_safe c program p s k Else rest mid role typed after = absurd cc
plain_safe c program p s k End rest mid role typed after = absurd cc
plain_safe c program p s k (Br n) rest mid role typed after = branch_row c program s k n rest mid typed
plain_safe c program p s k (BrIf n) rest mid role typed after = branch_if_row c program s k n rest mid typed after
plain_safe c program p s k (BrTable ns other) rest mid role typed after = branch_table_row c program s k ns other rest mid typed
plain_safe c program p s k Return rest mid role typed after = return_row c program s k rest mid typed
plain_safe c program p s k (Call x) rest mid role typed after = call_row c program p s k x rest mid typed after
plain_safe c program p s k (CallIndirect x) rest mid role typed after = call_indirect_row c program p s k x rest mid typed after
plain_safe c program p s k Drop rest mid role typed after = dropped c s k rest mid after (moved (inside c k.locals k.result) k.frame.labels Drop k.frame.operands mid typed)
plain_safe c program p s k Select rest mid role typed after = selected c s k rest mid after (moved (inside c k.locals k.result) k.frame.labels Select k.frame.operands mid typed)
plain_safe c program p s k (LocalGet x) rest mid role typed after = local_get_row c program s k x rest mid typed after
plain_safe c program p s k (LocalSet x) rest mid role typed after = local_set_row c program s k x rest mid typed after
plain_safe c program p s k (LocalTee x) rest mid role typed after = local_tee_row c program s k x rest mid typed after
plain_safe c program p s k (GlobalGet x) rest mid role typed after = get_global c s k rest mid after x (slice_get c.globals x) refl (moved (inside c k.locals k.result) k.frame.labels (GlobalGet x) k.frame.operands mid typed)
plain_safe c program p s k (GlobalSet x) rest mid role typed after = set_global c s k rest mid after x (slice_get c.globals x) refl (moved (inside c k.locals k.result) k.frame.labels (GlobalSet x) k.frame.operands mid typed)
plain_safe c program p s k (Load kind align offset) rest mid role typed after =
    in_memory c s k rest mid after (Load kind align offset) (types.I32 ∷ []) (rules_of.loaded kind ∷ []) (nat_lt 0 c.memories) k.world.memory
    (moved (inside c k.locals k.result) k.frame.labels (Load kind align offset) k.frame.operands mid typed) (λ has below h. load_row c s.world k.world has s.frame.operands below kind offset h)
plain_safe c program p s k (Store kind align offset) rest mid role typed after =
    in_memory c s k rest mid after (Store kind align offset) (rules_of.stored kind ∷ types.I32 ∷ []) [] (nat_lt 0 c.memories) k.world.memory
    (moved (inside c k.locals k.result) k.frame.labels (Store kind align offset) k.frame.operands mid typed) (λ has below h. store_row c s.world k.world has s.frame.operands below kind offset h)
plain_safe c program p s k MemorySize rest mid role typed after =
    in_memory c s k rest mid after MemorySize [] (types.I32 ∷ []) (nat_lt 0 c.memories) k.world.memory
    (moved (inside c k.locals k.result) k.frame.labels MemorySize k.frame.operands mid typed) (λ has below h. size_row c s.world k.world has s.frame.operands below h)
plain_safe c program p s k MemoryGrow rest mid role typed after =
    in_memory c s k rest mid after MemoryGrow (types.I32 ∷ []) (types.I32 ∷ []) (nat_lt 0 c.memories) k.world.memory
    (moved (inside c k.locals k.result) k.frame.labels MemoryGrow k.frame.operands mid typed) (λ has below h. grow_row c s.world k.world has s.frame.operands below h)
plain_safe c program p s k (Const v) rest mid role typed after =
    stated c s k rest mid after (Const v) [] (type_of v ∷ []) (moved (inside c k.locals k.result) k.frame.labels (Const v) k.frame.operands mid typed) (λ below h. record { operands = (refl, h); world = k.world })
plain_safe c program p s k (I32Test op) rest mid role typed after =
    stated c s k rest mid after (I32Test op) (types.I32 ∷ []) (types.I32 ∷ []) (moved (inside c k.locals k.result) k.frame.labels (I32Test op) k.frame.operands mid typed)
    (λ below h. test32 c s.world k.world s.frame.operands below op h)
plain_safe c program p s k (I32Compare op) rest mid role typed after =
    stated c s k rest mid after (I32Compare op) (types.I32 ∷ types.I32 ∷ []) (types.I32 ∷ []) (moved (inside c k.locals k.result) k.frame.labels (I32Compare op) k.frame.operands mid typed)
    (λ below h. compare32 c s.world k.world s.frame.operands below op h)
plain_safe c program p s k (I32Unary op) rest mid role typed after =
    stated c s k rest mid after (I32Unary op) (types.I32 ∷ []) (types.I32 ∷ []) (moved (inside c k.locals k.result) k.frame.labels (I32Unary op) k.frame.operands mid typed)
    (λ below h. unary32 c s.world k.world s.frame.operands below op h)
plain_safe c program p s k (I32Binary op) rest mid role typed after =
    stated c s k rest mid after (I32Binary op) (types.I32 ∷ types.I32 ∷ []) (types.I32 ∷ []) (moved (inside c k.locals k.result) k.frame.labels (I32Binary op) k.frame.operands mid typed)
    (λ below h. binary32 c s.world k.world s.frame.operands below op h)
plain_safe c program p s k (I64Test op) rest mid role typed after =
    stated c s k rest mid after (I64Test op) (types.I64 ∷ []) (types.I32 ∷ []) (moved (inside c k.locals k.result) k.frame.labels (I64Test op) k.frame.operands mid typed)
    (λ below h. test64 c s.world k.world s.frame.operands below op h)
plain_safe c program p s k (I64Compare op) rest mid role typed after =
    stated c s k rest mid after (I64Compare op) (types.I64 ∷ types.I64 ∷ []) (types.I32 ∷ []) (moved (inside c k.locals k.result) k.frame.labels (I64Compare op) k.frame.operands mid typed)
    (λ below h. compare64 c s.world k.world s.frame.operands below op h)
plain_safe c program p s k (I64Unary op) rest mid role typed after =
    stated c s k rest mid after (I64Unary op) (types.I64 ∷ []) (types.I64 ∷ []) (moved (inside c k.locals k.result) k.frame.labels (I64Unary op) k.frame.operands mid typed)
    (λ below h. unary64 c s.world k.world s.frame.operands below op h)
plain_safe c program p s k (I64Binary op) rest mid role typed after =
    stated c s k rest mid after (I64Binary op) (types.I64 ∷ types.I64 ∷ []) (types.I64 ∷ []) (moved (inside c k.locals k.result) k.frame.labels (I64Binary op) k.frame.operands mid typed)
    (λ below h. binary64 c s.world k.world s.frame.operands below op h)
plain_safe c program p s k (instrs.Convert op) rest mid role typed after =
    stated c s k rest mid after (instrs.Convert op) (rules_of.converted op ∷ []) (rules_of.conversion op ∷ []) (moved (inside c k.locals k.result) k.frame.labels (instrs.Convert op) k.frame.operands mid typed)
    (λ below h. conversion c s.world k.world s.frame.operands below op h)
