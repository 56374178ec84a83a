-- Typed branches, locals and calls aren't stuck, and leave typed states.
use Rattle.std.specs.Option.{option_to_list as listed, is_some}
use Rattle.std.proofs.Common.{◌≡◌, ℕ, zero, suc, ◌≤◌, ◌<◌, refl, sym, ap, subst, ◌∙◌, Ok, Err, Some, None, true, false, Bool, ◌&&◌, ◌==◌, if◌then◌else◌, Option, List, [], ◌∷◌, ◌++◌, Result, length, drop, take, reverse, map, slice_get, slice_set, nat_lt, arith}
use Rattle.std.proofs.lemmas.Bool.{le-ltb, lt-ltb}
use Rattle.std.proofs.lemmas.List.{reverse-append, reverse-reverse, length-reverse}
use Rattle.wasm_types.specs.declared.types.ValueType.{ValueType}
use Rattle.wasm_types.specs.declared.types.ValueType.TheVariants as types
use Rattle.wasm_types.specs.declared.types.FuncType.{FuncType}
use Rattle.wasm_types.specs.declared.values.TrapKind.TheVariants.{IndirectType}
use Rattle.wasm_types.specs.declared.values.Value.{Value}
use Rattle.wasm_types.specs.declared.values.Value.TheVariants.{I32, I64}
use Rattle.wasm_types.specs.declared.instructions.Instr.{Instr}
use Rattle.wasm_types.specs.declared.instructions.Instr.TheVariants.{Br, BrIf, BrTable, Return, Call, CallIndirect, LocalGet, LocalSet, LocalTee}
use Rattle.wasm_types.specs.Nested.{Body, Done}
use Rattle.wasm_validate.specs.declared.fault.ValidKind.{ValidKind}
use Rattle.wasm_validate.specs.declared.fault.ValidKind.TheVariants.{UnknownLabel, UnknownLocal, UnknownTable, UnknownType, TypeMismatch}
use Rattle.wasm_validate.specs.Rules.{Context, Labels, Rule, Mono, Leaves, rule_of, type_of, function_at, params_of, all_known, all_same, has_type}
use Rattle.wasm_validate.specs.Steps as checks
use Rattle.wasm_validate.specs.Typing.{Types, AreTyped, IsTyped, Moves}
use Rattle.wasm_meaning.specs.declared.off.Off.{Off}
use Rattle.wasm_meaning.specs.declared.off.Off.TheVariants.{Trap}
use Rattle.wasm_meaning.specs.Steps.{◌>>=◌, found}
use Rattle.wasm_meaning.specs.Kinds.{zero_of, same_function_type}
use Rattle.wasm_types.specs.Types.{same_type, same_result, same_types}
use Rattle.wasm_meaning.specs.Acts.{set_at}
use Rattle.wasm_meaning.specs.Frames.{Program, Function, Frame, State}
use Rattle.wasm_meaning.specs.Meaning.{to_first, on, in_frame, entered_function, tested, label_of, branch_unless, set_local, all_but_first}
use Rattle.wasm_meaning.specs.Meaning as meaning
use Rattle.wasm_sound.specs.Typed.{TypedAs, FrameTyped, StateTyped, BodyTyped, FunctionTyped, ProgramTyped, Fits, inside}
use Rattle.wasm_meaning.specs.Runs.{taken, resumed}
use Rattle.wasm_sound.proofs.Acting.{Moved}
use Rattle.wasm_sound.proofs.Settling.{retyped, typed_append}
use Rattle.wasm_sound.proofs.Preserving.{FrameSafe, StepSafe, branches, in_state}

pub moved : (c : Context) (labels : Labels) (i : Instr) (xs ys : Types) → IsTyped c labels i xs ys → Moved (rule_of c labels i) xs ys
moved c labels i xs ys (rule, is, fine, moves) = let P : Result Rule ValidKind → Type 0 = λ r. Moved r xs ys in subst P (sym is) moves

framed_safe : (c : Context) (s : State) (k : StateTyped c s) (r : Result Frame Off) → FrameSafe c k.locals k.result r → StepSafe c (on (in_frame s r))
framed_safe c s k (Ok f) h = in_state c s k f h
framed_safe c s k (Err e) h = h

-- ---- a branch

branch_by : (c : Context) (s : State) (k : StateTyped c s) (n : ℕ) (rest : Body) (mid : Types) (o : Option (Option ValueType)) → slice_get k.frame.labels n ≡ o
    → Moved (checks.◌>>=◌ (checks.found UnknownLabel o) (λ t. Ok (Leaves (listed t)))) k.frame.operands mid
    → StepSafe c (on (in_frame s (meaning.branch n (record s.frame { body = rest }))))
branch_by c s k n rest mid None e m = absurd m
branch_by c s k n rest mid (Some t) e m =
    let w = branches n c k.locals k.result (record s.frame { body = rest }) k.frame.keeps k.frame.locals_typed s.frame.labels k.frame.labels k.frame.gives k.frame.outer t e m.0
    (retyped s.frame.operands k.frame.operands (listed t ++ m.0) m.1 k.frame.operands_typed) in
    let there : nat_lt (length s.frame.labels) n ≡ false = le-ltb (length s.frame.labels) n w.0 in
    rw there (framed_safe c s k (to_first (drop n s.frame.labels) (record s.frame { body = rest })) w.1)

pub branch_row : (c : Context) (program : Program) (s : State) (k : StateTyped c s) (n : ℕ) (rest : Body) (mid : Types)
    → IsTyped (inside c k.locals k.result) k.frame.labels (Br n) k.frame.operands mid → StepSafe c (meaning.goes program (Br n) (record s.frame { body = rest }) s)
branch_row c program s k n rest mid typed = branch_by c s k n rest mid (slice_get k.frame.labels n) refl (moved (inside c k.locals k.result) k.frame.labels (Br n) k.frame.operands mid typed)

-- ---- a local

typed_at : (vs : List Value) (ts : Types) (x : ℕ) (t : ValueType) → TypedAs vs ts → slice_get ts x ≡ Some t → (v : Value) × (slice_get vs x ≡ Some v) × (type_of v ≡ t)
typed_at [] [] x t h e = absurd cc
typed_at [] (u ∷ us) x t h e = absurd h
typed_at (v ∷ vs) [] x t h e = absurd h
typed_at (v ∷ vs) (u ∷ us) zero t h e = let same : u ≡ t = cc in (v, refl, h.0 ∙ same)
typed_at (v ∷ vs) (u ∷ us) (suc x) t h e = typed_at vs us x t h.1 e

local_by : (c : Context) (s : State) (k : StateTyped c s) (x : ℕ) (rest : Body) (mid : Types) (o : Option ValueType) → slice_get k.locals x ≡ o
    → Moved (checks.◌>>=◌ (checks.found UnknownLocal o) (λ t. Ok (Mono [] (t ∷ [])))) k.frame.operands mid
    → AreTyped rest (inside c k.locals k.result) k.frame.labels mid k.frame.gives
    → StepSafe c (on (in_frame s (found (slice_get s.frame.locals x) >>= λ v. Ok (record s.frame { body = rest; operands = v ∷ s.frame.operands }))))
local_by c s k x rest mid None e m after = absurd m
local_by c s k x rest mid (Some t) e m after =
    let w = typed_at s.frame.locals k.locals x t k.frame.locals_typed e in
    let P : Types → Type 0 = λ ts. AreTyped rest (inside c k.locals k.result) k.frame.labels ts k.frame.gives in
    rw (w.1) (in_state c s k (record s.frame { body = rest; operands = w.0 ∷ s.frame.operands }) (record {
      labels = k.frame.labels;
      operands = t ∷ m.0;
      gives = k.frame.gives;
      keeps = k.frame.keeps;
      locals_typed = k.frame.locals_typed;
      operands_typed = (w.2, retyped s.frame.operands k.frame.operands m.0 m.1 k.frame.operands_typed);
      body_typed = subst P m.2 after;
      outer = k.frame.outer;
    }))

pub local_get_row : (c : Context) (program : Program) (s : State) (k : StateTyped c s) (x : ℕ) (rest : Body) (mid : Types)
    → IsTyped (inside c k.locals k.result) k.frame.labels (LocalGet x) k.frame.operands mid → AreTyped rest (inside c k.locals k.result) k.frame.labels mid k.frame.gives
    → StepSafe c (meaning.goes program (LocalGet x) (record s.frame { body = rest }) s)
local_get_row c program s k x rest mid typed after = local_by c s k x rest mid (slice_get k.locals x) refl (moved (inside c k.locals k.result) k.frame.labels (LocalGet x) k.frame.operands mid typed) after

-- ---- a call

-- the arguments that are taken, and what is left
pub record Taken (vs : List Value) (xs ys : Types) : Type 0 where
  enough : length xs ≤ length vs
  front : TypedAs (take (length xs) vs) xs
  back : TypedAs (drop (length xs) vs) ys

taken_typed : (vs : List Value) (xs ys : Types) → TypedAs vs (xs ++ ys) → Taken vs xs ys
taken_typed vs [] ys h = record { enough = omega arith; front = tt; back = h }
taken_typed [] (x ∷ xs) ys h = absurd h
taken_typed (v ∷ vs) (x ∷ xs) ys h = let w : Taken vs xs ys = taken_typed vs xs ys h.1 in let n : length xs ≤ length vs = w.enough in record { enough = omega arith; front = (h.0, w.front); back = w.back }

typed_reverse : (vs : List Value) (ts : Types) → TypedAs vs ts → TypedAs (reverse vs) (reverse ts)
typed_reverse [] [] h = tt
typed_reverse [] (t ∷ ts) h = absurd h
typed_reverse (v ∷ vs) [] h = absurd h
typed_reverse (v ∷ vs) (t ∷ ts) h = rw (reverse-append (v ∷ []) vs, reverse-append (t ∷ []) ts) (typed_append (reverse vs) (v ∷ []) (reverse ts) (t ∷ []) (typed_reverse vs ts h.1) (h.0, tt))

zeros_typed : (ts : Types) → TypedAs (map zero_of ts) ts
zeros_typed [] = tt
zeros_typed (types.I32 ∷ ts) = (refl, zeros_typed ts)
zeros_typed (types.I64 ∷ ts) = (refl, zeros_typed ts)

-- a frame with other operands, and the code that follows, in a typed state
pub reframed : (c : Context) (s : State) (k : StateTyped c s) (rest : Body) (vs : List Value) (ts : Types) → TypedAs vs ts → AreTyped rest (inside c k.locals k.result) k.frame.labels ts k.frame.gives
    → FrameTyped c k.locals k.result [] (record s.frame { body = rest; operands = vs })
reframed c s k rest vs ts h after = record {
  labels = k.frame.labels;
  operands = ts;
  gives = k.frame.gives;
  keeps = k.frame.keeps;
  locals_typed = k.frame.locals_typed;
  operands_typed = h;
  body_typed = after;
  outer = k.frame.outer;
}

its_arguments : (f : Function) (vs : List Value) (below : Types) → Taken vs (params_of f.kind) below → TypedAs (reverse (take (length f.kind.params) vs)) f.kind.params
its_arguments f vs below w =
    let P : ℕ → Type 0 = λ n. TypedAs (take n vs) (params_of f.kind) in
    retyped (reverse (take (length f.kind.params) vs)) (reverse (params_of f.kind)) f.kind.params (reverse-reverse f.kind.params)
    (typed_reverse (take (length f.kind.params) vs) (params_of f.kind) (subst P (length-reverse f.kind.params) w.front))

its_rest : (f : Function) (vs : List Value) (below : Types) → Taken vs (params_of f.kind) below → TypedAs (drop (length f.kind.params) vs) below
its_rest f vs below w = let P : ℕ → Type 0 = λ n. TypedAs (drop n vs) below in subst P (length-reverse f.kind.params) w.back

-- a call with these operands, of which the callee takes its arguments
called_typed : (c : Context) (s : State) (k : StateTyped c s) (x : ℕ) (f : Function) (rest : Body) (vs : List Value) (below : Types)
    → AreTyped rest (inside c k.locals k.result) k.frame.labels (listed f.kind.result ++ below) k.frame.gives → Taken vs (params_of f.kind) below
    → function_at c x ≡ Ok f.kind → (o : Option Body) → BodyTyped c f.kind f.locals o → StepSafe c (meaning.called x f o (record s.frame { body = rest; operands = vs }) s)
called_typed c s k x f rest vs below after w known None typed = (f.kind, known, its_arguments f vs below w, by_result f.kind.result after)
  where
    here : (ws : List Value) (ts : Types) → TypedAs ws ts → AreTyped rest (inside c k.locals k.result) k.frame.labels ts k.frame.gives → StateTyped c (record s { frame = record s.frame { body = rest; operands = ws } })
    here ws ts h g = in_state c s k (record s.frame { body = rest; operands = ws }) (reframed c s k rest ws ts h g)

    by_result : (r : Option ValueType) → AreTyped rest (inside c k.locals k.result) k.frame.labels (listed r ++ below) k.frame.gives → (value : Option Value) → Fits r value
        → StateTyped c (resumed value (taken (length f.kind.params) (record s { frame = record s.frame { body = rest; operands = vs } })))
    by_result None g None fits = here (drop (length f.kind.params) vs) below (its_rest f vs below w) g
    by_result None g (Some v) fits = absurd fits
    by_result (Some t) g None fits = absurd fits
    by_result (Some t) g (Some v) fits = here (v ∷ drop (length f.kind.params) vs) (t ∷ below) (fits, its_rest f vs below w) g
called_typed c s k x f rest vs below after w known (Some body) typed = in_room (nat_lt (length s.callers) 2047)
  where
    arguments : TypedAs (reverse (take (length f.kind.params) vs)) f.kind.params
    arguments = its_arguments f vs below w

    left : TypedAs (drop (length f.kind.params) vs) below
    left = its_rest f vs below w

    entered_typed : StateTyped c (entered_function f body (record s.frame { body = rest; operands = vs }) s)
    entered_typed = record {
      locals = f.kind.params ++ f.locals;
      result = f.kind.result;
      frame = record {
        labels = f.kind.result ∷ [];
        operands = [];
        gives = listed f.kind.result;
        keeps = refl;
        locals_typed = typed_append (reverse (take (length f.kind.params) vs)) (map zero_of f.locals) f.kind.params f.locals arguments (zeros_typed f.locals);
        operands_typed = tt;
        body_typed = typed;
        outer = (refl, refl);
      };
      callers = (
        k.locals,
        k.result,
        record {
          labels = k.frame.labels;
          operands = below;
          gives = k.frame.gives;
          keeps = k.frame.keeps;
          locals_typed = k.frame.locals_typed;
          operands_typed = left;
          body_typed = after;
          outer = k.frame.outer;
        },
        k.callers,
      );
      world = k.world;
    }

    in_room : (b : Bool) → StepSafe c (on (meaning.within b (entered_function f body (record s.frame { body = rest; operands = vs }) s)))
    in_room true = entered_typed
    in_room false = λ e. cc

known_typed : (c : Context) (s : State) (k : StateTyped c s) (x : ℕ) (t : FuncType) (rest : Body) (vs : List Value) (below : Types) → TypedAs vs (params_of t ++ below)
    → AreTyped rest (inside c k.locals k.result) k.frame.labels (listed t.result ++ below) k.frame.gives → function_at c x ≡ Ok t → (o : Option Function) → FunctionTyped c t o
    → StepSafe c (meaning.call_of x o (record s.frame { body = rest; operands = vs }) s)
known_typed c s k x t rest vs below h after known None g = absurd g
known_typed c s k x t rest vs below h after known (Some f) g =
    let K : FuncType → Type 0 = λ u. function_at c x ≡ Ok u in
    let P : FuncType → Type 0 = λ u. TypedAs vs (params_of u ++ below) in
    let Q : FuncType → Type 0 = λ u. BodyTyped c u f.locals f.body in
    let R : FuncType → Type 0 = λ u. AreTyped rest (inside c k.locals k.result) k.frame.labels (listed u.result ++ below) k.frame.gives in
    let w : Taken vs (params_of f.kind) below = taken_typed vs (params_of f.kind) below (subst P (sym g.0) h) in
    let enough : length f.kind.params ≤ length vs = omega (arith, w.enough, length-reverse f.kind.params) in
    let test : nat_lt (length vs) (length f.kind.params) ≡ false = le-ltb (length vs) (length f.kind.params) enough in
    rw test (called_typed c s k x f rest vs below (subst R (sym g.0) after) w (subst K (sym g.0) known) f.body (subst Q (sym g.0) g.1))

call_by : (c : Context) (program : Program) → ProgramTyped c program → (s : State) (k : StateTyped c s) (x : ℕ) (rest : Body) (mid : Types) (r : Result FuncType ValidKind) → function_at c x ≡ r
    → Moved (checks.◌>>=◌ r (λ t. Ok (Mono (params_of t) (listed t.result)))) k.frame.operands mid → AreTyped rest (inside c k.locals k.result) k.frame.labels mid k.frame.gives
    → StepSafe c (meaning.call_of x (slice_get program.functions x) (record s.frame { body = rest }) s)
call_by c program p s k x rest mid (Err kind) e m after = absurd m
call_by c program p s k x rest mid (Ok t) e m after =
    let P : Types → Type 0 = λ ts. AreTyped rest (inside c k.locals k.result) k.frame.labels ts k.frame.gives in
    known_typed c s k x t rest s.frame.operands m.0 (retyped s.frame.operands k.frame.operands (params_of t ++ m.0) m.1 k.frame.operands_typed) (subst P m.2 after) e
    (slice_get program.functions x) (p.functions x t e)

pub call_row : (c : Context) (program : Program) → ProgramTyped c program → (s : State) (k : StateTyped c s) (x : ℕ) (rest : Body) (mid : Types)
    → IsTyped (inside c k.locals k.result) k.frame.labels (Call x) k.frame.operands mid → AreTyped rest (inside c k.locals k.result) k.frame.labels mid k.frame.gives
    → StepSafe c (meaning.goes program (Call x) (record s.frame { body = rest }) s)
call_row c program p s k x rest mid typed after = call_by c program p s k x rest mid (function_at c x) refl (moved (inside c k.locals k.result) k.frame.labels (Call x) k.frame.operands mid typed) after

-- ---- tests

test_there : (vs : List Value) (below : Types) → TypedAs vs (types.I32 ∷ below) → (n : ℕ) × (ws : List Value) × (tested vs ≡ Ok (n, ws)) × TypedAs ws below
test_there [] below h = absurd h
test_there (I64 n ∷ vs) below h = absurd (cc (h.0))
test_there (I32 n ∷ vs) below h = (n, vs, refl, h.1)

-- a branch with these operands
branched : (c : Context) (s : State) (k : StateTyped c s) (n : ℕ) (rest : Body) (t : Option ValueType) (vs : List Value) (below : Types) → slice_get k.frame.labels n ≡ Some t → TypedAs vs (listed t ++ below)
    → FrameSafe c k.locals k.result (meaning.branch n (record s.frame { body = rest; operands = vs }))
branched c s k n rest t vs below e h =
    let w = branches n c k.locals k.result (record s.frame { body = rest; operands = vs }) k.frame.keeps k.frame.locals_typed s.frame.labels k.frame.labels k.frame.gives k.frame.outer t e below h in
    let there : nat_lt (length s.frame.labels) n ≡ false = le-ltb (length s.frame.labels) n w.0 in
    rw there (w.1)

branch_if_by : (c : Context) (s : State) (k : StateTyped c s) (n : ℕ) (rest : Body) (mid : Types) (o : Option (Option ValueType)) → slice_get k.frame.labels n ≡ o
    → Moved (checks.◌>>=◌ (checks.found UnknownLabel o) (λ t. Ok (Mono (types.I32 ∷ listed t) (listed t)))) k.frame.operands mid
    → AreTyped rest (inside c k.locals k.result) k.frame.labels mid k.frame.gives
    → StepSafe c (on (in_frame s (tested s.frame.operands >>= λ p. branch_unless (p.0 == 0) n (record s.frame { body = rest; operands = p.1 }))))
branch_if_by c s k n rest mid None e m after = absurd m
branch_if_by c s k n rest mid (Some t) e m after =
    let w = test_there s.frame.operands (listed t ++ m.0) (retyped s.frame.operands k.frame.operands (types.I32 ∷ (listed t ++ m.0)) m.1 k.frame.operands_typed) in
    rw (w.2) (framed_safe c s k (branch_unless (w.0 == 0) n (record s.frame { body = rest; operands = w.1 })) (by_test (w.0 == 0) w.1 w.3))
  where
    by_test : (b : Bool) (vs : List Value) → TypedAs vs (listed t ++ m.0) → FrameSafe c k.locals k.result (branch_unless b n (record s.frame { body = rest; operands = vs }))
    by_test true vs h = let P : Types → Type 0 = λ ts. AreTyped rest (inside c k.locals k.result) k.frame.labels ts k.frame.gives in reframed c s k rest vs (listed t ++ m.0) h (subst P m.2 after)
    by_test false vs h = branched c s k n rest t vs m.0 e h

pub branch_if_row : (c : Context) (program : Program) (s : State) (k : StateTyped c s) (n : ℕ) (rest : Body) (mid : Types)
    → IsTyped (inside c k.locals k.result) k.frame.labels (BrIf n) k.frame.operands mid → AreTyped rest (inside c k.locals k.result) k.frame.labels mid k.frame.gives
    → StepSafe c (meaning.goes program (BrIf n) (record s.frame { body = rest }) s)
branch_if_row c program s k n rest mid typed after =
    branch_if_by c s k n rest mid (slice_get k.frame.labels n) refl (moved (inside c k.locals k.result) k.frame.labels (BrIf n) k.frame.operands mid typed) after

-- ---- a table of branches

same_value_type : (t u : ValueType) → same_type t u ≡ true → t ≡ u
same_value_type types.I32 types.I32 e = refl
same_value_type types.I32 types.I64 e = absurd cc
same_value_type types.I64 types.I32 e = absurd cc
same_value_type types.I64 types.I64 e = refl

same_results : (t u : Option ValueType) → same_result t u ≡ true → t ≡ u
same_results None None e = refl
same_results None (Some u) e = absurd cc
same_results (Some t) None e = absurd cc
same_results (Some t) (Some u) e = ap (λ (x : ValueType). Some x) (same_value_type t u e)

has_known : (t : Option ValueType) (o : Option (Option ValueType)) → has_type t o ≡ true → o ≡ Some t
has_known t None e = absurd cc
has_known t (Some u) e = ap (λ (x : Option ValueType). Some x) (sym (same_results t u e))

both_true : (a b : Bool) → (a && b) ≡ true → (a ≡ true) × (b ≡ true)
both_true true b e = (refl, e)
both_true false b e = absurd cc

labelled : (labels : Labels) (t : Option ValueType) (ns : List ℕ) (x n : ℕ) → all_same labels t ns ≡ true → slice_get ns x ≡ Some n → slice_get labels n ≡ Some t
labelled labels t [] x n e is = absurd cc
labelled labels t (m ∷ ns) zero n e is =
    let own : has_type t (slice_get labels m) ≡ true = (both_true (has_type t (slice_get labels m)) (all_same labels t ns) e).0 in
    let same : m ≡ n = cc in
    ap (slice_get labels) (sym same) ∙ has_known t (slice_get labels m) own
labelled labels t (m ∷ ns) (suc x) n e is = labelled labels t ns x n (both_true (has_type t (slice_get labels m)) (all_same labels t ns) e).1 is

table_by : (c : Context) (s : State) (k : StateTyped c s) (ns : List ℕ) (other : ℕ) (rest : Body) (mid : Types) (o : Option (Option ValueType)) → slice_get k.frame.labels other ≡ o
    → (known same : Option ValueType → Bool) → ((t : Option ValueType) → same t ≡ true → (x n : ℕ) → slice_get ns x ≡ Some n → slice_get k.frame.labels n ≡ Some t)
    → Moved (checks.◌>>=◌ (checks.◌>>=◌ (checks.found UnknownLabel o) (λ t. if known t then (if same t then Ok t else Err TypeMismatch) else Err UnknownLabel)) (λ t. Ok (Leaves (types.I32 ∷ listed t)))) k.frame.operands mid
    → StepSafe c (on (in_frame s (tested s.frame.operands >>= λ p. meaning.branch (label_of (slice_get ns p.0) other) (record s.frame { body = rest; operands = p.1 }))))
table_by c s k ns other rest mid None e known same all m = absurd m
table_by c s k ns other rest mid (Some t) e known same all m = by_tests (known t) (same t) refl m
  where
    by_tests : (a b : Bool) → same t ≡ b → Moved (checks.◌>>=◌ (if a then (if b then Ok t else Err TypeMismatch) else Err UnknownLabel) (λ t. Ok (Leaves (types.I32 ∷ listed t)))) k.frame.operands mid
        → StepSafe c (on (in_frame s (tested s.frame.operands >>= λ p. meaning.branch (label_of (slice_get ns p.0) other) (record s.frame { body = rest; operands = p.1 }))))
    by_tests false b is m = absurd m
    by_tests true false is m = absurd m
    by_tests true true is m =
        let w = test_there s.frame.operands (listed t ++ m.0) (retyped s.frame.operands k.frame.operands (types.I32 ∷ (listed t ++ m.0)) m.1 k.frame.operands_typed) in
        rw (w.2) (framed_safe c s k (meaning.branch (label_of (slice_get ns w.0) other) (record s.frame { body = rest; operands = w.1 })) (by_label (slice_get ns w.0) refl))
      where
        found_test : (n : ℕ) × (ws : List Value) × (tested s.frame.operands ≡ Ok (n, ws)) × TypedAs ws (listed t ++ m.0)
        found_test = test_there s.frame.operands (listed t ++ m.0) (retyped s.frame.operands k.frame.operands (types.I32 ∷ (listed t ++ m.0)) m.1 k.frame.operands_typed)

        by_label : (l : Option ℕ) → slice_get ns found_test.0 ≡ l → FrameSafe c k.locals k.result (meaning.branch (label_of l other) (record s.frame { body = rest; operands = found_test.1 }))
        by_label None at = branched c s k other rest t found_test.1 m.0 e found_test.3
        by_label (Some n) at = branched c s k n rest t found_test.1 m.0 (all t is found_test.0 n at) found_test.3

pub branch_table_row : (c : Context) (program : Program) (s : State) (k : StateTyped c s) (ns : List ℕ) (other : ℕ) (rest : Body) (mid : Types)
    → IsTyped (inside c k.locals k.result) k.frame.labels (BrTable ns other) k.frame.operands mid → StepSafe c (meaning.goes program (BrTable ns other) (record s.frame { body = rest }) s)
branch_table_row c program s k ns other rest mid typed =
    table_by c s k ns other rest mid (slice_get k.frame.labels other) refl (λ t. all_known k.frame.labels ns) (λ t. all_same k.frame.labels t ns) (λ t e x n is. labelled k.frame.labels t ns x n e is)
    (moved (inside c k.locals k.result) k.frame.labels (BrTable ns other) k.frame.operands mid typed)

-- ---- return

returns_by : (c : Context) (s : State) (k : StateTyped c s) (rest : Body) (t : Option ValueType) (below : Types) → k.result ≡ t → TypedAs s.frame.operands (listed t ++ below)
    → FrameSafe c k.locals k.result (meaning.returned (record s.frame { body = rest }))
returns_by c s k rest t below e h = out_of s.frame.keeps (k.frame.keeps ∙ ap is_some e)
  where
    left : (vs : List Value) → TypedAs vs (listed t) → FrameTyped c k.locals k.result [] (record s.frame { labels = []; operands = vs; body = Done })
    left vs g = record {
      labels = k.result ∷ [];
      operands = listed t;
      gives = listed t;
      keeps = k.frame.keeps;
      locals_typed = k.frame.locals_typed;
      operands_typed = g;
      body_typed = refl;
      outer = (refl, ap listed (sym e));
    }

    by_result : (u : Option ValueType) → t ≡ u → (vs : List Value) → s.frame.operands ≡ vs → TypedAs vs (listed u ++ below)
        → FrameSafe c k.locals k.result (meaning.kept (is_some u) vs >>= λ ws. Ok (record s.frame { labels = []; operands = ws; body = Done }))
    by_result None same vs is g = left [] (retyped [] [] (listed t) (sym (ap listed same)) tt)
    by_result (Some x) same [] is g = absurd g
    by_result (Some x) same (v ∷ vs) is g = left (v ∷ []) (retyped (v ∷ []) (x ∷ []) (listed t) (sym (ap listed same)) (g.0, tt))

    out_of : (b : Bool) → b ≡ is_some t → FrameSafe c k.locals k.result (meaning.kept b s.frame.operands >>= λ ws. Ok (record s.frame { labels = []; operands = ws; body = Done }))
    out_of b is = rw is (by_result t refl s.frame.operands refl h)

pub return_row : (c : Context) (program : Program) (s : State) (k : StateTyped c s) (rest : Body) (mid : Types)
    → IsTyped (inside c k.locals k.result) k.frame.labels Return k.frame.operands mid → StepSafe c (meaning.goes program Return (record s.frame { body = rest }) s)
return_row c program s k rest mid typed =
    let m : Moves (Leaves (listed k.result)) k.frame.operands mid = moved (inside c k.locals k.result) k.frame.labels Return k.frame.operands mid typed in
    framed_safe c s k (meaning.returned (record s.frame { body = rest })) (returns_by c s k rest k.result m.0 refl (retyped s.frame.operands k.frame.operands (listed k.result ++ m.0) m.1 k.frame.operands_typed))

-- ---- locals that are set

typed_set : (vs : List Value) (ts : Types) (x : ℕ) (t : ValueType) (v : Value) → TypedAs vs ts → slice_get ts x ≡ Some t → type_of v ≡ t → (x < length vs) × TypedAs (slice_set vs x v) ts
typed_set [] [] x t v h e is = absurd cc
typed_set [] (u ∷ us) x t v h e is = absurd h
typed_set (y ∷ vs) [] x t v h e is = absurd h
typed_set (y ∷ vs) (u ∷ us) zero t v h e is = let same : t ≡ u = cc in (omega arith, (is ∙ same, h.1))
typed_set (y ∷ vs) (u ∷ us) (suc x) t v h e is = let w = typed_set vs us x t v h.1 e is in let less : x < length vs = w.0 in (omega arith, (h.0, w.1))

set_safe : (c : Context) (s : State) (k : StateTyped c s) (x : ℕ) (rest : Body) (t : ValueType) (v : Value) (vs : List Value) (ts : Types) → slice_get k.locals x ≡ Some t → type_of v ≡ t → TypedAs vs ts
    → AreTyped rest (inside c k.locals k.result) k.frame.labels ts k.frame.gives
    → StepSafe c (on (in_frame s (set_at x v s.frame.locals >>= λ ls. Ok (record s.frame { body = rest; operands = vs; locals = ls }))))
set_safe c s k x rest t v vs ts e is h after =
    let w = typed_set s.frame.locals k.locals x t v k.frame.locals_typed e is in
    rw (lt-ltb x (length s.frame.locals) w.0) (in_state c s k (record s.frame { body = rest; operands = vs; locals = slice_set s.frame.locals x v }) (record {
      labels = k.frame.labels;
      operands = ts;
      gives = k.frame.gives;
      keeps = k.frame.keeps;
      locals_typed = w.1;
      operands_typed = h;
      body_typed = after;
      outer = k.frame.outer;
    }))

local_set_by : (c : Context) (s : State) (k : StateTyped c s) (x : ℕ) (rest : Body) (mid : Types) (o : Option ValueType) → slice_get k.locals x ≡ o
    → Moved (checks.◌>>=◌ (checks.found UnknownLocal o) (λ t. Ok (Mono (t ∷ []) []))) k.frame.operands mid → AreTyped rest (inside c k.locals k.result) k.frame.labels mid k.frame.gives
    → (vs : List Value) → TypedAs vs k.frame.operands → StepSafe c (on (in_frame s (set_local x vs (all_but_first vs) (record s.frame { body = rest }))))
local_set_by c s k x rest mid None e m after vs h = absurd m
local_set_by c s k x rest mid (Some t) e m after [] h = absurd (retyped [] k.frame.operands (t ∷ m.0) m.1 h)
local_set_by c s k x rest mid (Some t) e m after (v ∷ vs) h =
    let g : (type_of v ≡ t) × TypedAs vs m.0 = retyped (v ∷ vs) k.frame.operands (t ∷ m.0) m.1 h in
    let P : Types → Type 0 = λ ts. AreTyped rest (inside c k.locals k.result) k.frame.labels ts k.frame.gives in
    set_safe c s k x rest t v vs m.0 e g.0 g.1 (subst P m.2 after)

local_tee_by : (c : Context) (s : State) (k : StateTyped c s) (x : ℕ) (rest : Body) (mid : Types) (o : Option ValueType) → slice_get k.locals x ≡ o
    → Moved (checks.◌>>=◌ (checks.found UnknownLocal o) (λ t. Ok (Mono (t ∷ []) (t ∷ [])))) k.frame.operands mid → AreTyped rest (inside c k.locals k.result) k.frame.labels mid k.frame.gives
    → (vs : List Value) → TypedAs vs k.frame.operands → StepSafe c (on (in_frame s (set_local x vs vs (record s.frame { body = rest }))))
local_tee_by c s k x rest mid None e m after vs h = absurd m
local_tee_by c s k x rest mid (Some t) e m after [] h = absurd (retyped [] k.frame.operands (t ∷ m.0) m.1 h)
local_tee_by c s k x rest mid (Some t) e m after (v ∷ vs) h =
    let g : (type_of v ≡ t) × TypedAs vs m.0 = retyped (v ∷ vs) k.frame.operands (t ∷ m.0) m.1 h in
    let P : Types → Type 0 = λ ts. AreTyped rest (inside c k.locals k.result) k.frame.labels ts k.frame.gives in
    set_safe c s k x rest t v (v ∷ vs) (t ∷ m.0) e g.0 g (subst P m.2 after)

pub local_set_row : (c : Context) (program : Program) (s : State) (k : StateTyped c s) (x : ℕ) (rest : Body) (mid : Types)
    → IsTyped (inside c k.locals k.result) k.frame.labels (LocalSet x) k.frame.operands mid → AreTyped rest (inside c k.locals k.result) k.frame.labels mid k.frame.gives
    → StepSafe c (meaning.goes program (LocalSet x) (record s.frame { body = rest }) s)
local_set_row c program s k x rest mid typed after =
    local_set_by c s k x rest mid (slice_get k.locals x) refl (moved (inside c k.locals k.result) k.frame.labels (LocalSet x) k.frame.operands mid typed) after s.frame.operands k.frame.operands_typed

pub local_tee_row : (c : Context) (program : Program) (s : State) (k : StateTyped c s) (x : ℕ) (rest : Body) (mid : Types)
    → IsTyped (inside c k.locals k.result) k.frame.labels (LocalTee x) k.frame.operands mid → AreTyped rest (inside c k.locals k.result) k.frame.labels mid k.frame.gives
    → StepSafe c (meaning.goes program (LocalTee x) (record s.frame { body = rest }) s)
local_tee_row c program s k x rest mid typed after =
    local_tee_by c s k x rest mid (slice_get k.locals x) refl (moved (inside c k.locals k.result) k.frame.labels (LocalTee x) k.frame.operands mid typed) after s.frame.operands k.frame.operands_typed

-- ---- calls through the table

same_lists : (ts us : List ValueType) → same_types ts us ≡ true → ts ≡ us
same_lists [] [] e = refl
same_lists [] (u ∷ us) e = absurd cc
same_lists (t ∷ ts) [] e = absurd cc
same_lists (t ∷ ts) (u ∷ us) e =
    let both = both_true (same_type t u) (same_types ts us) e in
    let first : t ≡ u = same_value_type t u both.0 in
    let rest : ts ≡ us = same_lists ts us both.1 in
    cc

same_functions : (t u : FuncType) → same_function_type t u ≡ true → t ≡ u
same_functions t u e =
    let both = both_true (same_result t.result u.result) (same_types t.params u.params) e in
    let params : t.params ≡ u.params = same_lists t.params u.params both.1 in
    let result : t.result ≡ u.result = same_results t.result u.result both.0 in
    ap (λ (ps : List ValueType). let a : FuncType = record { params = ps; result = t.result } in a) params
    ∙ ap (λ (r : Option ValueType). let a : FuncType = record { params = u.params; result = r } in a) result

entry_typed : (c : Context) (s : State) (k : StateTyped c s) (y : ℕ) (t u : FuncType) (rest : Body) (vs : List Value) (below : Types) → TypedAs vs (params_of t ++ below)
    → AreTyped rest (inside c k.locals k.result) k.frame.labels (listed t.result ++ below) k.frame.gives → function_at c y ≡ Ok u → (o : Option Function) → FunctionTyped c u o
    → StepSafe c (meaning.of_type y t o (record s.frame { body = rest; operands = vs }) s)
entry_typed c s k y t u rest vs below h after known None g = absurd g
entry_typed c s k y t u rest vs below h after known (Some f) g = by_type (same_function_type f.kind t) refl
  where
    by_type : (b : Bool) → same_function_type f.kind t ≡ b
        → StepSafe c (if b then meaning.call_of y (Some f) (record s.frame { body = rest; operands = vs }) s else Err (Trap IndirectType))
    by_type false e = λ stuck. cc
    by_type true e =
        let own : f.kind ≡ t = same_functions f.kind t e in
        let P : FuncType → Type 0 = λ a. FunctionTyped c a (Some f) in
        let K : FuncType → Type 0 = λ a. function_at c y ≡ Ok a in
        known_typed c s k y t rest vs below h after (subst K (sym g.0 ∙ own) known) (Some f) (subst P (sym g.0 ∙ own) g)

through_typed : (c : Context) (program : Program) → ProgramTyped c program → (s : State) (k : StateTyped c s) (n : ℕ) (t : FuncType) (rest : Body) (vs : List Value) (below : Types) → TypedAs vs (params_of t ++ below)
    → AreTyped rest (inside c k.locals k.result) k.frame.labels (listed t.result ++ below) k.frame.gives → (o : Option (Option ℕ)) → slice_get program.table n ≡ o
    → StepSafe c (meaning.through program o t (record s.frame { body = rest; operands = vs }) s)
through_typed c program p s k n t rest vs below h after None e = λ stuck. cc
through_typed c program p s k n t rest vs below h after (Some None) e = λ stuck. cc
through_typed c program p s k n t rest vs below h after (Some (Some y)) e =
    let u = p.table n y e in
    entry_typed c s k y t u.0 rest vs below h after u.1 (slice_get program.functions y) (p.functions y u.0 u.1)

indirect_by : (c : Context) (program : Program) → ProgramTyped c program → (s : State) (k : StateTyped c s) (x : ℕ) (rest : Body) (mid : Types) (o : Option FuncType) → slice_get c.types x ≡ o → (b : Bool)
    → Moved (checks.◌>>=◌ (checks.found UnknownType o) (λ t. checks.◌>>=◌ {A = Unit {0}} (if b then Ok tt else Err UnknownTable) (λ z. Ok (Mono (types.I32 ∷ params_of t) (listed t.result))))) k.frame.operands mid
    → AreTyped rest (inside c k.locals k.result) k.frame.labels mid k.frame.gives
    → StepSafe c (tested s.frame.operands >>= λ o. found (slice_get program.types x) >>= λ t. meaning.through program (slice_get program.table o.0) t (record s.frame { body = rest; operands = o.1 }) s)
indirect_by c program p s k x rest mid None e b m after = absurd m
indirect_by c program p s k x rest mid (Some t) e false m after = absurd m
indirect_by c program p s k x rest mid (Some t) e true m after =
    let w = test_there s.frame.operands (params_of t ++ m.0) (retyped s.frame.operands k.frame.operands (types.I32 ∷ (params_of t ++ m.0)) m.1 k.frame.operands_typed) in
    let there : slice_get program.types x ≡ Some t = ap (λ (ts : List FuncType). slice_get ts x) p.types ∙ e in
    let P : Types → Type 0 = λ ts. AreTyped rest (inside c k.locals k.result) k.frame.labels ts k.frame.gives in
    rw (w.2, there) (through_typed c program p s k w.0 t rest w.1 m.0 w.3 (subst P m.2 after) (slice_get program.table w.0) refl)

pub call_indirect_row : (c : Context) (program : Program) → ProgramTyped c program → (s : State) (k : StateTyped c s) (x : ℕ) (rest : Body) (mid : Types)
    → IsTyped (inside c k.locals k.result) k.frame.labels (CallIndirect x) k.frame.operands mid → AreTyped rest (inside c k.locals k.result) k.frame.labels mid k.frame.gives
    → StepSafe c (meaning.goes program (CallIndirect x) (record s.frame { body = rest }) s)
call_indirect_row c program p s k x rest mid typed after =
    indirect_by c program p s k x rest mid (slice_get c.types x) refl (nat_lt 0 c.tables) (moved (inside c k.locals k.result) k.frame.labels (CallIndirect x) k.frame.operands mid typed) after
