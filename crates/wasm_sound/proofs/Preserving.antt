-- Typed instructions aren't stuck, and leave typed states.
use Rattle.std.specs.Option.{option_to_list as listed, is_some}
use Rattle.std.proofs.Common.{◌≡◌, ℕ, zero, suc, ◌≤◌, refl, sym, ap, subst, ◌∙◌, Ok, Err, Some, None, true, false, Bool, if◌then◌else◌, Option, List, [], ◌∷◌, ◌++◌, Result, length, drop, slice_get, nat_eq, arith}
use Rattle.wasm_types.specs.declared.types.ValueType.{ValueType}
use Rattle.wasm_types.specs.declared.types.ValueType.TheVariants as types
use Rattle.wasm_types.specs.declared.types.FuncType.{FuncType}
use Rattle.wasm_types.specs.declared.values.Value.{Value}
use Rattle.wasm_types.specs.declared.values.Value.TheVariants.{I32, I64}
use Rattle.wasm_types.specs.declared.instructions.Instr.{Instr}
use Rattle.wasm_types.specs.Nested.{Body, Done, Goes, InBlock, InLoop, InIf, InIfElse, role_of, Plain}
use Rattle.wasm_validate.specs.Rules.{Context, Labels, function_at}
use Rattle.wasm_validate.specs.Typing.{Types, AreTyped, IsTyped}
use Rattle.wasm_meaning.specs.declared.off.Off.{Off}
use Rattle.wasm_meaning.specs.declared.off.Off.TheVariants.{Stuck}
use Rattle.wasm_meaning.specs.Steps.{◌>>=◌}
use Rattle.wasm_meaning.specs.Frames.{Program, Function, Frame, Label, State}
use Rattle.wasm_meaning.specs.Meaning.{kept, to_label, to_first, returned, entered, tested as test, step, in_frame}
use Rattle.wasm_meaning.specs.Meaning as meaning
use Rattle.wasm_meaning.specs.Runs.{runs, fed, gone, next, is_done, dry, arguments, taken, resumed, params_of}
use Rattle.wasm_sound.specs.Typed.{IsStuck, TypedAs, branch_type, AgainTyped, Outer, inside, FrameTyped, WorldTyped, StateTyped, FunctionTyped, ProgramTyped, Fits, StandsAt}
use Rattle.wasm_sound.proofs.Settling.{retyped, next_typed}

abbrev pub FrameSafe : Context → Types → Option ValueType → Result Frame Off → Type 0
FrameSafe c locals result (Ok f) = FrameTyped c locals result [] f
FrameSafe c locals result (Err e) = e ≡ Stuck → ⊥

abbrev pub StepSafe : Context → Result (Option ℕ × State) Off → Type 0
StepSafe c (Ok (None, s)) = StateTyped c s
StepSafe c (Ok (Some x, s)) =
    (t : FuncType) × (function_at c x ≡ Ok t) × TypedAs (arguments (length t.params) s) t.params × ((value : Option Value) → Fits t.result value → StateTyped c (resumed value (taken (length t.params) s)))
StepSafe c (Err e) = e ≡ Stuck → ⊥

-- ---- branches

kept_typed : (t : Option ValueType) (vs : List Value) (below : Types) → TypedAs vs (listed t ++ below) → (ws : List Value) × (kept (is_some t) vs ≡ Ok ws) × TypedAs ws (listed t)
kept_typed None vs below h = ([], refl, tt)
kept_typed (Some t) [] below h = absurd h
kept_typed (Some t) (v ∷ vs) below h = (v ∷ [], refl, (h.0, tt))

ended_block : (c : Context) (locals : Types) (result : Option ValueType) (f : Frame) → f.keeps ≡ is_some result → TypedAs f.locals locals
    → (ls : List Label) (labels : Labels) (gives : Types) → Outer (inside c locals result) ls gives labels
    → (t : Option ValueType) → gives ≡ listed t → (keeps : Bool) → keeps ≡ is_some t → (below : Types) → TypedAs f.operands (listed t ++ below)
    → FrameSafe c locals result (kept keeps f.operands >>= λ vs. Ok (record f { labels = ls; operands = vs; body = Done }))
ended_block c locals result f k has ls labels gives outer t ends keeps e below h =
    let w = kept_typed t f.operands below h in
    let made : kept keeps f.operands ≡ Ok w.0 = ap (λ b. kept b f.operands) e ∙ w.1 in
    rw made (record { labels = labels; operands = listed t; gives = gives; keeps = k; locals_typed = has; operands_typed = w.2; body_typed = sym ends; outer = outer })

some_same : {A : Type 0} (x y : A) (o : Option A) → o ≡ Some x → o ≡ Some y → x ≡ y
some_same x y o h k = cc

to_label_safe : (c : Context) (locals : Types) (result : Option ValueType) (f : Frame) → f.keeps ≡ is_some result → TypedAs f.locals locals
    → (l : Label) (ls : List Label) (labels : Labels) (gives : Types) → (outer : Outer (inside c locals result) (l ∷ ls) gives labels)
    → (again : Option (Option ValueType × Body)) → l.again ≡ again → (t : Option ValueType) → slice_get labels zero ≡ Some t → (below : Types) → TypedAs f.operands (listed t ++ below)
    → FrameSafe c locals result (to_label again l ls f)
to_label_safe c locals result f k has l ls labels gives outer None e t is below h =
    let type_is : t ≡ outer.0 = some_same t outer.0 (slice_get labels zero) is (ap (λ xs. slice_get xs zero) outer.4 ∙ ap (λ g. Some (branch_type g outer.0)) e) in
    ended_block c locals result f k has (l ∷ ls) labels gives outer t (outer.5 ∙ ap listed (sym type_is)) l.keeps (outer.6 ∙ ap is_some (sym type_is)) below h
to_label_safe c locals result f k has l ls labels gives outer (Some loop) e t is below h =
    let P : Option (Option ValueType × Body) → Type 0 = λ g. AgainTyped (inside c locals result) outer.1 outer.0 g in
    let typed : (loop.0 ≡ outer.0) × AreTyped loop.1 (inside c locals result) (None ∷ outer.1) [] (listed outer.0) = subst P e outer.7 in
    let Q : Option ValueType → Type 0 = λ r. AreTyped loop.1 (inside c locals result) (None ∷ outer.1) [] (listed r) × AreTyped l.rest (inside c locals result) outer.1 (listed r ++ outer.2) outer.3 in
    record { labels = outer.1; operands = outer.2; gives = outer.3; keeps = k; locals_typed = has; operands_typed = outer.8; body_typed = subst Q (sym typed.0) (typed.1, outer.9); outer = outer.10 }

pub branches : (n : ℕ) (c : Context) (locals : Types) (result : Option ValueType) (f : Frame) → f.keeps ≡ is_some result → TypedAs f.locals locals
    → (ls : List Label) (labels : Labels) (gives : Types) → Outer (inside c locals result) ls gives labels
    → (t : Option ValueType) → slice_get labels n ≡ Some t → (below : Types) → TypedAs f.operands (listed t ++ below)
    → (n ≤ length ls) × FrameSafe c locals result (to_first (drop n ls) f)
branches zero c locals result f k has [] labels gives outer t is below h =
    let same : t ≡ result = some_same t result (slice_get labels zero) is (ap (λ xs. slice_get xs zero) outer.0) in
    let alone : Outer (inside c locals result) [] (listed result) (result ∷ []) = (refl, refl) in
    let P : Option ValueType → Type 0 = λ r. TypedAs f.operands (listed r ++ below) in
    (omega arith, ended_block c locals result f k has [] (result ∷ []) (listed result) alone result refl f.keeps k below (subst P same h))
branches (suc n) c locals result f k has [] labels gives outer t is below h =
    let none : slice_get labels (suc n) ≡ None = ap (λ xs. slice_get xs (suc n)) outer.0 in absurd (cc (none, is))
branches zero c locals result f k has (l ∷ ls) labels gives outer t is below h =
    (omega arith, to_label_safe c locals result f k has l ls labels gives outer l.again refl t is below h)
branches (suc n) c locals result f k has (l ∷ ls) labels gives outer t is below h =
    let deeper : slice_get outer.1 n ≡ Some t = sym (ap (λ xs. slice_get xs (suc n)) outer.4) ∙ is in
    let w = branches n c locals result f k has ls outer.1 outer.3 outer.10 t deeper below h in
    let within : n ≤ length ls = w.0 in
    (omega arith, w.1)

-- ---- blocks

begun : (c : Context) (locals : Types) (result : Option ValueType) (f : Frame) (k : FrameTyped c locals result [] f) (r : Option ValueType) (inner rest : Body) (vs : List Value) (below : Types)
    → TypedAs vs below → AreTyped inner (inside c locals result) (r ∷ k.labels) [] (listed r) → AreTyped rest (inside c locals result) k.labels (listed r ++ below) k.gives
    → FrameTyped c locals result [] (entered (is_some r) None inner rest vs f)
begun c locals result f k r inner rest vs below h first after = record {
  labels = r ∷ k.labels;
  operands = [];
  gives = listed r;
  keeps = k.keeps;
  locals_typed = k.locals_typed;
  operands_typed = tt;
  body_typed = first;
  outer = (r, k.labels, below, k.gives, refl, refl, refl, tt, h, after, k.outer);
}

loop_begun : (c : Context) (locals : Types) (result : Option ValueType) (f : Frame) (k : FrameTyped c locals result [] f) (r : Option ValueType) (inner rest : Body) (vs : List Value) (below : Types)
    → TypedAs vs below → AreTyped inner (inside c locals result) (None ∷ k.labels) [] (listed r) → AreTyped rest (inside c locals result) k.labels (listed r ++ below) k.gives
    → FrameTyped c locals result [] (entered (is_some r) (Some (r, inner)) inner rest vs f)
loop_begun c locals result f k r inner rest vs below h first after = record {
  labels = None ∷ k.labels;
  operands = [];
  gives = listed r;
  keeps = k.keeps;
  locals_typed = k.locals_typed;
  operands_typed = tt;
  body_typed = first;
  outer = (r, k.labels, below, k.gives, refl, refl, refl, (refl, first), h, after, k.outer);
}

-- a test that is there
tested : (vs : List Value) (below : Types) → TypedAs vs (types.I32 ∷ below) → (n : ℕ) × (ws : List Value) × (test vs ≡ Ok (n, ws)) × TypedAs ws below
tested [] below h = absurd h
tested (I64 n ∷ vs) below h = absurd (cc (h.0))
tested (I32 n ∷ vs) below h = (n, vs, refl, h.1)

pub in_state : (c : Context) (s : State) (k : StateTyped c s) (f : Frame) → FrameTyped c k.locals k.result [] f → StateTyped c (record s { frame = f })
in_state c s k f h = record { locals = k.locals; result = k.result; frame = h; callers = k.callers; world = k.world }

-- what instructions that are no blocks have to show, row by row
abbrev pub PlainSafe : Context → Program → Type 0
PlainSafe c program = (s : State) (k : StateTyped c s) (i : Instr) (rest : Body) (mid : Types) → role_of i ≡ Plain
    → IsTyped (inside c k.locals k.result) k.frame.labels i k.frame.operands mid → AreTyped rest (inside c k.locals k.result) k.frame.labels mid k.frame.gives
    → StepSafe c (meaning.goes program i (record s.frame { body = rest }) s)

step_safe : (c : Context) (program : Program) → PlainSafe c program → (s : State) (k : StateTyped c s) (b : Body) → is_done b ≡ false → AreTyped b (inside c k.locals k.result) k.frame.labels k.frame.operands k.frame.gives
    → StepSafe c (step program b s.frame s)
step_safe c program rows s k Done e h = absurd cc
step_safe c program rows s k (Goes i p rest) e (mid, typed, after) = rows s k i rest mid p typed after
step_safe c program rows s k (InBlock r inner rest) e (first, after) =
    in_state c s k (entered (is_some r) None inner rest s.frame.operands s.frame) (begun c k.locals k.result s.frame k.frame r inner rest s.frame.operands k.frame.operands k.frame.operands_typed first after)
step_safe c program rows s k (InLoop r inner rest) e (first, after) =
    in_state c s k (entered (is_some r) (Some (r, inner)) inner rest s.frame.operands s.frame) (loop_begun c k.locals k.result s.frame k.frame r inner rest s.frame.operands k.frame.operands k.frame.operands_typed first after)
step_safe c program rows s k (InIf r inner rest) e (below, is, first, no_result, after) =
    let w = tested s.frame.operands below (retyped s.frame.operands k.frame.operands (types.I32 ∷ below) is k.frame.operands_typed) in
    rw (w.2) (in_state c s k (entered (is_some r) None (if nat_eq w.0 0 then Done else inner) rest w.1 s.frame)
    (begun c k.locals k.result s.frame k.frame r (if nat_eq w.0 0 then Done else inner) rest w.1 below w.3 (one_of (nat_eq w.0 0) first (sym no_result)) after))
  where
    one_of : (b : Bool) → AreTyped inner (inside c k.locals k.result) (r ∷ k.frame.labels) [] (listed r) → [] ≡ listed r → AreTyped (if b then Done else inner) (inside c k.locals k.result) (r ∷ k.frame.labels) [] (listed r)
    one_of true h g = g
    one_of false h g = h
step_safe c program rows s k (InIfElse r one two rest) e (below, is, first, second, after) =
    let w = tested s.frame.operands below (retyped s.frame.operands k.frame.operands (types.I32 ∷ below) is k.frame.operands_typed) in
    rw (w.2) (in_state c s k (entered (is_some r) None (if nat_eq w.0 0 then two else one) rest w.1 s.frame)
    (begun c k.locals k.result s.frame k.frame r (if nat_eq w.0 0 then two else one) rest w.1 below w.3 (one_of (nat_eq w.0 0) first second) after))
  where
    one_of : (b : Bool) → AreTyped one (inside c k.locals k.result) (r ∷ k.frame.labels) [] (listed r) → AreTyped two (inside c k.locals k.result) (r ∷ k.frame.labels) [] (listed r) → AreTyped (if b then two else one) (inside c k.locals k.result) (r ∷ k.frame.labels) [] (listed r)
    one_of true h g = g
    one_of false h g = h

-- ---- whole runs

unstuck : (c : Context) (program : Program) (n : ℕ) (s : State) (r : Result (Option ℕ × State) Off) → StepSafe c r → ((now : State) → StateTyped c now → IsStuck (runs n program now).ending → ⊥)
    → IsStuck (gone program (runs n program) n s r).ending → ⊥
unstuck c program n s (Ok (None, now)) h later e = later now h e
unstuck c program n s (Ok (Some x, now)) h later e = absurd cc
unstuck c program n s (Err f) h later e = let stuck : f ≡ Stuck = cc in h stuck

unstuck_at : (c : Context) (program : Program) → PlainSafe c program → (n : ℕ) (s : State) (k : StateTyped c s) (b : Bool) → is_done s.frame.body ≡ b → ((now : State) → StateTyped c now → IsStuck (runs n program now).ending → ⊥)
    → IsStuck (fed program (runs n program) n b s).ending → ⊥
unstuck_at c program rows n s k true e later h = absurd cc
unstuck_at c program rows n s k false e later h = unstuck c program n s (step program s.frame.body s.frame s) (step_safe c program rows s k s.frame.body e k.frame.body_typed) later h

dry_unstuck : (b : Bool) (s : State) → IsStuck (dry b s).ending → ⊥
dry_unstuck true s e = cc
dry_unstuck false s e = cc

-- code that is typed is never stuck, whatever the fuel
pub never_stuck : (c : Context) (program : Program) → PlainSafe c program → (n : ℕ) (s : State) → StateTyped c s → IsStuck (runs n program s).ending → ⊥
never_stuck c program rows zero s k e = dry_unstuck (is_done (next s).frame.body) (next s) e
never_stuck c program rows (suc n) s k e =
    unstuck_at c program rows n (next s) (next_typed c s k) (is_done (next s).frame.body) refl (λ now typed. never_stuck c program rows n now typed) e

-- ---- calls of imports

params_known : (c : Context) (t : FuncType) (o : Option Function) → FunctionTyped c t o → length t.params ≡ params_of o
params_known c t None h = absurd h
params_known c t (Some f) h = ap (λ (a : FuncType). length a.params) (sym h.0)

stands_behind : (c : Context) (program : Program) → ProgramTyped c program → (n : ℕ) (s : State) (r : Result (Option ℕ × State) Off) → StepSafe c r
    → ((now : State) → StateTyped c now → StandsAt c (runs n program now).ending (runs n program now).state) → StandsAt c (gone program (runs n program) n s r).ending (gone program (runs n program) n s r).state
stands_behind c program p n s (Ok (None, now)) h later = later now h
stands_behind c program p n s (Ok (Some x, now)) (t, known, typed, leads) later =
    let P : ℕ → Type 0 = λ m. TypedAs (arguments m now) t.params × ((value : Option Value) → Fits t.result value → StateTyped c (resumed value (taken m now))) in
    let both = subst P (params_known c t (slice_get program.functions x) (p.functions x t known)) (typed, leads) in (t, known, both.0, both.1)
stands_behind c program p n s (Err f) h later = tt

stands_fed : (c : Context) (program : Program) → ProgramTyped c program → PlainSafe c program → (n : ℕ) (s : State) (k : StateTyped c s) (b : Bool) → is_done s.frame.body ≡ b
    → ((now : State) → StateTyped c now → StandsAt c (runs n program now).ending (runs n program now).state) → StandsAt c (fed program (runs n program) n b s).ending (fed program (runs n program) n b s).state
stands_fed c program p rows n s k true e later = tt
stands_fed c program p rows n s k false e later = stands_behind c program p n s (step program s.frame.body s.frame s) (step_safe c program rows s k s.frame.body e k.frame.body_typed) later

stands_dry : (c : Context) (b : Bool) (s : State) → StandsAt c (dry b s).ending (dry b s).state
stands_dry c true s = tt
stands_dry c false s = tt

-- where typed code calls an import it goes on, once that has answered
pub stands_at : (c : Context) (program : Program) → ProgramTyped c program → PlainSafe c program → (n : ℕ) (s : State) → StateTyped c s → StandsAt c (runs n program s).ending (runs n program s).state
stands_at c program p rows zero s k = stands_dry c (is_done (next s).frame.body) (next s)
stands_at c program p rows (suc n) s k =
    stands_fed c program p rows n (next s) (next_typed c s k) (is_done (next s).frame.body) refl (λ now typed. stands_at c program p rows n now typed)

-- ---- the world in which a run ends

fitting : (r : Option ValueType) → (value : Option Value) × Fits r value
fitting None = (None, tt)
fitting (Some types.I32) = (Some (I32 0), refl)
fitting (Some types.I64) = (Some (I64 0), refl)

world_of : (c : Context) (value : Option Value) (s : State) → StateTyped c (resumed value s) → WorldTyped c s.world
world_of c None s k = k.world
world_of c (Some v) s k = k.world

world_behind : (c : Context) (program : Program) (n : ℕ) (s : State) → StateTyped c s → (r : Result (Option ℕ × State) Off) → StepSafe c r
    → ((now : State) → StateTyped c now → WorldTyped c (runs n program now).state.world) → WorldTyped c (gone program (runs n program) n s r).state.world
world_behind c program n s k (Ok (None, now)) h later = later now h
world_behind c program n s k (Ok (Some x, now)) (t, known, typed, leads) later =
    let any = fitting t.result in world_of c any.0 (taken (length t.params) now) (leads any.0 any.1)
world_behind c program n s k (Err f) h later = k.world

world_fed : (c : Context) (program : Program) → PlainSafe c program → (n : ℕ) (s : State) (k : StateTyped c s) (b : Bool) → is_done s.frame.body ≡ b
    → ((now : State) → StateTyped c now → WorldTyped c (runs n program now).state.world) → WorldTyped c (fed program (runs n program) n b s).state.world
world_fed c program rows n s k true e later = k.world
world_fed c program rows n s k false e later = world_behind c program n s k (step program s.frame.body s.frame s) (step_safe c program rows s k s.frame.body e k.frame.body_typed) later

world_dry : (c : Context) (b : Bool) (s : State) → StateTyped c s → WorldTyped c (dry b s).state.world
world_dry c true s k = k.world
world_dry c false s k = k.world

-- globals and memory stay of their types
pub world_kept : (c : Context) (program : Program) → PlainSafe c program → (n : ℕ) (s : State) → StateTyped c s → WorldTyped c (runs n program s).state.world
world_kept c program rows zero s k = world_dry c (is_done (next s).frame.body) (next s) (next_typed c s k)
world_kept c program rows (suc n) s k =
    world_fed c program rows n (next s) (next_typed c s k) (is_done (next s).frame.body) refl (λ now typed. world_kept c program rows n now typed)
