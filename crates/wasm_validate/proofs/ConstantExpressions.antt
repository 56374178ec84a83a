-- A constant expression is checked without a fault exactly where it is one of its type.
use Rattle.std.proofs.Common.{◌≡◌, ℕ, ◌+◌, ◌≤◌, Bool, true, false, cond, ltb, ◌&&◌, Option, Some, None, Ok, Err, List, [], ◌∷◌, length, refl, sym, ap, subst, ◌∙◌, arith}
use Rattle.std.proofs.lemmas.Bool.{le-ltb}
use Rattle.std.specs.List.{slice_get}
use Rattle.wasm_types.specs.Types.{same_result}
use Rattle.wasm_types.proofs.Groups.{same_is, same_self}
use Rattle.wasm_types.specs.declared.types.ValueType.{ValueType}
use Rattle.wasm_types.specs.declared.types.ValueType.TheVariants.{I32, I64}
use Rattle.wasm_types.specs.declared.types.GlobalType.{GlobalType}
use Rattle.wasm_types.specs.declared.instructions.Instr.{Instr}
use Rattle.wasm_types.specs.declared.instructions.Instr.TheVariants.{GlobalGet, Const, End}
use Rattle.wasm_types.specs.Nested.{role_of, Plain, Body, Done, Goes, InBlock, InLoop, InIf, InIfElse, flat_onto, Nests}
use Rattle.wasm_validate.specs.declared.fault.ValidKind.{ValidKind}
use Rattle.wasm_validate.specs.declared.fault.ValidKind.TheVariants.{BadConst, TooHigh, TypeMismatch, UnknownGlobal}
use Rattle.wasm_validate.specs.Steps.{found}
use Rattle.wasm_validate.specs.Rules.{type_of, Mono, rule_of}
use Rattle.wasm_validate.specs.Typing.{Types, IsTyped, AreTyped}
use Rattle.wasm_validate.specs.Valid.{IsConstant, AreConstant, sees, GivesConstant}
use Rattle.wasm_validate.specs.Parts.{one_constant, is_end, constants, is_one, constant, needs}
use Rattle.wasm_validate.proofs.Results.{bind_ok, needs_ok, guard_ok, done, ok_is}

pub found_ok : {A E : Type 0} (e : E) (o : Option A) (x : A) → found e o ≡ Ok x → o ≡ Some x
found_ok e None x h = absurd cc
found_ok {A} {E} e (Some y) x h = ap (λ (z : A). let o : Option A = Some z in o) (ok_is {E = E} y x h)

-- ---- one constant

global_rule : (globals : List GlobalType) (x : ℕ) (g : GlobalType) → slice_get globals x ≡ Some g → rule_of (sees globals) [] (GlobalGet x) ≡ Ok (Mono [] (g.kind ∷ []))
global_rule globals x g f = rw f refl

one_typed : (i : Instr) (globals : List GlobalType) (t : ValueType) (xs : Types) → one_constant globals i ≡ Ok t → IsConstant globals i × IsTyped (sees globals) [] i xs (t ∷ xs)
one_typed (Const v) globals t xs e =
    (tt, (Mono [] (type_of v ∷ []), refl, refl, (xs, refl, ap (λ (z : ValueType). z ∷ xs) (sym (ok_is {E = ValidKind} (type_of v) t e)))))
one_typed (GlobalGet x) globals t xs e =
    let b = bind_ok (found UnknownGlobal (slice_get globals x)) (λ g. cond g.mutable (Err BadConst) (done g.kind)) t e in
    let f = found_ok UnknownGlobal (slice_get globals x) b.0 b.1 in
    let g = guard_ok b.0.mutable BadConst (done b.0.kind) t b.2 in
    ((b.0, f, g.0), (Mono [] (b.0.kind ∷ []), global_rule globals x b.0 f, refl, (xs, refl, ap (λ (z : ValueType). z ∷ xs) (sym (ok_is {E = ValidKind} b.0.kind t g.1)))))
one_typed i globals t xs e = absurd cc

typed_one : (i : Instr) (globals : List GlobalType) (xs ys : Types) → IsConstant globals i → IsTyped (sees globals) [] i xs ys → (t : ValueType) × (one_constant globals i ≡ Ok t) × (ys ≡ t ∷ xs)
typed_one (Const v) globals xs ys k h =
    let r : h.0 ≡ Mono [] (type_of v ∷ []) = ok_is {E = ValidKind} h.0 (Mono [] (type_of v ∷ [])) (sym h.1) in
    let m = rw r at h.3 in
    (type_of v, refl, m.2 ∙ ap (λ (z : Types). type_of v ∷ z) (sym m.1))
typed_one (GlobalGet x) globals xs ys k h =
    let r : h.0 ≡ Mono [] (k.0.kind ∷ []) = ok_is {E = ValidKind} h.0 (Mono [] (k.0.kind ∷ [])) (sym h.1 ∙ global_rule globals x k.0 k.1) in
    let m = rw r at h.3 in
    (k.0.kind, rw (k.1, k.2) refl, m.2 ∙ ap (λ (z : Types). k.0.kind ∷ z) (sym m.1))
typed_one i globals xs ys k h = absurd k

-- ---- an expression

plain_no_end : (i : Instr) → role_of i ≡ Plain → is_end i ≡ false
plain_no_end End p = absurd cc
plain_no_end i p = refl

run_typed : (body : Body) (globals : List GlobalType) (seen ts : Types) → constants (flat_onto body (End ∷ [])) globals seen ≡ Ok ts → AreConstant globals body × AreTyped body (sees globals) [] seen ts
run_typed Done globals seen ts e = (tt, ok_is {E = ValidKind} seen ts e)
run_typed (Goes i p rest) globals seen ts e =
    let f = rw (plain_no_end i p) at e in
    let b = bind_ok (one_constant globals i) (λ t. cond (ltb 1024 (1 + length seen)) (Err TooHigh) (constants (flat_onto rest (End ∷ [])) globals (t ∷ seen))) ts f in
    let g = guard_ok (ltb 1024 (1 + length seen)) TooHigh (constants (flat_onto rest (End ∷ [])) globals (b.0 ∷ seen)) ts b.2 in
    let one = one_typed i globals b.0 seen b.1 in
    let r = run_typed rest globals (b.0 ∷ seen) ts g.1 in
    ((one.0, r.0), (b.0 ∷ seen, one.1, r.1))
run_typed (InBlock r inner rest) globals seen ts e = absurd cc
run_typed (InLoop r inner rest) globals seen ts e = absurd cc
run_typed (InIf r inner rest) globals seen ts e = absurd cc
run_typed (InIfElse r first second rest) globals seen ts e = absurd cc

-- constants only add operands
longer : (body : Body) (globals : List GlobalType) (xs ys : Types) → AreConstant globals body → AreTyped body (sees globals) [] xs ys → length xs ≤ length ys
longer Done globals xs ys k h = omega (arith, ap (λ (z : Types). length z) h)
longer (Goes i p rest) globals xs ys k h =
    let one = typed_one i globals xs h.0 k.0 h.1 in
    let r = longer rest globals h.0 ys k.1 h.2 in
    omega (arith, r, ap (λ (z : Types). length z) one.2)
longer (InBlock r inner rest) globals xs ys k h = absurd k
longer (InLoop r inner rest) globals xs ys k h = absurd k
longer (InIf r inner rest) globals xs ys k h = absurd k
longer (InIfElse r first second rest) globals xs ys k h = absurd k

typed_run : (body : Body) (globals : List GlobalType) (seen ts : Types) → AreConstant globals body → AreTyped body (sees globals) [] seen ts → length ts ≤ 1024 → constants (flat_onto body (End ∷ [])) globals seen ≡ Ok ts
typed_run Done globals seen ts k h low = ap (λ (z : Types). done z) h
typed_run (Goes i p rest) globals seen ts k h low =
    let one = typed_one i globals seen h.0 k.0 h.1 in
    let len = longer rest globals h.0 ts k.1 h.2 in
    let fits : ltb 1024 (1 + length seen) ≡ false = le-ltb 1024 (1 + length seen) (omega (arith, len, low, ap (λ (z : Types). length z) one.2)) in
    rw (plain_no_end i p, one.1, fits) (typed_run rest globals (one.0 ∷ seen) ts k.1 (subst (λ (z : Types). AreTyped rest (sees globals) [] z ts) one.2 h.2) low)
typed_run (InBlock r inner rest) globals seen ts k h low = absurd k
typed_run (InLoop r inner rest) globals seen ts k h low = absurd k
typed_run (InIf r inner rest) globals seen ts k h low = absurd k
typed_run (InIfElse r first second rest) globals seen ts k h low = absurd k

no_type : (t : ValueType) → (same_result (Some t) None && true) ≡ true → ⊥
no_type I32 e = cc
no_type I64 e = cc

pub and_first : (a b : Bool) → (a && b) ≡ true → a ≡ true
and_first true b e = refl
and_first false b e = absurd cc

pub and_second : (a b : Bool) → (a && b) ≡ true → b ≡ true
and_second true b e = e
and_second false b e = absurd cc

one_is : (t : ValueType) (ts : Types) → is_one t ts ≡ true → ts ≡ t ∷ []
one_is t [] e = absurd (no_type t e)
one_is t (u ∷ []) e = ap (λ (z : ValueType). z ∷ []) (sym (same_is t u (and_first (same_result (Some t) (Some u)) true e)))
one_is t (u ∷ v ∷ ts) e = absurd (let f = and_second (same_result (Some t) (Some u)) false e in cc)

pub constant_ok : (globals : List GlobalType) (t : ValueType) (code : List Instr) (body : Body) → Nests code body → constant globals t code ≡ Ok tt → GivesConstant globals t code
constant_ok globals t code body nests e =
    let b = bind_ok (constants code globals []) (λ ts. needs (is_one t ts) TypeMismatch) tt e in
    let n = needs_ok (is_one t b.0) TypeMismatch (done tt) tt b.2 in
    let r = run_typed body globals [] b.0 (subst (λ (z : List Instr). constants z globals [] ≡ Ok b.0) nests b.1) in
    (body, nests, r.0, subst (λ (z : Types). AreTyped body (sees globals) [] [] z) (one_is t b.0 n.0) r.1)

pub ok_constant : (globals : List GlobalType) (t : ValueType) (code : List Instr) → GivesConstant globals t code → constant globals t code ≡ Ok tt
ok_constant globals t code h =
    let r = typed_run h.0 globals [] (t ∷ []) h.2 h.3 (omega arith) in
    let run : constants code globals [] ≡ Ok (t ∷ []) = subst (λ (z : List Instr). constants z globals [] ≡ Ok (t ∷ [])) (sym h.1) r in
    rw (run, same_self t) refl
