-- Where a valid module starts its code is typed.
use Rattle.std.specs.Option.{option_to_list as listed}
use Rattle.std.proofs.Common.{◌≡◌, ℕ, zero, suc, ◌+◌, ◌<◌, refl, sym, ap, subst, ◌∙◌, Ok, Err, Some, None, true, false, Bool, ◌&&◌, if◌then◌else◌, Option, List, [], ◌∷◌, ◌++◌, Result, length, take, drop, map, replicate, reverse, slice_get, nat_lt, arith, append_assoc}
use Rattle.wasm_types.specs.declared.types.ValueType.{ValueType}
use Rattle.wasm_types.specs.declared.types.ValueType.TheVariants as types
use Rattle.wasm_types.specs.declared.types.FuncType.{FuncType}
use Rattle.wasm_types.specs.declared.types.GlobalType.{GlobalType}
use Rattle.wasm_types.specs.declared.types.Limits.{Limits}
use Rattle.wasm_types.specs.declared.values.Value.{Value}
use Rattle.wasm_types.specs.declared.values.Value.TheVariants.{I32, I64}
use Rattle.wasm_types.specs.declared.modules.Segment.{Segment}
use Rattle.wasm_types.specs.declared.values.TrapKind.TheVariants.{Segment as segment_fault}
use Rattle.wasm_types.specs.declared.instructions.Instr.{Instr}
use Rattle.wasm_types.specs.declared.instructions.Instr.TheVariants.{GlobalGet, Const, End}
use Rattle.wasm_types.specs.declared.modules.Code.{Code}
use Rattle.wasm_types.specs.declared.modules.Element.{Element}
use Rattle.wasm_types.specs.declared.modules.GlobalItem.{GlobalItem}
use Rattle.wasm_types.specs.declared.modules.Import.{Import}
use Rattle.wasm_types.specs.declared.modules.ImportKind.{ImportKind}
use Rattle.wasm_types.specs.declared.modules.ImportKind.TheVariants as imported
use Rattle.wasm_types.specs.declared.modules.ExportKind.TheVariants as exports
use Rattle.wasm_types.specs.declared.modules.Module.{Module}
use Rattle.wasm_types.specs.Nested.{Body, Done, Goes, InBlock, InLoop, InIf, InIfElse, flat_onto}
use Rattle.wasm_memory.specs.Linear.{blank, with_bytes}
use Rattle.wasm_validate.specs.declared.fault.ValidKind.{ValidKind}
use Rattle.wasm_validate.specs.declared.fault.ValidKind.TheVariants.{UnknownFunction, UnknownGlobal, UnknownType}
use Rattle.wasm_validate.specs.Rules.{Context, Rule, Mono, function_at, type_of}
use Rattle.wasm_validate.specs.Steps as checks
use Rattle.wasm_validate.specs.Spaces.{function_in, functions_in, functions_of, globals_in, global_in, globals_of, kinds_of, sizes_in, size_in, present, context_of}
use Rattle.wasm_validate.specs.Typing.{Types, Moves, IsTyped, AreTyped}
use Rattle.wasm_validate.specs.Valid.{AllAt, HasType, IsConstant, AreConstant, sees, GivesConstant, IsFunction, IsElement, IsSegment, IsValid}
use Rattle.wasm_validate.proofs.Once.{nests_once}
use Rattle.wasm_meaning.specs.declared.off.Off.{Off}
use Rattle.wasm_meaning.specs.declared.off.Off.TheVariants.{Stuck, Trap}
use Rattle.wasm_meaning.specs.Steps.{◌>>=◌, found}
use Rattle.wasm_meaning.specs.Kinds.{zero_of}
use Rattle.wasm_meaning.specs.World.{World}
use Rattle.wasm_meaning.specs.Acts.{as32}
use Rattle.wasm_meaning.specs.Frames.{Program, Function}
use Rattle.wasm_meaning.specs.Runs.{first}
use Rattle.wasm_meaning.specs.Instance.{AreImported, IsCode, AreDefined, IsFunctionImport, AllFunctions, constant_of, global_values, offset_of, elements_of, segments_of, all_within, with_elements, with_segments, empty_table, most_pages, empty_memory, size_of, filled, Instance, placed, instance_of, IsProgram}
use Rattle.wasm_sound.specs.Typed.{TypedAs, HaveTypes, HasMemory, WorldTyped, StateTyped, BodyTyped, FunctionTyped, ProgramTyped, inside}
use Rattle.wasm_sound.proofs.Acting.{Moved, any_memory, have_at}

-- ---- functions

-- a function that is there has the type of this index
abbrev HasIndex : Context → ℕ → Option Function → Type 0
HasIndex c j None = ⊥
HasIndex c j (Some f) = (slice_get c.types j ≡ Some f.kind) × BodyTyped c f.kind f.locals f.body

in_imports : (c : Context) (ts : List ℕ) (fs : List Function) → AreImported c.types ts fs → (us : List ℕ) (gs : List Function)
    → ((x j : ℕ) → slice_get us x ≡ Some j → HasIndex c j (slice_get gs x)) → (x j : ℕ) → slice_get (ts ++ us) x ≡ Some j → HasIndex c j (slice_get (fs ++ gs) x)
in_imports c [] [] h us gs rest x j e = rest x j e
in_imports c [] (f ∷ fs) h us gs rest x j e = absurd h
in_imports c (t ∷ ts) [] h us gs rest x j e = absurd h
in_imports c (t ∷ ts) (f ∷ fs) h us gs rest zero j e =
    let same : t ≡ j = cc in
    let P : Option Body → Type 0 = λ b. BodyTyped c f.kind f.locals b in
    (ap (slice_get c.types) (sym same) ∙ h.0, subst P (sym h.2) tt)
in_imports c (t ∷ ts) (f ∷ fs) h us gs rest (suc x) j e = in_imports c ts fs h.3 us gs rest x j e

-- a body is typed in its module
code_typed : (m : Module) (k t : ℕ) (code : Code) (f : Function) → slice_get m.functions k ≡ Some t → slice_get m.types t ≡ Some f.kind → IsCode code f → IsFunction m k code
    → BodyTyped (context_of m [] None) f.kind f.locals f.body
code_typed m k t code f at is (locals, (body, own, nests)) (u, kind, there, of_type, (other, others, (typed, low))) =
    let one : t ≡ u = cc in
    let same : kind ≡ f.kind = cc in
    let c : Context = context_of m [] None in
    let P : FuncType → Type 0 = λ a. AreTyped other (inside c (a.params ++ code.locals) a.result) (a.result ∷ []) [] (listed a.result) in
    let Q : List ValueType → Type 0 = λ ls. AreTyped other (inside c (f.kind.params ++ ls) f.kind.result) (f.kind.result ∷ []) [] (listed f.kind.result) in
    let R : Body → Type 0 = λ b. AreTyped b (inside c (f.kind.params ++ f.locals) f.kind.result) (f.kind.result ∷ []) [] (listed f.kind.result) in
    let S : Option Body → Type 0 = λ b. BodyTyped c f.kind f.locals b in
    subst S (sym own) (subst R (nests_once code.body other body others nests) (subst Q (sym locals) (subst P same typed)))

in_code : (m : Module) (k : ℕ) (ts : List ℕ) (cs : List Code) (fs : List Function) → AreDefined m.types ts cs fs → AllAt (IsFunction m) k cs
    → ((x : ℕ) → slice_get m.functions (k + x) ≡ slice_get ts x) → (x j : ℕ) → slice_get ts x ≡ Some j → HasIndex (context_of m [] None) j (slice_get fs x)
in_code m k [] cs fs h valid at x j e = absurd cc
in_code m k (t ∷ ts) [] fs h valid at x j e = absurd h
in_code m k (t ∷ ts) (code ∷ cs) [] h valid at x j e = absurd h
in_code m k (t ∷ ts) (code ∷ cs) (f ∷ fs) h valid at zero j e =
    let same : t ≡ j = cc in
    let here : slice_get m.functions k ≡ Some t = ap (slice_get m.functions) (let z : k ≡ k + 0 = omega arith in z) ∙ at 0 in
    (ap (slice_get m.types) (sym same) ∙ h.0, code_typed m k t code f here h.0 h.1 valid.0)
in_code m k (t ∷ ts) (code ∷ cs) (f ∷ fs) h valid at (suc x) j e =
    in_code m (k + 1) ts cs fs h.2 valid.1 (λ y. ap (slice_get m.functions) (let z : k + 1 + y ≡ k + suc y = omega arith in z) ∙ at (suc y)) x j e

-- what a function's index finds
found_at : (m : Module) (x : ℕ) (t : FuncType) (o : Option ℕ) → slice_get (functions_of m) x ≡ o → checks.◌>>=◌ (checks.found UnknownFunction o) (λ j. checks.found UnknownType (slice_get m.types j)) ≡ Ok t
    → (j : ℕ) × (slice_get (functions_of m) x ≡ Some j) × (slice_get m.types j ≡ Some t)
found_at m x t None e h = absurd cc
found_at m x t (Some j) e h = (j, e, of_type (slice_get m.types j) h)
  where
    of_type : (o : Option FuncType) → checks.found UnknownType o ≡ Ok t → o ≡ Some t
    of_type None h = absurd cc
    of_type (Some u) h = cc

function_typed : (c : Context) (j : ℕ) (t : FuncType) (o : Option Function) → slice_get c.types j ≡ Some t → HasIndex c j o → FunctionTyped c t o
function_typed c j t None e h = absurd h
function_typed c j t (Some f) e h =
    let same : f.kind ≡ t = cc in
    let P : FuncType → Type 0 = λ a. BodyTyped c a f.locals f.body in
    (same, subst P same h.1)

pub functions_typed : (m : Module) (i : Instance) (p : Program) → IsValid m → IsProgram m i p → (x : ℕ) (t : FuncType) → function_at (context_of m [] None) x ≡ Ok t
    → FunctionTyped (context_of m [] None) t (slice_get p.functions x)
functions_typed m i p valid is x t e =
    let c : Context = context_of m [] None in
    let w = found_at m x t (slice_get (functions_of m) x) refl e in
    let there : HasIndex c w.0 (slice_get (is.imported ++ is.defined) x) =
    in_imports c (functions_in m.imports) is.imported is.imports m.functions is.defined
    (in_code m 0 m.functions m.code is.defined is.code valid.code (λ y. ap (slice_get m.functions) (let z : 0 + y ≡ y = omega arith in z))) x w.0 w.1 in
    let P : List Function → Type 0 = λ fs. HasIndex c w.0 (slice_get fs x) in
    function_typed c w.0 t (slice_get p.functions x) w.2 (subst P (sym is.functions) there)

-- ---- imports that are functions leave nothing else

no_globals : (is : List Import) → AllFunctions is → globals_in is ≡ []
no_globals [] h = refl
no_globals (i ∷ is) h = by_kind (no_globals is h.1) i.kind h.0
  where
    by_kind : globals_in is ≡ [] → (k : ImportKind) → IsFunctionImport k → global_in k ++ globals_in is ≡ []
    by_kind rest (imported.Function t) g = rest
    by_kind rest (imported.Table l) g = absurd g
    by_kind rest (imported.Memory l) g = absurd g
    by_kind rest (imported.Global t) g = absurd g

no_memories : (is : List Import) → AllFunctions is → present (sizes_in exports.Memory is) ≡ []
no_memories [] h = refl
no_memories (i ∷ is) h = by_kind (no_memories is h.1) i.kind h.0
  where
    by_kind : present (sizes_in exports.Memory is) ≡ [] → (k : ImportKind) → IsFunctionImport k → present (size_in exports.Memory k ∷ sizes_in exports.Memory is) ≡ []
    by_kind rest (imported.Function t) g = rest
    by_kind rest (imported.Table l) g = absurd g
    by_kind rest (imported.Memory l) g = absurd g
    by_kind rest (imported.Global t) g = absurd g

-- ---- constants

ok_value : {A : Type 0} (x y : A) → ◌≡◌ {A = Result A Off} (Ok x) (Ok y) → x ≡ y
ok_value x y e = cc

-- a constant adds one operand, of the type that its value has
pushes : (i : Instr) (kinds : List GlobalType) (globals : List Value) → HaveTypes globals kinds → (xs ys : Types) → IsConstant kinds i → IsTyped (sees kinds) [] i xs ys
    → (t : ValueType) × (ys ≡ t ∷ xs) × ((v : Value) (code : List Instr) → constant_of globals (i ∷ code) ≡ Ok v → type_of v ≡ t)
pushes (Const u) kinds globals have xs ys k (rule, is, fine, moves) =
    let P : Result Rule ValidKind → Type 0 = λ r. Moved r xs ys in
    let m : Moves (Mono [] (type_of u ∷ [])) xs ys = subst P (sym is) moves in
    (type_of u, m.2 ∙ ap (λ (z : Types). type_of u ∷ z) (sym m.1), λ v code e. ap type_of (sym (ok_value u v e)))
pushes (GlobalGet x) kinds globals have xs ys k (rule, is, fine, moves) =
    let P : Result Rule ValidKind → Type 0 = λ r. Moved r xs ys in
    let Q : Option GlobalType → Type 0 = λ o. Moved (checks.◌>>=◌ (checks.found UnknownGlobal o) (λ g. Ok (Mono [] (g.kind ∷ [])))) xs ys in
    let m : Moves (Mono [] (k.0.kind ∷ [])) xs ys = subst Q k.1 (subst P (sym is) moves) in
    let w = have_at globals kinds x k.0 have k.1 in
    (k.0.kind, m.2 ∙ ap (λ (z : Types). k.0.kind ∷ z) (sym m.1), λ v code e. ap type_of (sym (ok_value w.0 v (ap found (sym w.1) ∙ e))) ∙ w.2)
pushes i kinds globals have xs ys k h = absurd k

-- so constants only add operands
grows : (body : Body) (kinds : List GlobalType) (globals : List Value) → HaveTypes globals kinds → (xs ys : Types) → AreConstant kinds body → AreTyped body (sees kinds) [] xs ys → (zs : Types) × (ys ≡ zs ++ xs)
grows Done kinds globals have xs ys k h = ([], sym h)
grows (Goes i p rest) kinds globals have xs ys k h =
    let one = pushes i kinds globals have xs h.0 k.0 h.1 in
    let more = grows rest kinds globals have h.0 ys k.1 h.2 in
    (more.0 ++ one.0 ∷ [], more.1 ∙ ap (λ (z : Types). more.0 ++ z) one.1 ∙ sym (append_assoc more.0 (one.0 ∷ []) xs))
grows (InBlock r inner rest) kinds globals have xs ys k h = absurd k
grows (InLoop r inner rest) kinds globals have xs ys k h = absurd k
grows (InIf r inner rest) kinds globals have xs ys k h = absurd k
grows (InIfElse r first second rest) kinds globals have xs ys k h = absurd k

-- the one operand that is left is the first that was pushed
last_is : (zs : Types) (t u : ValueType) → t ∷ [] ≡ zs ++ u ∷ [] → u ≡ t
last_is [] t u e = cc
last_is (z ∷ []) t u e = absurd cc
last_is (z ∷ y ∷ zs) t u e = absurd cc

-- a constant expression gives a value of the type that it was checked with
value_typed : (t : ValueType) (code : List Instr) (v : Value) (kinds : List GlobalType) (globals : List Value) → HaveTypes globals kinds → GivesConstant kinds t code → constant_of globals code ≡ Ok v → type_of v ≡ t
value_typed t code v kinds globals have (body, nests, constant, typed) e =
    let P : List Instr → Type 0 = λ is. constant_of globals is ≡ Ok v in by_body body constant typed (subst P nests e)
  where
    by_body : (b : Body) → AreConstant kinds b → AreTyped b (sees kinds) [] [] (t ∷ []) → constant_of globals (flat_onto b (End ∷ [])) ≡ Ok v → type_of v ≡ t
    by_body Done k h e = absurd cc
    by_body (Goes i p rest) k h e =
        let one = pushes i kinds globals have [] h.0 k.0 h.1 in
        let more = grows rest kinds globals have h.0 (t ∷ []) k.1 h.2 in
        one.2 v (flat_onto rest (End ∷ [])) e ∙ last_is more.0 t one.0 (more.1 ∙ ap (λ (z : Types). more.0 ++ z) one.1)
    by_body (InBlock r inner rest) k h e = absurd k
    by_body (InLoop r inner rest) k h e = absurd k
    by_body (InIf r inner rest) k h e = absurd k
    by_body (InIfElse r first second rest) k h e = absurd k

-- ... and gives one
value_there : (t : ValueType) (code : List Instr) (kinds : List GlobalType) (globals : List Value) → HaveTypes globals kinds → GivesConstant kinds t code → (v : Value) × (constant_of globals code ≡ Ok v)
value_there t code kinds globals have (body, nests, constant, typed) =
    let w = by_body body constant typed in (w.0, ap (constant_of globals) nests ∙ w.1)
  where
    by_body : (b : Body) → AreConstant kinds b → AreTyped b (sees kinds) [] [] (t ∷ []) → (v : Value) × (constant_of globals (flat_onto b (End ∷ [])) ≡ Ok v)
    by_body Done k h = absurd cc
    by_body (Goes (Const u) p rest) k h = (u, refl)
    by_body (Goes (GlobalGet x) p rest) k h = let w = have_at globals kinds x k.0.0 have k.0.1 in (w.0, ap found w.1)
    by_body (Goes i p rest) k h = absurd k.0
    by_body (InBlock r inner rest) k h = absurd k
    by_body (InLoop r inner rest) k h = absurd k
    by_body (InIf r inner rest) k h = absurd k
    by_body (InIfElse r first second rest) k h = absurd k

-- ---- the world

globals_typed : (k : ℕ) (gs : List GlobalItem) → AllAt (λ _ g. GivesConstant [] g.kind.kind g.start) k gs → (vs : List Value) → global_values gs ≡ Ok vs → HaveTypes vs (kinds_of gs)
globals_typed k [] valid vs e = let P : List Value → Type 0 = λ us. HaveTypes us [] in subst P (let z : [] ≡ vs = cc in z) tt
globals_typed k (g ∷ gs) valid vs e =
    let first = value_there g.kind.kind g.start [] [] tt valid.0 in
    let after = rw first.1 at e in
    by_rest (λ us is. globals_typed (k + 1) gs valid.1 us is) (global_values gs) refl after
  where
    first_value : (v : Value) × (constant_of [] g.start ≡ Ok v)
    first_value = value_there g.kind.kind g.start [] [] tt valid.0

    by_rest : ((us : List Value) → global_values gs ≡ Ok us → HaveTypes us (kinds_of gs)) → (r : Result (List Value) Off) → global_values gs ≡ r → (r >>= λ us. Ok (first_value.0 ∷ us)) ≡ Ok vs → HaveTypes vs (g.kind ∷ kinds_of gs)
    by_rest more (Err f) is e = absurd cc
    by_rest more (Ok us) is e =
        let P : List Value → Type 0 = λ ws. HaveTypes ws (g.kind ∷ kinds_of gs) in
        subst P (let z : first_value.0 ∷ us ≡ vs = cc in z) (value_typed g.kind.kind g.start first_value.0 [] [] tt valid.0 first_value.1, more us is)

-- a memory is there where the module has one
memory_typed : (ls : List Limits) (bytes : List (ℕ × List ℕ)) → HasMemory (nat_lt 0 (length ls)) (filled bytes (empty_memory ls))
memory_typed [] bytes = tt
memory_typed (l ∷ ls) bytes = any_memory (nat_lt 0 (length (l ∷ ls))) (with_bytes (blank l.least (most_pages l.most)) (with_segments bytes (blank l.least (most_pages l.most)).bytes))

-- ---- the table

-- entries name functions below a number
abbrev AreNamed : ℕ → List (Option ℕ) → Type 0
AreNamed n [] = Unit {0}
AreNamed n (None ∷ es) = AreNamed n es
AreNamed n (Some y ∷ es) = (y < n) × AreNamed n es

named_append : (n : ℕ) (xs ys : List (Option ℕ)) → AreNamed n xs → AreNamed n ys → AreNamed n (xs ++ ys)
named_append n [] ys h k = k
named_append n (None ∷ xs) ys h k = named_append n xs ys h k
named_append n (Some y ∷ xs) ys h k = (h.0, named_append n xs ys h.1 k)

named_take : (n k : ℕ) (xs : List (Option ℕ)) → AreNamed n xs → AreNamed n (take k xs)
named_take n zero xs h = tt
named_take n (suc k) [] h = tt
named_take n (suc k) (None ∷ xs) h = named_take n k xs h
named_take n (suc k) (Some y ∷ xs) h = (h.0, named_take n k xs h.1)

named_drop : (n k : ℕ) (xs : List (Option ℕ)) → AreNamed n xs → AreNamed n (drop k xs)
named_drop n zero xs h = h
named_drop n (suc k) [] h = tt
named_drop n (suc k) (None ∷ xs) h = named_drop n k xs h
named_drop n (suc k) (Some y ∷ xs) h = named_drop n k xs h.1

named_blank : (n k : ℕ) → AreNamed n (replicate k None)
named_blank n zero = tt
named_blank n (suc k) = named_blank n k

named_functions : (n k : ℕ) (fs : List ℕ) → AllAt (λ _ f. f < n) k fs → AreNamed n (map Some fs)
named_functions n k [] h = tt
named_functions n k (f ∷ fs) h = (h.0, named_functions n (k + 1) fs h.1)

-- segments of functions below a number
abbrev AllNamed : ℕ → List (ℕ × List ℕ) → Type 0
AllNamed n [] = Unit {0}
AllNamed n (s ∷ ss) = AllAt (λ _ f. f < n) 0 s.1 × AllNamed n ss

named_with : (n : ℕ) (ss : List (ℕ × List ℕ)) (table : List (Option ℕ)) → AllNamed n ss → AreNamed n table → AreNamed n (with_elements ss table)
named_with n [] table h k = k
named_with n (s ∷ ss) table h k =
    named_with n ss (take s.0 table ++ (map Some s.1 ++ drop (s.0 + length s.1) table)) h.1
    (named_append n (take s.0 table) (map Some s.1 ++ drop (s.0 + length s.1) table) (named_take n s.0 table k)
    (named_append n (map Some s.1) (drop (s.0 + length s.1) table) (named_functions n 0 s.1 h.0) (named_drop n (s.0 + length s.1) table k)))

named_empty : (n : ℕ) (ls : List Limits) → AreNamed n (empty_table ls)
named_empty n [] = tt
named_empty n (l ∷ ls) = named_blank n l.least

named_at : (n : ℕ) (table : List (Option ℕ)) (x y : ℕ) → AreNamed n table → slice_get table x ≡ Some (Some y) → y < n
named_at n [] x y h e = absurd cc
named_at n (None ∷ es) zero y h e = absurd cc
named_at n (Some z ∷ es) zero y h e = let same : z ≡ y = cc in omega (arith, h.0)
named_at n (None ∷ es) (suc x) y h e = named_at n es x y h e
named_at n (Some z ∷ es) (suc x) y h e = named_at n es x y h.1 e

-- the segments of a valid module are such
elements_named : (m : Module) (k : ℕ) (globals : List Value) (es : List Element) → AllAt (IsElement m) k es → (ss : List (ℕ × List ℕ)) → elements_of globals es ≡ Ok ss → AllNamed (length (functions_of m)) ss
elements_named m k globals [] valid ss e = let P : List (ℕ × List ℕ) → Type 0 = λ xs. AllNamed (length (functions_of m)) xs in subst P (let z : [] ≡ ss = cc in z) tt
elements_named m k globals (d ∷ es) valid ss e = by_offset (λ rest is. elements_named m (k + 1) globals es valid.1 rest is) (offset_of globals d.offset) e
  where
    by_rest : ((rest : List (ℕ × List ℕ)) → elements_of globals es ≡ Ok rest → AllNamed (length (functions_of m)) rest)
        → (n : ℕ) (r : Result (List (ℕ × List ℕ)) Off) → elements_of globals es ≡ r → (r >>= λ rest. Ok ((n, d.functions) ∷ rest)) ≡ Ok ss → AllNamed (length (functions_of m)) ss
    by_rest more n (Err f) is e = absurd cc
    by_rest more n (Ok rest) is e =
        let P : List (ℕ × List ℕ) → Type 0 = λ xs. AllNamed (length (functions_of m)) xs in
        subst P (let z : (n, d.functions) ∷ rest ≡ ss = cc in z) (valid.0.2, more rest is)

    by_offset : ((rest : List (ℕ × List ℕ)) → elements_of globals es ≡ Ok rest → AllNamed (length (functions_of m)) rest)
        → (r : Result ℕ Off) → (r >>= λ n. elements_of globals es >>= λ rest. Ok ((n, d.functions) ∷ rest)) ≡ Ok ss → AllNamed (length (functions_of m)) ss
    by_offset more (Err f) e = absurd cc
    by_offset more (Ok n) e = by_rest more n (elements_of globals es) refl e

-- every function has its type
below_imports : (types : List FuncType) (k : ℕ) (is : List Import) → AllAt (λ _ i. HasType types i.kind) k is → (fs : List ℕ) → AllAt (λ _ t. t < length types) 0 fs
    → (x : ℕ) → x < length (functions_in is ++ fs) → (j : ℕ) × (slice_get (functions_in is ++ fs) x ≡ Some j) × (j < length types)
below_imports types k [] h fs g x less = below_all 0 fs g x less
  where
    below_all : (k : ℕ) (ts : List ℕ) → AllAt (λ _ t. t < length types) k ts → (x : ℕ) → x < length ts → (j : ℕ) × (slice_get ts x ≡ Some j) × (j < length types)
    below_all k [] h x less = absurd (omega arith)
    below_all k (t ∷ ts) h zero less = (t, refl, h.0)
    below_all k (t ∷ ts) h (suc x) less = let fewer : x < length ts = omega arith in below_all (k + 1) ts h.1 x fewer
below_imports types k (i ∷ is) h fs g x less = by_kind (λ y under. below_imports types (k + 1) is h.1 fs g y under) i.kind h.0 x less
  where
    by_kind : ((y : ℕ) → y < length (functions_in is ++ fs) → (j : ℕ) × (slice_get (functions_in is ++ fs) y ≡ Some j) × (j < length types))
        → (a : ImportKind) → HasType types a → (x : ℕ) → x < length ((function_in a ++ functions_in is) ++ fs)
        → (j : ℕ) × (slice_get ((function_in a ++ functions_in is) ++ fs) x ≡ Some j) × (j < length types)
    by_kind more (imported.Function t) b zero less = (t, refl, b)
    by_kind more (imported.Function t) b (suc x) less = let fewer : x < length (functions_in is ++ fs) = omega arith in more x fewer
    by_kind more (imported.Table l) b x less = more x less
    by_kind more (imported.Memory l) b x less = more x less
    by_kind more (imported.Global t) b x less = more x less

there_at : (types : List FuncType) (j : ℕ) → j < length types → (t : FuncType) × (slice_get types j ≡ Some t)
there_at [] j less = absurd (omega arith)
there_at (t ∷ ts) zero less = (t, refl)
there_at (t ∷ ts) (suc j) less = let fewer : j < length ts = omega arith in there_at ts j fewer

function_known : (m : Module) → IsValid m → (y : ℕ) → y < length (functions_of m) → (t : FuncType) × (function_at (context_of m [] None) y ≡ Ok t)
function_known m valid y less =
    let w = below_imports m.types 0 m.imports valid.imports m.functions valid.functions y less in
    let t = there_at m.types w.0 w.2 in
    (t.0, rw (w.1, t.1) refl)

-- ---- the whole

bound : {A B : Type 0} (r : Result A Off) (f : A → Result B Off) (y : B) → (r >>= f) ≡ Ok y → (x : A) × (r ≡ Ok x) × (f x ≡ Ok y)
bound (Ok x) f y e = (x, refl, e)
bound (Err a) f y e = absurd cc

kept_if : {A : Type 0} (b : Bool) (x y : A) (a : Off) → (if b then Ok x else Err a) ≡ Ok y → x ≡ y
kept_if true x y a e = cc
kept_if false x y a e = absurd cc

pub starts_typed : (m : Module) (i : Instance) (p : Program) → IsValid m → AllFunctions m.imports → instance_of m ≡ Ok i → IsProgram m i p
    → ProgramTyped (context_of m [] None) p × WorldTyped (context_of m [] None) i.world
starts_typed m i p valid all e is =
    let g = bound (global_values m.globals) (λ globals. elements_of globals m.elements >>= λ elements. segments_of globals m.segments >>= λ bytes. placed m globals elements bytes) i e in
    let d = bound (elements_of g.0 m.elements) (λ elements. segments_of g.0 m.segments >>= λ bytes. placed m g.0 elements bytes) i g.2 in
    let s = bound (segments_of g.0 m.segments) (λ bytes. placed m g.0 d.0 bytes) i d.2 in
    let made : Instance = record { table = with_elements d.0 (empty_table m.tables); world = record { globals = g.0; memory = filled s.0 (empty_memory m.memories) } } in
    let same : made ≡ i = kept_if (all_within (length (empty_table m.tables)) d.0 && all_within (size_of (empty_memory m.memories)) s.0) made i (Trap segment_fault) s.2 in
    let none : globals_in m.imports ≡ [] = no_globals m.imports all in
    let few : present (sizes_in exports.Memory m.imports) ≡ [] = no_memories m.imports all in
    let P : List GlobalType → Type 0 = λ gs. AllAt (λ _ a. GivesConstant gs a.kind.kind a.start) 0 m.globals in
    let Q : List GlobalType → Type 0 = λ gs. HaveTypes g.0 (gs ++ kinds_of m.globals) in
    let R : List Limits → Type 0 = λ ls. HasMemory (nat_lt 0 (length (ls ++ m.memories))) (filled s.0 (empty_memory m.memories)) in
    let S : Instance → Type 0 = λ a. WorldTyped (context_of m [] None) a.world in
    let T : List (Option ℕ) → Type 0 = λ es. AreNamed (length (functions_of m)) es in
    let named : AreNamed (length (functions_of m)) i.table =
    subst T (ap (λ (a : Instance). a.table) same)
    (named_with (length (functions_of m)) d.0 (empty_table m.tables) (elements_named m 0 g.0 m.elements valid.elements d.0 d.1) (named_empty (length (functions_of m)) m.tables)) in (
      record {
        types = is.types;
        functions = functions_typed m i p valid is;
        table = λ n y at. function_known m valid y (named_at (length (functions_of m)) i.table n y named (ap (λ (es : List (Option ℕ)). slice_get es n) (sym is.table) ∙ at));
      },
      subst S same (record {
        globals = subst Q (sym none) (globals_typed 0 m.globals (subst P none valid.globals) g.0 g.1);
        memory = subst R (sym few) (memory_typed m.memories s.0);
      }),
    )

zeros : (ts : Types) → TypedAs (map zero_of ts) ts
zeros [] = tt
zeros (types.I32 ∷ ts) = (refl, zeros ts)
zeros (types.I64 ∷ ts) = (refl, zeros ts)

pub first_typed : (c : Context) (f : Function) (body : Body) (w : World) → WorldTyped c w → f.kind.params ≡ [] → BodyTyped c f.kind f.locals (Some body) → StateTyped c (first f body w)
first_typed c f body w typed none h =
    let P : List ValueType → Type 0 = λ ps. TypedAs (reverse (take (length ps) []) ++ map zero_of f.locals) (ps ++ f.locals) in
    record {
      locals = f.kind.params ++ f.locals;
      result = f.kind.result;
      frame = record {
        labels = f.kind.result ∷ [];
        operands = [];
        gives = listed f.kind.result;
        keeps = refl;
        locals_typed = subst P (sym none) (zeros f.locals);
        operands_typed = tt;
        body_typed = h;
        outer = (refl, refl);
      };
      callers = tt;
      world = typed;
    }

-- ---- a valid module starts, or a segment of it is out of bounds

globals_there : (k : ℕ) (gs : List GlobalItem) → AllAt (λ _ g. GivesConstant [] g.kind.kind g.start) k gs → (vs : List Value) × (global_values gs ≡ Ok vs)
globals_there k [] valid = ([], refl)
globals_there k (g ∷ gs) valid =
    let one = value_there g.kind.kind g.start [] [] tt valid.0 in
    let more = globals_there (k + 1) gs valid.1 in (
      one.0 ∷ more.0,
      ap (λ (r : Result Value Off). r >>= λ v. global_values gs >>= λ vs. Ok (v ∷ vs)) one.1
          ∙ ap (λ (r : Result (List Value) Off). r >>= λ vs. Ok (one.0 ∷ vs)) more.1,
    )

offset_there : (code : List Instr) (kinds : List GlobalType) (globals : List Value) → HaveTypes globals kinds → GivesConstant kinds types.I32 code → (n : ℕ) × (offset_of globals code ≡ Ok n)
offset_there code kinds globals have gives =
    let w = value_there types.I32 code kinds globals have gives in
    by_value w.0 w.1 (value_typed types.I32 code w.0 kinds globals have gives w.1)
  where
    by_value : (v : Value) → constant_of globals code ≡ Ok v → type_of v ≡ types.I32 → (n : ℕ) × (offset_of globals code ≡ Ok n)
    by_value (I32 n) e t = (n, ap (λ (r : Result Value Off). r >>= λ v. as32 v) e)
    by_value (I64 n) e t = absurd cc

elements_there : (m : Module) (k : ℕ) (globals : List Value) → HaveTypes globals (globals_of m) → (es : List Element) → AllAt (IsElement m) k es → (ss : List (ℕ × List ℕ)) × (elements_of globals es ≡ Ok ss)
elements_there m k globals have [] valid = ([], refl)
elements_there m k globals have (d ∷ es) valid =
    let one = offset_there d.offset (globals_of m) globals have valid.0.1 in
    let more = elements_there m (k + 1) globals have es valid.1 in (
      (one.0, d.functions) ∷ more.0,
      ap (λ (r : Result ℕ Off). r >>= λ n. elements_of globals es >>= λ rest. Ok ((n, d.functions) ∷ rest)) one.1
          ∙ ap (λ (r : Result (List (ℕ × List ℕ)) Off). r >>= λ rest. Ok ((one.0, d.functions) ∷ rest)) more.1,
    )

segments_there : (m : Module) (k : ℕ) (globals : List Value) → HaveTypes globals (globals_of m) → (es : List Segment) → AllAt (IsSegment m) k es → (ss : List (ℕ × List ℕ)) × (segments_of globals es ≡ Ok ss)
segments_there m k globals have [] valid = ([], refl)
segments_there m k globals have (d ∷ es) valid =
    let one = offset_there d.offset (globals_of m) globals have valid.0.1 in
    let more = segments_there m (k + 1) globals have es valid.1 in (
      (one.0, d.bytes) ∷ more.0,
      ap (λ (r : Result ℕ Off). r >>= λ n. segments_of globals es >>= λ rest. Ok ((n, d.bytes) ∷ rest)) one.1
          ∙ ap (λ (r : Result (List (ℕ × List ℕ)) Off). r >>= λ rest. Ok ((one.0, d.bytes) ∷ rest)) more.1,
    )

trapped : (b : Bool) (i : Instance) → ◌≡◌ {A = Result Instance Off} (if b then Ok i else Err (Trap segment_fault)) (Err Stuck) → ⊥
trapped true i e = cc
trapped false i e = cc

pub starts_unstuck : (m : Module) → IsValid m → AllFunctions m.imports → instance_of m ≡ Err Stuck → ⊥
starts_unstuck m valid all e =
    let none : globals_in m.imports ≡ [] = no_globals m.imports all in
    let P : List GlobalType → Type 0 = λ gs. AllAt (λ _ a. GivesConstant gs a.kind.kind a.start) 0 m.globals in
    let here : AllAt (λ _ a. GivesConstant [] a.kind.kind a.start) 0 m.globals = subst P none valid.globals in
    let g = globals_there 0 m.globals here in
    let Q : List GlobalType → Type 0 = λ gs. HaveTypes g.0 (gs ++ kinds_of m.globals) in
    let have : HaveTypes g.0 (globals_of m) = subst Q (sym none) (globals_typed 0 m.globals here g.0 g.1) in
    let d = elements_there m 0 g.0 have m.elements valid.elements in
    let s = segments_there m 0 g.0 have m.segments valid.data_segments in
    let made : Instance = record { table = with_elements d.0 (empty_table m.tables); world = record { globals = g.0; memory = filled s.0 (empty_memory m.memories) } } in
    let same : instance_of m ≡ placed m g.0 d.0 s.0 =
    ap (λ (r : Result (List Value) Off). r >>= λ globals. elements_of globals m.elements >>= λ elements. segments_of globals m.segments >>= λ bytes. placed m globals elements bytes) g.1
    ∙ ap (λ (r : Result (List (ℕ × List ℕ)) Off). r >>= λ elements. segments_of g.0 m.segments >>= λ bytes. placed m g.0 elements bytes) d.1
    ∙ ap (λ (r : Result (List (ℕ × List ℕ)) Off). r >>= λ bytes. placed m g.0 d.0 bytes) s.1 in
    trapped (all_within (length (empty_table m.tables)) d.0 && all_within (size_of (empty_memory m.memories)) s.0) made (sym same ∙ e)
