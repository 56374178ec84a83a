-- The other parts of a module are checked without a fault exactly where they are valid.
use Rattle.std.proofs.Common.{◌≡◌, ℕ, zero, suc, ◌+◌, ◌<◌, Bool, true, false, cond, ltb, ◌&&◌, ◌||◌, Option, Some, None, Result, Ok, Err, List, [], ◌∷◌, length, take, refl, sym, ap, subst, ◌∙◌, arith, inl, inr}
use Rattle.std.proofs.lemmas.Bool.{ltb-true, lt-ltb, cases_Bool}
use Rattle.std.specs.List.{slice_get}
use Rattle.std.specs.Str.{bytes_eq}
use Rattle.std.specs.Cmp.Lexicographic.{same_text, other_text}
use Rattle.wasm_types.specs.declared.types.ValueType.{ValueType}
use Rattle.wasm_types.specs.declared.types.ValueType.TheVariants.{I32}
use Rattle.wasm_types.specs.declared.types.FuncType.{FuncType}
use Rattle.wasm_types.specs.declared.modules.ImportKind.{ImportKind}
use Rattle.wasm_types.specs.declared.modules.ImportKind.TheVariants as kinds
use Rattle.wasm_types.specs.declared.modules.ExportKind.{ExportKind}
use Rattle.wasm_types.specs.declared.modules.ExportKind.TheVariants as exports
use Rattle.wasm_types.specs.declared.modules.Export.{Export}
use Rattle.wasm_types.specs.declared.modules.Element.{Element}
use Rattle.wasm_types.specs.declared.modules.Code.{Code}
use Rattle.wasm_types.specs.declared.modules.Segment.{Segment}
use Rattle.wasm_types.specs.declared.modules.Module.{Module}
use Rattle.wasm_types.specs.Nested.{Body, Nests}
use Rattle.wasm_validate.specs.declared.fault.ValidKind.{ValidKind}
use Rattle.wasm_validate.specs.declared.fault.ValidKind.TheVariants.{UnknownType, UnknownFunction, UnknownTable, UnknownMemory, BadStart, DuplicateExport}
use Rattle.wasm_validate.specs.declared.fault.ValidFault.{ValidFault}
use Rattle.wasm_validate.specs.declared.fault.Part.{Part}
use Rattle.wasm_validate.specs.declared.fault.Part.TheVariants as parts
use Rattle.wasm_validate.specs.Lists.{is_nil}
use Rattle.wasm_validate.specs.Steps.{◌>>=◌, found, told}
use Rattle.wasm_validate.specs.Faults.{in_part}
use Rattle.wasm_validate.specs.Rules.{Context, type_at, function_at}
use Rattle.wasm_validate.specs.Scanning.{scan, outset}
use Rattle.wasm_validate.specs.Spaces.{functions_of, globals_of, tables_of, memories_of, context_of}
use Rattle.wasm_validate.specs.Valid.{AllAt, HasType, count_of, IsExport, IsStart, IsElement, IsFunction, IsSegment}
use Rattle.wasm_validate.specs.Parts.{needs, import_type, constant, count_in, unknown, any_named, export_at, gives_nothing, start, start_at, all_below, element, segment, body_type, inside, code_at}
use Rattle.wasm_validate.proofs.Results.{bind_ok, guard_ok, told_ok, done, ok_is}
use Rattle.wasm_validate.proofs.Flat.{scan_body}
use Rattle.wasm_validate.proofs.Agreement.{body_typed, typed_body}
use Rattle.wasm_validate.proofs.ConstantExpressions.{found_ok, and_first, and_second, constant_ok, ok_constant}
use Rattle.wasm_validate.proofs.PartByPart.{placed_ok, need_ok, below_ok, ok_below}

-- ---- function types

pub import_ok : (types : List FuncType) (kind : ImportKind) → import_type types kind ≡ Ok tt → HasType types kind
import_ok types (kinds.Function t) e = below_ok t (length types) UnknownType e
import_ok types kind e = tt

pub ok_import : (types : List FuncType) (kind : ImportKind) → HasType types kind → import_type types kind ≡ Ok tt
ok_import types (kinds.Function t) h = ok_below t (length types) UnknownType h
ok_import types kind h = refl

-- ---- exports

count_is : (m : Module) (kind : ExportKind) → count_in (context_of m [] None) kind ≡ count_of m kind
count_is m exports.Function = refl
count_is m exports.Table = refl
count_is m exports.Memory = refl
count_is m exports.Global = refl

or_false : (a b : Bool) → (a || b) ≡ false → (a ≡ false) × (b ≡ false)
or_false true b e = absurd cc
or_false false b e = (refl, e)

abbrev named : Option Export → Export → List ℕ
named None x = x.name
named (Some d) x = d.name

not_same : (a b : List ℕ) → (a ≡ b → ⊥) → bytes_eq a b ≡ false
not_same a b h =
    elim (cases_Bool (bytes_eq a b)) [
      | inl t ↦ absurd (h (same_text a b (sym t)))
      | inr f ↦ f
    ]

-- no name among the first items of a list
new_ok : (name : List ℕ) (all : List Export) (k : ℕ) → any_named name (take k all) ≡ false → (j : ℕ) (d : Export) → j < k → slice_get all j ≡ Some d → d.name ≡ name → ⊥
new_ok name [] k e j d lt g same = absurd cc
new_ok name (x ∷ all) zero e j d lt g same = omega arith
new_ok name (x ∷ all) (suc k) e zero d lt g same =
    let o = or_false (bytes_eq x.name name) (any_named name (take k all)) e in
    other_text x.name name (sym o.0) (ap (λ (z : Option Export). named z x) g ∙ same)
new_ok name (x ∷ all) (suc k) e (suc j) d lt g same =
    let o = or_false (bytes_eq x.name name) (any_named name (take k all)) e in
    new_ok name all k o.1 j d (omega arith) g same

ok_new : (name : List ℕ) (all : List Export) (k : ℕ) → ((j : ℕ) (d : Export) → j < k → slice_get all j ≡ Some d → d.name ≡ name → ⊥) → any_named name (take k all) ≡ false
ok_new name [] zero h = refl
ok_new name [] (suc k) h = refl
ok_new name (x ∷ all) zero h = refl
ok_new name (x ∷ all) (suc k) h =
    let first : bytes_eq x.name name ≡ false = not_same x.name name (h 0 x (omega arith) refl) in
    rw first (ok_new name all k (λ j d lt g. h (suc j) d (omega arith) g))

pub export_ok : (m : Module) (k : ℕ) (e : Export) → export_at (context_of m [] None) m.exports k e ≡ Ok tt → IsExport m k e
export_ok m k e h =
    let b = bind_ok (needs (ltb e.index (count_in (context_of m [] None) e.kind)) (unknown e.kind)) (λ _. cond (any_named e.name (take k m.exports)) (Err DuplicateExport) (done tt)) tt h in
    let lt = below_ok e.index (count_in (context_of m [] None) e.kind) (unknown e.kind) b.1 in
    let g = guard_ok (any_named e.name (take k m.exports)) DuplicateExport (done tt) tt b.2 in
    (subst (λ (n : ℕ). e.index < n) (count_is m e.kind) lt, new_ok e.name m.exports k g.0)

pub ok_export : (m : Module) (k : ℕ) (e : Export) → IsExport m k e → export_at (context_of m [] None) m.exports k e ≡ Ok tt
ok_export m k e h =
    let lt : e.index < count_in (context_of m [] None) e.kind = subst (λ (n : ℕ). e.index < n) (sym (count_is m e.kind)) h.0 in
    rw (ok_below e.index (count_in (context_of m [] None) e.kind) (unknown e.kind) lt, ok_new e.name m.exports k h.1) refl

-- ---- the start function

nil_is : {A : Type 0} (xs : List A) → is_nil xs ≡ true → xs ≡ []
nil_is [] e = refl
nil_is (x ∷ xs) e = absurd cc

nothing_is : (r : Option ValueType) → gives_nothing r ≡ true → r ≡ None
nothing_is None e = refl
nothing_is (Some t) e = absurd cc

function_ok : (c : Context) (f : ℕ) (kind : FuncType) → function_at c f ≡ Ok kind → (t : ℕ) × (slice_get c.functions f ≡ Some t) × (slice_get c.types t ≡ Some kind)
function_ok c f kind e =
    let b = bind_ok (found UnknownFunction (slice_get c.functions f)) (type_at c) kind e in
    (b.0, found_ok UnknownFunction (slice_get c.functions f) b.0 b.1, found_ok UnknownType (slice_get c.types b.0) kind b.2)

pub start_ok : (m : Module) (f : Option ℕ) → start_at (context_of m [] None) f ≡ Ok tt → IsStart m f
start_ok m None e = tt
start_ok m (Some f) e =
    let c = context_of m [] None in
    let s = placed_ok parts.Start 0 (start c f) tt e in
    let b = bind_ok (function_at c f) (λ t. needs (is_nil t.params && gives_nothing t.result) BadStart) tt s in
    let g = function_ok c f b.0 b.1 in
    let n = need_ok (is_nil b.0.params && gives_nothing b.0.result) BadStart b.2 in
    (g.0, b.0, g.1, g.2, nil_is b.0.params (and_first (is_nil b.0.params) (gives_nothing b.0.result) n), nothing_is b.0.result (and_second (is_nil b.0.params) (gives_nothing b.0.result) n))

pub ok_start : (m : Module) (f : Option ℕ) → IsStart m f → start_at (context_of m [] None) f ≡ Ok tt
ok_start m None h = refl
ok_start m (Some f) h = rw (h.2, h.3, h.4, h.5) refl

-- ---- segments

below_all : (n j : ℕ) (xs : List ℕ) → all_below n xs ≡ true → AllAt (λ _ x. x < n) j xs
below_all n j [] e = tt
below_all n j (x ∷ xs) e = (ltb-true x n (and_first (ltb x n) (all_below n xs) e), below_all n (j + 1) xs (and_second (ltb x n) (all_below n xs) e))

all_are_below : (n j : ℕ) (xs : List ℕ) → AllAt (λ _ x. x < n) j xs → all_below n xs ≡ true
all_are_below n j [] h = refl
all_are_below n j (x ∷ xs) h = rw (lt-ltb x n h.0) (all_are_below n (j + 1) xs h.1)

pub element_ok : (m : Module) (k : ℕ) (e : Element) (body : Body) → Nests e.offset body → element (context_of m [] None) e ≡ Ok tt → IsElement m k e
element_ok m k e body nests h =
    let b = bind_ok (needs (ltb e.table (length (tables_of m))) UnknownTable) (λ _. constant (globals_of m) I32 e.offset >>= λ _. needs (all_below (length (functions_of m)) e.functions) UnknownFunction) tt h in
    let d = bind_ok (constant (globals_of m) I32 e.offset) (λ _. needs (all_below (length (functions_of m)) e.functions) UnknownFunction) tt b.2 in
    (below_ok e.table (length (tables_of m)) UnknownTable b.1, constant_ok (globals_of m) I32 e.offset body nests d.1, below_all (length (functions_of m)) 0 e.functions (need_ok (all_below (length (functions_of m)) e.functions) UnknownFunction d.2))

pub ok_element : (m : Module) (k : ℕ) (e : Element) → IsElement m k e → element (context_of m [] None) e ≡ Ok tt
ok_element m k e h =
    rw (ok_below e.table (length (tables_of m)) UnknownTable h.0, ok_constant (globals_of m) I32 e.offset h.1, all_are_below (length (functions_of m)) 0 e.functions h.2) refl

pub segment_ok : (m : Module) (k : ℕ) (s : Segment) (body : Body) → Nests s.offset body → segment (context_of m [] None) s ≡ Ok tt → IsSegment m k s
segment_ok m k s body nests h =
    let b = bind_ok (needs (ltb s.memory (length (memories_of m))) UnknownMemory) (λ _. constant (globals_of m) I32 s.offset) tt h in
    (below_ok s.memory (length (memories_of m)) UnknownMemory b.1, constant_ok (globals_of m) I32 s.offset body nests b.2)

pub ok_segment : (m : Module) (k : ℕ) (s : Segment) → IsSegment m k s → segment (context_of m [] None) s ≡ Ok tt
ok_segment m k s h = rw (ok_below s.memory (length (memories_of m)) UnknownMemory h.0, ok_constant (globals_of m) I32 s.offset h.1) refl

-- ---- bodies

in_part_ok : {X : Type 0} (part : Part) (k : ℕ) (r : Result X (ValidKind × ℕ)) (x : X) → in_part part k r ≡ Ok x → r ≡ Ok x
in_part_ok {X} part k (Ok x) y e = ap (λ (z : X). done z) (ok_is {E = ValidFault} x y e)
in_part_ok part k (Err d) y e = absurd cc

pub code_ok : (m : Module) (first k : ℕ) (code : Code) (body : Body) → Nests code.body body → code_at (context_of m [] None) first m.functions k code ≡ Ok tt → IsFunction m k code
code_ok m first k code body nests e =
    let c = context_of m [] None in
    let r = in_part_ok parts.Code (first + k) (told 0 (body_type c m.functions k) >>= λ t. scan code.body (inside c t code) (Some (outset t.result))) tt e in
    let b = bind_ok (told 0 (body_type c m.functions k)) (λ t. scan code.body (inside c t code) (Some (outset t.result))) tt r in
    let y = bind_ok (found UnknownFunction (slice_get m.functions k)) (type_at c) b.0 (told_ok 0 (body_type c m.functions k) b.0 b.1) in (
      y.0,
      b.0,
      found_ok UnknownFunction (slice_get m.functions k) y.0 y.1,
      found_ok UnknownType (slice_get m.types y.0) b.0 y.2,
      (body, nests, body_typed (inside c b.0 code) body (sym (scan_body (inside c b.0 code) code.body body nests) ∙ b.2)),
    )

pub ok_code : (m : Module) (first k : ℕ) (code : Code) → IsFunction m k code → code_at (context_of m [] None) first m.functions k code ≡ Ok tt
ok_code m first k code h =
    let c = context_of m [] None in
    let body = h.4.0 in
    let run : scan code.body (inside c h.1 code) (Some (outset h.1.result)) ≡ Ok tt = scan_body (inside c h.1 code) code.body body h.4.1 ∙ typed_body (inside c h.1 code) body h.4.2 in
    rw (h.2, h.3, run) refl
