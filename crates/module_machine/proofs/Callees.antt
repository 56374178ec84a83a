-- The functions of a module are those of its program.
use Rattle.std.proofs.Common.{◌≡◌, ℕ, zero, suc, ◌+◌, ◌<◌, ◌≤◌, get_or, add-one, Some, None, Option, Ok, Err, Result, IfOk, List, [], ◌∷◌, ◌++◌, length, drop, slice_get, refl, sym, ap, subst, ◌∙◌, append_assoc, arith}
use Rattle.std.proofs.Math.Seq.{drop-cons}
use Rattle.std.proofs.Math.ListN.{drop_of_length-le}
use Rattle.std.proofs.lemmas.List.{append-nil}
use Rattle.wasm_types.specs.declared.types.FuncType.{FuncType}
use Rattle.wasm_types.specs.declared.instructions.Instr.{Instr}
use Rattle.wasm_types.specs.declared.modules.Code.{Code}
use Rattle.wasm_types.specs.declared.modules.Import.{Import}
use Rattle.wasm_types.specs.declared.modules.ImportKind.{ImportKind}
use Rattle.wasm_types.specs.declared.modules.ImportKind.TheVariants as kinds
use Rattle.wasm_types.specs.declared.modules.Module.{Module}
use Rattle.wasm_types.specs.Nested.{Body}
use Rattle.wasm_validate.specs.Spaces.{function_in, functions_in}
use Rattle.wasm_jumps.specs.Exits.{Knows, AllKnow, KnowsExits}
use Rattle.wasm_flat.specs.declared.halt.Halt.{Halt}
use Rattle.wasm_flat.specs.declared.thread.Callee.{Callee}
use Rattle.wasm_meaning.specs.Frames.{Function, Program}
use Rattle.wasm_meaning.specs.Instance.{Instance, IsProgram, AreImported, AreDefined, IsCode}
use Rattle.wasm_machine.specs.Standing.{HasBody, IsFunction, AreFunctions}
use Rattle.module_machine.specs.Callees.{IsImport, AreImports, IsDefined, AreDefinitions, IsDefinedAt, AreCallees}

same_kind : {X : Type 0} (o : Option X) (x y : X) → o ≡ Some x → o ≡ Some y → x ≡ y
same_kind o x y h e = cc

import_is : (types : List FuncType) (t : ℕ) (c : Callee) (f : Function) → IsImport types t c → slice_get types t ≡ Some f.kind → f.locals ≡ [] → f.body ≡ None → IsFunction c f
import_is types t c f is kind locals body =
    let B : Option Body → Type 0 = λ o. HasBody o c in
    record { kind = same_kind (slice_get types t) c.kind.now f.kind is.0 kind; locals = is.1 ∙ sym locals; body = subst B (sym body) is.2 }

imports_are : (types : List FuncType) (ts : List ℕ) (cs : List Callee) (fs : List Function) → AreImports types ts cs → AreImported types ts fs → AreFunctions cs fs
imports_are types [] [] [] h e = tt
imports_are types [] [] (f ∷ fs) h e = absurd e
imports_are types [] (c ∷ cs) fs h e = absurd h
imports_are types (t ∷ ts) [] fs h e = absurd h
imports_are types (t ∷ ts) (c ∷ cs) [] h e = absurd e
imports_are types (t ∷ ts) (c ∷ cs) (f ∷ fs) (h, hs) (kind, locals, body, es) = (import_is types t c f h kind locals body, imports_are types ts cs fs hs es)

defined_is : (types : List FuncType) (t : ℕ) (k : Code) (c : Callee) (f : Function) → IsDefined types t k c → slice_get types t ≡ Some f.kind → IsCode k f → IsFunction c f
defined_is types t k c f is kind (locals, (body, has, nests)) =
    let B : Option Body → Type 0 = λ o. HasBody o c in
    let K : List Instr → Type 0 = λ code. KnowsExits code c.exits.now in
    record {
      kind = same_kind (slice_get types t) c.kind.now f.kind is.0 kind;
      locals = is.1 ∙ sym locals;
      body = subst B (sym has) (is.2, is.3 ∙ nests, subst K (sym is.3) (is.4 body nests));
    }

definitions_are : (types : List FuncType) (ts : List ℕ) (ks : List Code) (cs : List Callee) (fs : List Function) → AreDefinitions types ts ks cs → AreDefined types ts ks fs → AreFunctions cs fs
definitions_are types [] [] [] [] h e = tt
definitions_are types [] [] [] (f ∷ fs) h e = absurd e
definitions_are types (t ∷ ts) (k ∷ ks) (c ∷ cs) (f ∷ fs) (h, hs) (kind, is, es) = (defined_is types t k c f h kind is, definitions_are types ts ks cs fs hs es)
definitions_are types (t ∷ ts) (k ∷ ks) (c ∷ cs) [] h e = absurd e
definitions_are types [] [] (c ∷ cs) fs h e = absurd h
definitions_are types [] (k ∷ ks) cs fs h e = absurd h
definitions_are types (t ∷ ts) [] cs fs h e = absurd h
definitions_are types (t ∷ ts) (k ∷ ks) [] fs h e = absurd h

both_are : (cs ds : List Callee) (fs gs : List Function) → AreFunctions cs fs → AreFunctions ds gs → AreFunctions (cs ++ ds) (fs ++ gs)
both_are [] ds [] gs h e = e
both_are [] ds (f ∷ fs) gs h e = absurd h
both_are (c ∷ cs) ds [] gs h e = absurd h
both_are (c ∷ cs) ds (f ∷ fs) gs (h, hs) e = (h, both_are cs ds fs gs hs e)

-- the functions of a program of this module
pub functions_are : (m : Module) (i : Instance) (p : Program) (cs : List Callee) → AreCallees m cs → IsProgram m i p → AreFunctions cs p.functions
functions_are m i p cs (imported, defined, both, h, e) is =
    let F : List Function → Type 0 = λ fs. AreFunctions (imported ++ defined) fs in
    let C : List Callee → Type 0 = λ ds. AreFunctions ds p.functions in
    subst C (sym both) (subst F (sym is.functions) (both_are imported defined is.imported is.defined (imports_are m.types (functions_in m.imports) imported is.imported h is.imports) (definitions_are m.types m.functions m.code defined is.defined e is.code)))

-- ---- one after the other

pub drop_at : {X : Type 0} (xs : List X) (k : ℕ) (x : X) → slice_get xs k ≡ Some x → drop k xs ≡ x ∷ drop (k + 1) xs
drop_at [] k x h = cc
drop_at (y ∷ xs) zero x h = cc
drop_at (y ∷ xs) (suc k) x h = let same : suc k + 1 ≡ suc (k + 1) = omega arith in drop_at xs k x h ∙ ap (λ n. x ∷ drop n (y ∷ xs)) (sym same)

pub knows_at : (cs : List Code) (ts : List (List ℕ)) (k : ℕ) (c : Code) (t : List ℕ) → AllKnow cs ts → slice_get cs k ≡ Some c → slice_get ts k ≡ Some t → Knows c t
knows_at [] ts k c t a h e = cc
knows_at (d ∷ cs) [] k c t a h e = absurd a
knows_at (d ∷ cs) (u ∷ ts) zero c t (a, rest) h e =
    let code : d ≡ c = cc in
    let table : u ≡ t = cc in
    let K : Code → Type 0 = λ x. Knows x t in
    let L : List ℕ → Type 0 = λ x. Knows d x in
    subst K code (subst L table a)
knows_at (d ∷ cs) (u ∷ ts) (suc k) c t (a, rest) h e = knows_at cs ts k c t rest h e

-- those that were made, and any that follow
abbrev pub Continues : Module → ℕ → List Callee → Type 0
Continues m k cs = (rest : List Callee) → AreDefinitions m.types (drop k m.functions) (drop k m.code) rest → AreDefinitions m.types m.functions m.code (cs ++ rest)

pub continued : (m : Module) (k : ℕ) (cs : List Callee) (c : Callee) → Continues m k cs → IsDefinedAt m k c → Continues m (k + 1) (cs ++ c ∷ [])
continued m k cs c goes (t, code, kind, body, is) = λ rest h.
    let K : List ℕ → Type 0 = λ ts. AreDefinitions m.types ts (drop k m.code) (c ∷ rest) in
    let C : List Code → Type 0 = λ ks. AreDefinitions m.types (t ∷ drop (k + 1) m.functions) ks (c ∷ rest) in
    let A : List Callee → Type 0 = λ ds. AreDefinitions m.types m.functions m.code ds in
    subst A (sym (append_assoc cs (c ∷ []) rest)) (goes (c ∷ rest) (subst K (sym (drop_at m.functions k t kind)) (subst C (sym (drop_at m.code k code body)) (is, h))))

pub all_made : (m : Module) (k : ℕ) (cs : List Callee) → Continues m k cs → length m.code ≤ k → length m.functions ≤ k → AreDefinitions m.types m.functions m.code cs
all_made m k cs goes codes kinds =
    let K : List ℕ → Type 0 = λ ts. AreDefinitions m.types ts (drop k m.code) [] in
    let C : List Code → Type 0 = λ ks. AreDefinitions m.types [] ks [] in
    let A : List Callee → Type 0 = λ ds. AreDefinitions m.types m.functions m.code ds in
    subst A (append-nil cs) (goes [] (subst K (sym (drop_of_length-le m.functions kinds)) (subst C (sym (drop_of_length-le m.code codes)) tt)))

-- the same of imports
abbrev pub ContinuesImports : List FuncType → List Import → ℕ → List Callee → Type 0
ContinuesImports types imports k cs = (rest : List Callee) → AreImports types (functions_in (drop k imports)) rest → AreImports types (functions_in imports) (cs ++ rest)

one_import : (types : List FuncType) (k : ImportKind) (ts : List ℕ) (c : Callee) (rest : List Callee) → AreImports types (function_in k) (c ∷ []) → AreImports types ts rest → AreImports types (function_in k ++ ts) (c ∷ rest)
one_import types (kinds.Function t) ts c rest h hs = (h.0, hs)
one_import types (kinds.Table l) ts c rest h hs = absurd h
one_import types (kinds.Memory l) ts c rest h hs = absurd h
one_import types (kinds.Global g) ts c rest h hs = absurd h

next_is : {A : Type 0} (xs : List A) (k : ℕ) (x : A) → k < length xs → x ≡ get_or xs k x → drop k xs ≡ x ∷ drop (k + 1) xs
next_is {A} xs k x lt is = drop-cons xs k x lt ∙ rw (← is, add-one) refl

pub imports_continued : (types : List FuncType) (imports : List Import) (k : ℕ) (cs : List Callee) (i : Import) (c : Callee) → ContinuesImports types imports k cs → k < length imports → i ≡ get_or imports k i
    → AreImports types (function_in i.kind) (c ∷ []) → ContinuesImports types imports (k + 1) (cs ++ c ∷ [])
imports_continued types imports k cs i c goes lt is h = λ rest hs.
    let I : List Import → Type 0 = λ is. AreImports types (functions_in is) (c ∷ rest) in
    let A : List Callee → Type 0 = λ ds. AreImports types (functions_in imports) ds in
    subst A (sym (append_assoc cs (c ∷ []) rest)) (goes (c ∷ rest) (subst I (sym (next_is imports k i lt is)) (one_import types i.kind (functions_in (drop (k + 1) imports)) c rest h hs)))

pub all_imports : (types : List FuncType) (imports : List Import) (k : ℕ) (cs : List Callee) → ContinuesImports types imports k cs → length imports ≤ k → AreImports types (functions_in imports) cs
all_imports types imports k cs goes done =
    let I : List Import → Type 0 = λ is. AreImports types (functions_in is) [] in
    let A : List Callee → Type 0 = λ ds. AreImports types (functions_in imports) ds in
    subst A (append-nil cs) (goes [] (subst I (sym (drop_of_length-le imports done)) tt))

-- the one that was made is the one at its place
pub defined_there : (m : Module) (k t : ℕ) (code : Code) → slice_get m.functions k ≡ Some t → slice_get m.code k ≡ Some code → (r : Result Callee Halt) → IfOk r (λ c. IsDefined m.types t code c) → IfOk r (λ c. IsDefinedAt m k c)
defined_there m k t code kind body (Ok c) h = (t, code, kind, body, h)
defined_there m k t code kind body (Err e) h = tt
