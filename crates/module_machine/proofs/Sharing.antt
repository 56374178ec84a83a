-- What the guests of a module share is its program.
use Rattle.std.proofs.Common.{◌≡◌, ℕ, zero, suc, Some, Ok, List, [], ◌∷◌, ◌++◌, slice_get, refl, sym, ap, subst, ◌∙◌}
use Rattle.wasm_types.specs.declared.types.FuncType.{FuncType}
use Rattle.wasm_types.specs.declared.modules.Code.{Code}
use Rattle.wasm_types.specs.declared.modules.Module.{Module}
use Rattle.wasm_types.specs.Nested.{Body}
use Rattle.wasm_validate.specs.Rules.{Context, function_at}
use Rattle.wasm_validate.specs.Spaces.{functions_in}
use Rattle.wasm_validate.specs.Ready.{IsReady}
use Rattle.wasm_validate.specs.Valid.{IsValid}
use Rattle.wasm_meaning.specs.World.{World}
use Rattle.wasm_meaning.specs.Frames.{Program, Function}
use Rattle.wasm_meaning.specs.Runs.{first}
use Rattle.wasm_meaning.specs.Instance.{Instance, IsProgram, AllFunctions, AreImported, AreDefined, instance_of}
use Rattle.wasm_sound.specs.Typed.{WorldTyped, StateTyped, within}
use Rattle.wasm_sound.proofs.Lawful.{program_typed, first_state_typed}
use Rattle.module_machine.specs.declared.prepared.Prepared.{Prepared}
use Rattle.module_machine.specs.declared.image.Image.{Image}
use Rattle.module_machine.specs.Callees.{AreCallees}
use Rattle.module_machine.specs.Shared.{IsPrepared, IsImage}
use Rattle.module_machine.proofs.Callees.{functions_are}

-- ---- a function of a program has the type that its module gives it

abbrev HasType : List FuncType → List ℕ → ℕ → Function → Type 0
HasType types ts x f = (j : ℕ) × (slice_get ts x ≡ Some j) × (slice_get types j ≡ Some f.kind)

same_function : (x y : Function) → Some x ≡ Some y → x ≡ y
same_function x y e = cc

one_typed : (types : List FuncType) (t : ℕ) (ts : List ℕ) (g f : Function) → Some g ≡ Some f → slice_get types t ≡ Some g.kind → HasType types (t ∷ ts) zero f
one_typed types t ts g f e h = (t, refl, h ∙ ap (λ (k : Function). Some k.kind) (same_function g f e))

of_defined : (types : List FuncType) (ts : List ℕ) (cs : List Code) (fs : List Function) → AreDefined types ts cs fs → (x : ℕ) (f : Function) → slice_get fs x ≡ Some f → HasType types ts x f
of_defined types [] [] [] h x f e = absurd cc
of_defined types [] [] (g ∷ gs) h x f e = absurd h
of_defined types [] (c ∷ cs) fs h x f e = absurd h
of_defined types (t ∷ ts) [] fs h x f e = absurd h
of_defined types (t ∷ ts) (c ∷ cs) [] h x f e = absurd h
of_defined types (t ∷ ts) (c ∷ cs) (g ∷ gs) (kind, is, hs) zero f e = one_typed types t ts g f e kind
of_defined types (t ∷ ts) (c ∷ cs) (g ∷ gs) (kind, is, hs) (suc x) f e = of_defined types ts cs gs hs x f e

of_program : (types : List FuncType) (ts us : List ℕ) (cs : List Code) (fs gs : List Function) → AreImported types ts fs → AreDefined types us cs gs
    → (x : ℕ) (f : Function) → slice_get (fs ++ gs) x ≡ Some f → HasType types (ts ++ us) x f
of_program types [] us cs [] gs h d x f e = of_defined types us cs gs d x f e
of_program types [] us cs (g ∷ fs) gs h d x f e = absurd h
of_program types (t ∷ ts) us cs [] gs h d x f e = absurd h
of_program types (t ∷ ts) us cs (g ∷ fs) gs (kind, locals, body, hs) d zero f e = one_typed types t (ts ++ us) g f e kind
of_program types (t ∷ ts) us cs (g ∷ fs) gs (kind, locals, body, hs) d (suc x) f e = of_program types ts us cs fs gs hs d x f e

type_known : (m : Module) (i : Instance) (p : Program) → IsProgram m i p → (x : ℕ) (f : Function) → slice_get p.functions x ≡ Some f → function_at (within m) x ≡ Ok f.kind
type_known m i p is x f e =
    let F : List Function → Type 0 = λ fs. slice_get fs x ≡ Some f in
    let w = of_program m.types (functions_in m.imports) m.functions m.code is.imported is.defined is.imports is.code x f (subst F is.functions e) in
    rw (w.1, w.2) refl

-- ---- what is shared

begins : (m : Module) → IsValid m → AllFunctions m.imports → (i : Instance) (p : Program) → instance_of m ≡ Ok i → IsProgram m i p
    → (x : ℕ) (f : Function) (body : Body) → slice_get p.functions x ≡ Some f → f.kind.params ≡ [] → f.body ≡ Some body → StateTyped (within m) (first f body i.world)
begins m valid all i p started is x f body known none has = first_state_typed m i p valid all started is x f.kind f body (type_known m i p is x f known) none known has

in_world_typed : (c : Context) (f : Function) (body : Body) (v w : World) → StateTyped c (first f body v) → WorldTyped c w → StateTyped c (first f body w)
in_world_typed c f body v w k t = record { locals = k.locals; result = k.result; frame = k.frame; callers = k.callers; world = t }

pub is_image : (m : Module) (prepared : Prepared) (image : Image) → IsReady m → IsValid m → AllFunctions m.imports → IsPrepared m prepared → image.whole.now ≡ m → AreCallees m image.callees.items → image.types.now ≡ m.types
    → image.table.now ≡ prepared.table.items → IsImage m image
is_image m prepared image read valid all ready whole callees types table = record {
  whole = whole;
  ready = read;
  valid = valid;
  imports = all;
  shares = λ i p started is. record {
    functions = functions_are m i p image.callees.items callees is;
    types = types ∙ sym is.types;
    table = table ∙ ready.table i started ∙ sym is.table;
    typed = program_typed m i p valid all started is;
    starts = λ x f body w known none has t. in_world_typed (within m) f body i.world w (begins m valid all i p started is x f body known none has) t;
  };
  begins = begins m valid all;
}
