-- A valid module whose imports are functions is a program.
use Rattle.std.proofs.Common.{◌≡◌, ℕ, zero, suc, ◌+◌, ◌<◌, Some, None, List, [], ◌∷◌, ◌++◌, length, slice_get, refl, sym, ap, ◌∙◌, arith}
use Rattle.wasm_types.specs.declared.types.FuncType.{FuncType}
use Rattle.wasm_types.specs.declared.modules.Code.{Code}
use Rattle.wasm_types.specs.declared.modules.Import.{Import}
use Rattle.wasm_types.specs.declared.modules.ImportKind.{ImportKind}
use Rattle.wasm_types.specs.declared.modules.ImportKind.TheVariants as kinds
use Rattle.wasm_types.specs.declared.modules.Module.{Module}
use Rattle.wasm_validate.specs.Spaces.{function_in, functions_in}
use Rattle.wasm_validate.specs.Valid.{AllAt, HasType, IsFunction, IsValid}
use Rattle.wasm_meaning.specs.Frames.{Program, Function}
use Rattle.wasm_meaning.specs.Instance.{Instance, IsProgram, IsFunctionImport, AllFunctions, AreImported, AreDefined}

there : {X : Type 0} (xs : List X) (n : ℕ) → n < length xs → (x : X) × (slice_get xs n ≡ Some x)
there [] n low = absurd (omega (arith, low))
there (x ∷ xs) zero low = (x, refl)
there (x ∷ xs) (suc n) low = let less : n < length xs = omega arith in there xs n less

one_import : (types : List FuncType) (k : ImportKind) → IsFunctionImport k → HasType types k → (ts : List ℕ) (fs : List Function) → AreImported types ts fs → (gs : List Function) × AreImported types (function_in k ++ ts) gs
one_import types (kinds.Function t) is low ts fs h = let w = there types t low in (record { kind = w.0; locals = []; body = None } ∷ fs, (w.1, refl, refl, h))
one_import types (kinds.Table l) is low ts fs h = absurd is
one_import types (kinds.Memory l) is low ts fs h = absurd is
one_import types (kinds.Global g) is low ts fs h = absurd is

imported_of : (types : List FuncType) (is : List Import) (k : ℕ) → AllFunctions is → AllAt (λ _ i. HasType types i.kind) k is → (fs : List Function) × AreImported types (functions_in is) fs
imported_of types [] k all low = ([], tt)
imported_of types (i ∷ is) k (one, all) (low, lows) =
    let rest = imported_of types is (k + 1) all lows in one_import types i.kind one low (functions_in is) rest.0 rest.1

defined_of : (m : Module) (k : ℕ) (ts : List ℕ) (cs : List Code) → length cs ≡ length ts → AllAt (IsFunction m) k cs → ((x : ℕ) → slice_get m.functions (k + x) ≡ slice_get ts x)
    → (fs : List Function) × AreDefined m.types ts cs fs
defined_of m k [] [] e valid at = ([], tt)
defined_of m k [] (c ∷ cs) e valid at = absurd (omega (arith, e))
defined_of m k (t ∷ ts) [] e valid at = absurd (omega (arith, e))
defined_of m k (t ∷ ts) (c ∷ cs) e ((u, kind, here, of_type, (body, nests, typed)), valid) at =
    let fewer : length cs ≡ length ts = omega (arith, e) in
    let rest = defined_of m (k + 1) ts cs fewer valid (λ y. ap (slice_get m.functions) (let z : k + 1 + y ≡ k + suc y = omega arith in z) ∙ at (suc y)) in
    let first : slice_get m.functions k ≡ Some t = ap (slice_get m.functions) (let z : k ≡ k + 0 = omega arith in z) ∙ at 0 in
    let same : u ≡ t = cc in (
      record { kind = kind; locals = c.locals; body = Some body } ∷ rest.0,
      (ap (slice_get m.types) (sym same) ∙ of_type, (refl, (body, refl, nests)), rest.1),
    )

pub program_of : (m : Module) (i : Instance) → length m.code ≡ length m.functions → IsValid m → AllFunctions m.imports → (p : Program) × IsProgram m i p
program_of m i count valid all =
    let imported = imported_of m.types m.imports 0 all valid.imports in
    let defined = defined_of m 0 m.functions m.code count valid.code (λ y. ap (slice_get m.functions) (let z : 0 + y ≡ y = omega arith in z)) in
    let p : Program = record { functions = imported.0 ++ defined.0; types = m.types; table = i.table } in
    (p, record { imported = imported.0; defined = defined.0; functions = refl; imports = imported.1; code = defined.1; types = refl; table = refl })
