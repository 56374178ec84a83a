-- The functions of a module, as the machine calls them.
use Rattle.std.specs.Prelude.{◌≡◌, ℕ, true, false, Some, List, [], ◌∷◌, ◌++◌, slice_get}
use Rattle.wasm_types.specs.declared.types.FuncType.{FuncType}
use Rattle.wasm_types.specs.declared.modules.Code.{Code}
use Rattle.wasm_types.specs.declared.modules.Module.{Module}
use Rattle.wasm_validate.specs.Spaces.{functions_in}
use Rattle.wasm_jumps.specs.Exits.{Knows}
use Rattle.wasm_flat.specs.declared.thread.Callee.{Callee}

-- an imported function, by the index of its type
abbrev pub IsImport : List FuncType → ℕ → Callee → Type 0
IsImport types t c = (slice_get types t ≡ Some c.kind.now) × (c.locals.now ≡ []) × (c.defined ≡ false)

abbrev pub AreImports : List FuncType → List ℕ → List Callee → Type 0
AreImports types [] [] = Unit {0}
AreImports types [] (c ∷ cs) = ⊥
AreImports types (t ∷ ts) [] = ⊥
AreImports types (t ∷ ts) (c ∷ cs) = IsImport types t c × AreImports types ts cs

-- one that the module defines
abbrev pub IsDefined : List FuncType → ℕ → Code → Callee → Type 0
IsDefined types t code c = (slice_get types t ≡ Some c.kind.now) × (c.locals.now ≡ code.locals) × (c.defined ≡ true) × (c.code.now ≡ code.body) × Knows code c.exits.now

abbrev pub AreDefinitions : List FuncType → List ℕ → List Code → List Callee → Type 0
AreDefinitions types [] [] [] = Unit {0}
AreDefinitions types (t ∷ ts) (k ∷ ks) (c ∷ cs) = IsDefined types t k c × AreDefinitions types ts ks cs
AreDefinitions types ts ks cs = ⊥

-- the one at a place among those that the module defines
abbrev pub IsDefinedAt : Module → ℕ → Callee → Type 0
IsDefinedAt m k c = (t : ℕ) × (code : Code) × (slice_get m.functions k ≡ Some t) × (slice_get m.code k ≡ Some code) × IsDefined m.types t code c

-- the functions of a module: those that it imports, and then those that it defines
abbrev pub AreCallees : Module → List Callee → Type 0
AreCallees m cs = (imported : List Callee) × (defined : List Callee) × (cs ≡ imported ++ defined) × AreImports m.types (functions_in m.imports) imported × AreDefinitions m.types m.functions m.code defined
