-- What the builders make.
use Rattle.std.specs.Prelude.{ℕ, Bool, true, false, None, List, [], ◌∷◌, map, count_by, codes}
use Rattle.wasm_types.specs.declared.types.FuncType.{FuncType}
use Rattle.wasm_types.specs.declared.types.Limits.{Limits}
use Rattle.wasm_types.specs.declared.modules.Import.{Import}
use Rattle.wasm_types.specs.declared.modules.ImportKind.{ImportKind}
use Rattle.wasm_types.specs.declared.modules.ImportKind.TheVariants as kinds
use Rattle.wasm_types.specs.declared.modules.Export.{Export}
use Rattle.wasm_types.specs.declared.modules.ExportKind.TheVariants as exports
use Rattle.wasm_types.specs.declared.modules.Code.{Code}
use Rattle.wasm_types.specs.declared.modules.Segment.{Segment}
use Rattle.wasm_types.specs.declared.modules.Module.{Module}

abbrev pub is_function : ImportKind → Bool
is_function (kinds.Function t) = true
is_function kind = false

-- the index of the first function that a module with these imports defines
abbrev pub first_defined : List Import → ℕ
first_defined imports = count_by (λ i. is_function i.kind) imports

abbrev pub one_page : Limits
one_page = record { least = 1; most = None }

abbrev pub guest_exports : List Import → List Export
guest_exports imports =
    record { name = codes "memory"; kind = exports.Memory; index = 0 }
    ∷ (record { name = codes "_start"; kind = exports.Function; index = first_defined imports } ∷ [])

-- functions with the indices of their types, and one memory
abbrev pub guest_of : List FuncType → List Import → List (ℕ × Code) → List Segment → Module
guest_of types imports functions segments = record {
  types = types;
  imports = imports;
  functions = map (λ f. f.0) functions;
  tables = [];
  memories = one_page ∷ [];
  globals = [];
  exports = guest_exports imports;
  start = None;
  elements = [];
  code = map (λ f. f.1) functions;
  segments = segments;
}
