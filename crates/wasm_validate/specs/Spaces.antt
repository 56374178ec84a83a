-- What the indices of a module name (section 2.5.1): what is imported comes first.
use Rattle.std.specs.Prelude.{ℕ, Option, Some, None, List, [], ◌∷◌, ◌++◌, length}
use Rattle.wasm_types.specs.declared.types.ValueType.{ValueType}
use Rattle.wasm_types.specs.declared.types.GlobalType.{GlobalType}
use Rattle.wasm_types.specs.declared.types.Limits.{Limits}
use Rattle.wasm_types.specs.declared.modules.ImportKind.{ImportKind}
use Rattle.wasm_types.specs.declared.modules.ImportKind.TheVariants as kinds
use Rattle.wasm_types.specs.declared.modules.Import.{Import}
use Rattle.wasm_types.specs.declared.modules.ExportKind.{ExportKind}
use Rattle.wasm_types.specs.declared.modules.ExportKind.TheVariants as exports
use Rattle.wasm_types.specs.declared.modules.GlobalItem.{GlobalItem}
use Rattle.wasm_types.specs.declared.modules.Module.{Module}
use Rattle.wasm_validate.specs.Rules.{Context}

abbrev pub function_in : ImportKind → List ℕ
function_in (kinds.Function t) = t ∷ []
function_in kind = []

abbrev pub global_in : ImportKind → List GlobalType
global_in (kinds.Global g) = g ∷ []
global_in kind = []

-- the limits of an imported table, or of an imported memory
abbrev pub size_in : ExportKind → ImportKind → Option Limits
size_in exports.Table (kinds.Table l) = Some l
size_in exports.Memory (kinds.Memory l) = Some l
size_in wanted kind = None

abbrev pub functions_in : List Import → List ℕ
functions_in [] = []
functions_in (i ∷ is) = function_in i.kind ++ functions_in is

abbrev pub globals_in : List Import → List GlobalType
globals_in [] = []
globals_in (i ∷ is) = global_in i.kind ++ globals_in is

-- those that are there
abbrev pub present : List (Option Limits) → List Limits
present [] = []
present (None ∷ ls) = present ls
present (Some l ∷ ls) = l ∷ present ls

abbrev pub sizes_in : ExportKind → List Import → List (Option Limits)
sizes_in wanted [] = []
sizes_in wanted (i ∷ is) = size_in wanted i.kind ∷ sizes_in wanted is

abbrev pub kinds_of : List GlobalItem → List GlobalType
kinds_of [] = []
kinds_of (g ∷ gs) = g.kind ∷ kinds_of gs

abbrev pub functions_of : Module → List ℕ
functions_of m = functions_in m.imports ++ m.functions

abbrev pub globals_of : Module → List GlobalType
globals_of m = globals_in m.imports ++ kinds_of m.globals

abbrev pub tables_of : Module → List Limits
tables_of m = present (sizes_in exports.Table m.imports) ++ m.tables

abbrev pub memories_of : Module → List Limits
memories_of m = present (sizes_in exports.Memory m.imports) ++ m.memories

-- what the code of a function with these locals and this result stands in
abbrev pub context_of : Module → List ValueType → Option ValueType → Context
context_of m locals result = record {
  types = m.types;
  functions = functions_of m;
  globals = globals_of m;
  tables = length (tables_of m);
  memories = length (memories_of m);
  locals = locals;
  result = result;
}
