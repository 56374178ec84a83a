-- What a module is linked to, and the first thing that stands in its way.
use Rattle.std.specs.Prelude.{◌≡◌, ◌⊎◌, ℕ, ◌+◌, min, Bool, true, false, not, ◌&&◌, List, [], ◌∷◌, ◌++◌, codes, bytes_eq, slice_get, Option, None, Some, is_some, Result, Ok, Err, if◌then◌else◌}
use Rattle.std.specs.List.{find, filter_map, list_any}
use Rattle.std.specs.Option.{option_map}
use Rattle.wasm_types.specs.Types.{same_result, same_types}
use Rattle.wasm_types.specs.declared.types.FuncType.{FuncType}
use Rattle.wasm_types.specs.declared.modules.ImportKind.{ImportKind}
use Rattle.wasm_types.specs.declared.modules.ImportKind.TheVariants as import
use Rattle.wasm_types.specs.declared.modules.Import.{Import}
use Rattle.wasm_types.specs.declared.modules.ExportKind.{ExportKind}
use Rattle.wasm_types.specs.declared.modules.ExportKind.TheVariants as export
use Rattle.wasm_types.specs.declared.modules.Export.{Export}
use Rattle.wasm_types.specs.declared.modules.Module.{Module}
use Rattle.edge_imports.specs.declared.hostcall.Hostcall.{Hostcall}
use Rattle.edge_imports.specs.declared.links.LinkRefusal.{LinkRefusal}
use Rattle.edge_imports.specs.declared.links.LinkRefusal.TheVariants as refusal
use Rattle.edge_imports.specs.declared.links.Links.{Links}
use Rattle.edge_imports.specs.Table.{Row, row_of, call_named}

-- ---- types of functions

-- the function type is that of the row
abbrev pub is_of_row : Row → FuncType → Bool
is_of_row row type = same_types type.params row.params && same_result type.result row.result

abbrev pub is_of : Row → Option FuncType → Bool
is_of row None = false
is_of row (Some type) = is_of_row row type

-- neither parameters nor a result
abbrev pub is_plain : Option FuncType → Bool
is_plain None = false
is_plain (Some type) = same_types type.params [] && same_result type.result None

-- the type at an index that an import or a function has
abbrev pub type_at : List FuncType → Option ℕ → Option FuncType
type_at types None = None
type_at types (Some index) = slice_get types index

abbrev pub imported_type : ImportKind → Option ℕ
imported_type (import.Function type) = Some type
imported_type _ = None

-- the index of the type of each function, those of imported functions first (section 2.5.1)
abbrev pub function_types : Module → List ℕ
function_types m = filter_map (λ (i : Import). imported_type i.kind) m.imports ++ m.functions

-- ---- imports

-- the call that an import names; a table, a memory or a global is none
abbrev pub call_of : Import → Option Hostcall
call_of i = if is_some (imported_type i.kind) then call_named i.«module» i.name else None

abbrev pub is_unknown : Import → Bool
is_unknown i = not (is_some (call_of i))

abbrev pub is_typed : List FuncType → Import → Option Hostcall → Bool
is_typed types i None = false
is_typed types i (Some call) = is_of (row_of call) (type_at types (imported_type i.kind))

abbrev pub is_wrong : List FuncType → Import → Bool
is_wrong types i = not (is_typed types i (call_of i))

-- the index of the first of these imports that is so, where the first of them has this index
abbrev pub first_from : (Import → Bool) → ℕ → List Import → Option ℕ
first_from test n [] = None
first_from test n (i ∷ imports) = if test i then Some n else first_from test (n + 1) imports

-- ---- exports

abbrev pub is_function : ExportKind → Bool
is_function export.Function = true
is_function _ = false

abbrev pub is_memory : ExportKind → Bool
is_memory export.Memory = true
is_memory _ = false

-- a function without parameters and result that is exported as `_start`
abbrev pub is_start : Module → Export → Bool
is_start m e = (is_function e.kind && bytes_eq e.name (codes "_start")) && is_plain (type_at m.types (slice_get (function_types m) e.index))

abbrev pub start_of : Module → Option ℕ
start_of m = option_map (λ (e : Export). e.index) (find (is_start m) m.exports)

-- a memory that is exported as `memory`
abbrev pub is_memory_export : Export → Bool
is_memory_export e = is_memory e.kind && bytes_eq e.name (codes "memory")

abbrev pub is_empty : List Import → Bool
is_empty [] = true
is_empty (i ∷ imports) = false

-- a module with an import exports a memory
abbrev pub has_memory : Module → Bool
has_memory m = if is_empty m.imports then true else list_any is_memory_export m.exports

-- ---- linking

-- a told index stands still at the greatest one
abbrev pub told_index : ℕ → ℕ
told_index n = min n 4294967295

abbrev pub links_of : Module → ℕ → Links
links_of m start = record { calls = filter_map call_of m.imports; start = start }

abbrev pub with_start : Module → Option ℕ → Result Links LinkRefusal
with_start m None = Err refusal.NoStart
with_start m (Some start) = if has_memory m then Ok (links_of m start) else Err refusal.NoMemory

abbrev pub with_types : Module → Option ℕ → Result Links LinkRefusal
with_types m (Some n) = Err (refusal.WrongType (told_index n))
with_types m None = with_start m (start_of m)

abbrev pub with_calls : Module → Option ℕ → Result Links LinkRefusal
with_calls m (Some n) = Err (refusal.UnknownImport (told_index n))
with_calls m None = with_types m (first_from (is_wrong m.types) 0 m.imports)

-- all imports are known, then all have the type of their call, then there is a start, then a memory
abbrev pub linked : Module → Result Links LinkRefusal
linked m = with_calls m (first_from is_unknown 0 m.imports)

-- so, unless memory ran out
abbrev pub IsLinkedAs : Result Links LinkRefusal → Result Links LinkRefusal → Type 0
IsLinkedAs wanted answer = (answer ≡ wanted) ⊎ (answer ≡ Err refusal.OutOfMemory)

-- a module with its links
pub record LinkedModule : Type 0 where
  pub whole : Module
  pub links : Links

-- the call of the import at an index
abbrev pub call_of_some : Option Import → Option Hostcall
call_of_some None = None
call_of_some (Some i) = call_of i

abbrev pub hostcall_at : List Import → ℕ → Option Hostcall
hostcall_at imports index = call_of_some (slice_get imports index)
