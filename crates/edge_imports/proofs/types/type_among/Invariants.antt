use Rattle.std.proofs.Common.{◌≡◌, ◌++◌, drop, slice_get}
use Rattle.std.specs.List.{filter_map}
use Rattle.wasm_types.specs.declared.modules.Import.{Import}
use Rattle.edge_imports.specs.Links.{imported_type}
use Rattle.edge_imports.proofs.types.type_among.Given as goal

-- what is left of the place is the place among what is left
abbrev pub invariant-loop-import : goal.invariant-loop-import
invariant-loop-import l =
    slice_get (filter_map (λ (i : Import). imported_type i.kind) (drop l.import-index l.imports) ++ l.functions) l.left
    ≡ slice_get (filter_map (λ (i : Import). imported_type i.kind) l.imports ++ l.functions) l.index
