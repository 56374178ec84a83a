use Rattle.std.proofs.Common.{◌≡◌, drop}
use Rattle.std.specs.List.{list_any}
use Rattle.edge_imports.specs.Links.{is_memory_export}
use Rattle.edge_imports.proofs.linking.exports_memory.Given as goal

abbrev pub invariant-loop-export : goal.invariant-loop-export
invariant-loop-export l = list_any is_memory_export (drop l.export-index l.exports) ≡ list_any is_memory_export l.exports
