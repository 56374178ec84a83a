use Rattle.std.proofs.Common.{◌≡◌, drop}
use Rattle.std.specs.List.{find}
use Rattle.edge_imports.specs.Links.{is_start}
use Rattle.edge_imports.proofs.linking.start_of.Given as goal

abbrev pub invariant-loop-export : goal.invariant-loop-export
invariant-loop-export l = find (is_start l.whole) (drop l.export-index l.whole.exports) ≡ find (is_start l.whole) l.whole.exports
