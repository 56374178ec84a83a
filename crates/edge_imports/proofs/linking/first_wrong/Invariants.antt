use Rattle.std.proofs.Common.{◌≡◌, drop}
use Rattle.edge_imports.specs.Links.{is_wrong, first_from}
use Rattle.edge_imports.proofs.linking.first_wrong.Given as goal

abbrev pub invariant-loop-i : goal.invariant-loop-i
invariant-loop-i l = first_from (is_wrong l.types) l.i (drop l.i l.imports) ≡ first_from (is_wrong l.types) 0 l.imports
