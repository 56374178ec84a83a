use Rattle.std.proofs.Common.{◌≡◌, drop}
use Rattle.edge_imports.specs.Links.{is_unknown, first_from}
use Rattle.edge_imports.proofs.linking.first_unknown.Given as goal

abbrev pub invariant-loop-i : goal.invariant-loop-i
invariant-loop-i l = first_from is_unknown l.i (drop l.i l.imports) ≡ first_from is_unknown 0 l.imports
