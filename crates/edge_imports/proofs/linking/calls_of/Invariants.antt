use Rattle.std.proofs.Common.{◌≡◌, ◌++◌, drop}
use Rattle.std.specs.List.{filter_map}
use Rattle.edge_imports.specs.Links.{call_of}
use Rattle.edge_imports.proofs.linking.calls_of.Given as goal

abbrev pub invariant-loop-import : goal.invariant-loop-import
invariant-loop-import l = l.calls.items ++ filter_map call_of (drop l.import-index l.imports) ≡ filter_map call_of l.imports
