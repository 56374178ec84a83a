use Rattle.std.proofs.Common.{◌≡◌, ◌++◌, drop}
use Rattle.edge_http_calls.specs.Fields.{names_of, names_behind}
use Rattle.edge_http_calls.proofs.fields.names_of.Given as goal

abbrev pub invariant-loop-field : goal.invariant-loop-field
invariant-loop-field l = l.names.items ++ names_behind l.names.items (drop l.field-index l.fields) ≡ names_of l.fields
