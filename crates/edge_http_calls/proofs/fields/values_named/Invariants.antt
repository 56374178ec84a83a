use Rattle.std.proofs.Common.{◌≡◌, take}
use Rattle.edge_http_calls.specs.Fields.{values_named}
use Rattle.edge_http_calls.proofs.fields.values_named.Given as goal

abbrev pub invariant-loop-field : goal.invariant-loop-field
invariant-loop-field l = l.values.items ≡ values_named l.text (take l.field-index l.fields)
