use Rattle.std.proofs.Common.{◌≡◌, take}
use Rattle.edge_http_calls.specs.Fields.{without}
use Rattle.edge_http_calls.proofs.fields.without.Given as goal

abbrev pub invariant-loop-field : goal.invariant-loop-field
invariant-loop-field l = l.left.items ≡ without l.text (take l.field-index l.fields)
