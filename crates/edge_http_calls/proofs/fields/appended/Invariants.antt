use Rattle.std.proofs.Common.{◌≡◌, take}
use Rattle.edge_http_calls.proofs.fields.appended.Given as goal

abbrev pub invariant-loop-field : goal.invariant-loop-field
invariant-loop-field l = l.all.items ≡ take l.field-index l.fields
