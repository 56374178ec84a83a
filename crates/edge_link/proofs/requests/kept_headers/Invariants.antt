use Rattle.std.proofs.Common.{◌≡◌, take, ◌++◌}
use Rattle.edge_link.specs.Requests.{lines_of, kept_fields}
use Rattle.edge_link.proofs.requests.kept_headers.Given as goal

abbrev pub invariant-loop-field : goal.invariant-loop-field
invariant-loop-field l = l.all ≡ l.initial.all ++ lines_of (kept_fields (take l.field-index l.field-items))
