use Rattle.std.proofs.Common.{◌≡◌, ◌++◌, take, map}
use Rattle.edge_http_calls.specs.Fields.{without, field_with}
use Rattle.edge_http_calls.proofs.fields.replaced.Given as goal

abbrev pub invariant-loop-value : goal.invariant-loop-value
invariant-loop-value l = l.all.items ≡ without l.text l.fields ++ map (field_with l.text) (take l.value-index l.value-items)
