use Rattle.std.proofs.Common.{◌≡◌, min, sum_by}
use Rattle.edge_body.specs.Parts.{part_length, most_length}
use Rattle.edge_body.proofs.body.sum_of.Given as goal

abbrev pub invariant-loop-part : goal.invariant-loop-part
invariant-loop-part l = l.sum ≡ min (sum_by (λ part. part_length part.now) l.yielded) most_length
