use Rattle.std.proofs.Common.{◌≡◌, length}
use Rattle.edge_pending.specs.Gathers.{front_of}
use Rattle.edge_pending.proofs.gathering.front_of.Given as goal

abbrev pub invariant-loop-part : goal.invariant-loop-part
invariant-loop-part l = front_of l.had l.left ≡ front_of l.fn.had l.fn.left

abbrev pub decreases-loop-part : goal.decreases-loop-part
decreases-loop-part l = length l.left
