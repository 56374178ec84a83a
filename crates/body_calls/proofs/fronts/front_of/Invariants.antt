use Rattle.std.proofs.Common.{◌≡◌, length}
use Rattle.body_calls.specs.Fronts.{front_of}
use Rattle.body_calls.proofs.fronts.front_of.Given as goal

abbrev pub invariant-loop-part : goal.invariant-loop-part
invariant-loop-part l = front_of l.most l.left ≡ front_of l.most l.fn.left

abbrev pub decreases-loop-part : goal.decreases-loop-part
decreases-loop-part l = length l.left
