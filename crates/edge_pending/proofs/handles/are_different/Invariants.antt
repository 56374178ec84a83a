use Rattle.std.proofs.Common.{◌≡◌, length}
use Rattle.edge_pending.specs.Choices.{are_different}
use Rattle.edge_pending.proofs.handles.are_different.Given as goal

abbrev pub invariant-loop-handle : goal.invariant-loop-handle
invariant-loop-handle l = are_different l.rest ≡ are_different l.handles

abbrev pub decreases-loop-handle : goal.decreases-loop-handle
decreases-loop-handle l = length l.rest
