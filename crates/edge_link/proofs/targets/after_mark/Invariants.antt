use Rattle.std.proofs.Common.{◌≡◌, length}
use Rattle.edge_link.specs.Targets.{after_mark}
use Rattle.edge_link.proofs.targets.after_mark.Given as goal

abbrev pub invariant-loop-next : goal.invariant-loop-next
invariant-loop-next l = after_mark l.rest ≡ after_mark l.fn.uri

abbrev pub decreases-loop-next : goal.decreases-loop-next
decreases-loop-next l = length l.rest
