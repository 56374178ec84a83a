use Rattle.std.proofs.Common.{◌≡◌}
use Rattle.edge_load.specs.Load.{step, upto}
use Rattle.edge_load.proofs.load.steps.Given as goal

abbrev pub invariant-loop-index : goal.invariant-loop-index
invariant-loop-index l = l.steps.items ≡ upto (step l.number) l.index
