use Rattle.std.proofs.Common.{◌≡◌}
use Rattle.edge_load.specs.Load.{rounds}
use Rattle.edge_load.proofs.load.guest.Given as goal

abbrev pub invariant-loop-round : goal.invariant-loop-round
invariant-loop-round l = l.lines.items ≡ rounds l.number l.index l.round
