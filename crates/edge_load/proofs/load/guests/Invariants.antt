use Rattle.std.proofs.Common.{◌≡◌}
use Rattle.edge_load.specs.Load.{guest, upto}
use Rattle.edge_load.proofs.load.guests.Given as goal

abbrev pub invariant-loop-index : goal.invariant-loop-index
invariant-loop-index l = l.guests.items ≡ upto (guest l.number) l.index
