use Rattle.std.proofs.Common.{◌-◌, ◌≤◌, ◌<◌, take, length}
use Rattle.edge_outside.specs.MemLink.{ChoosesInMemory}
use Rattle.edge_outside.proofs.mem_link.first_ready.Given as goal

-- the place is that of the first among the tickets so far
abbrev pub invariant-loop-at : goal.invariant-loop-at
invariant-loop-at l = record {
  inside : l.best < l.at;
  within : l.at ≤ length l.tickets;
  kept : ChoosesInMemory l.replies (take l.at l.tickets) l.best;
}

abbrev pub decreases-loop-at : goal.decreases-loop-at
decreases-loop-at l = length l.tickets - l.at
