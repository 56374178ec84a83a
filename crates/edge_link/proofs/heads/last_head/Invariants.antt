use Rattle.std.proofs.Common.{◌≤◌, ◌-◌, length, drop}
use Rattle.edge_link.specs.Heads.{Passes}
use Rattle.edge_link.proofs.heads.last_head.Given as goal

abbrev pub invariant-loop-head : goal.invariant-loop-head
invariant-loop-head l = record {
  within : l.at ≤ length l.fn.bytes;
  passes : Passes l.fn.bytes (drop l.at l.fn.bytes);
}

abbrev pub decreases-loop-head : goal.decreases-loop-head
decreases-loop-head l = length l.fn.bytes - l.at
