use Rattle.std.proofs.Common.{◌≡◌, ◌++◌, length, take, drop}
use Rattle.edge_abi.specs.Buffers.{joined}
use Rattle.edge_abi.proofs.lists.fill.Given as goal

abbrev pub invariant-loop-item : goal.invariant-loop-item
invariant-loop-item l = record {
  len : l.at ≡ length (joined (take l.item-index l.items));
  filled : l.buffer ≡ joined (take l.item-index l.items) ++ drop l.at l.initial.buffer;
}
