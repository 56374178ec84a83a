use Rattle.std.proofs.Common.{◌≡◌, ◌+◌, length, take, drop}
use Rattle.edge_abi.specs.Buffers.{fits, joined}
use Rattle.edge_abi.proofs.lists.fitting.Given as goal

abbrev pub invariant-loop-item : goal.invariant-loop-item
invariant-loop-item l = record {
  index : l.count ≡ l.item-index;
  fits : l.count + fits l.left (drop l.count l.items) ≡ fits l.fn.room l.items;
  room : length (joined (take l.count l.items)) + l.left ≡ l.fn.room;
}
