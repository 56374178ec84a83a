use Rattle.std.proofs.Common.{◌≡◌, ◌≤◌, take, map, length}
use Rattle.edge_outside.specs.Files.{IsRead}
use Rattle.edge_outside.proofs.Ordered.{Keeps}
use Rattle.edge_outside.proofs.in_order.read_all.Given as goal

abbrev pub invariant-loop-name : goal.invariant-loop-name
invariant-loop-name g l = record {
  kept : Keeps (IsRead g.F.Files.reads g.F.Files.content) l.initial.files l.files (take l.name-index (map (λ name. name.now) l.names)) (map (λ piece. piece.items) l.pieces.items);
  count : length l.pieces.items ≡ l.name-index;
  later : g.F.Files.faults l.initial.files ≤ g.F.Files.faults l.files;
}
