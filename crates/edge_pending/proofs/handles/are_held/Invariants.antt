use Rattle.std.proofs.Common.{◌≡◌, ◌+◌, ◌*◌}
use Rattle.std.specs.List.{list_all}
use Rattle.edge_pending.specs.Choices.{words, is_held}
use Rattle.edge_pending.proofs.handles.are_held.Given as goal

-- those before name something
abbrev pub invariant-words : goal.invariant-words
invariant-words l = record {
  at : l.place + 4 * l.left ≡ l.p + 4 * l.count;
  all : list_all (is_held l.table) (words l.memory l.place l.left) ≡ list_all (is_held l.table) (words l.memory l.p l.count);
}

abbrev pub decreases-words : goal.decreases-words
decreases-words l = l.left
