use Rattle.std.proofs.Common.{◌≡◌, ◌+◌, ◌*◌, ◌++◌}
use Rattle.edge_pending.specs.Choices.{words}
use Rattle.edge_pending.proofs.handles.words.Given as goal

-- what was read, and the numbers that are left, are all
abbrev pub invariant-words : goal.invariant-words
invariant-words l = record {
  at : l.place + 4 * l.left ≡ l.p + 4 * l.count;
  all : l.handles.items ++ words l.memory l.place l.left ≡ words l.memory l.p l.count;
}

abbrev pub decreases-words : goal.decreases-words
decreases-words l = l.left
