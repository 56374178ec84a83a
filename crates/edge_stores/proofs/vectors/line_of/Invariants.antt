use Rattle.std.proofs.Common.{◌≡◌, ◌+◌, ◌*◌, ◌≤◌, ◌++◌, length}
use Rattle.edge_stores.specs.Vectors.{vectors, are_inside, joined}
use Rattle.edge_stores.proofs.vectors.line_of.Given as goal

-- what was read, and the vectors that are left, are all
abbrev pub invariant-vectors : goal.invariant-vectors
invariant-vectors l = record {
  at : l.place + 8 * l.left ≡ l.fn.p + 8 * l.fn.count;
  inside : are_inside l.memory (vectors l.memory l.place l.left) ≡ are_inside l.memory (vectors l.memory l.fn.p l.fn.count);
  bytes : l.line.items ++ joined l.memory (vectors l.memory l.place l.left) ≡ joined l.memory (vectors l.memory l.fn.p l.fn.count);
  short : length l.line.items ≤ 65536;
}

abbrev pub decreases-vectors : goal.decreases-vectors
decreases-vectors l = l.left
