use Rattle.std.specs.Prelude.{◌≡◌, ◌≤◌, take, drop, length}
use Rattle.cache_bodies.specs.Joined.{joined}
use Rattle.cache_bodies.proofs.part.put_together.Given as goal

abbrev pub invariant-loop-i : goal.invariant-loop-i
invariant-loop-i l = record {
  bytes : l.bytes.items ≡ drop l.place (joined (take l.i l.pieces));
  few : length l.bytes.items ≤ l.most;
  within : l.i ≤ length l.pieces;
}
