use Rattle.std.proofs.Common.{◌≡◌, ◌++◌, length}
use Rattle.body_calls.proofs.parts.copied.Given as goal

abbrev pub invariant-loop-part : goal.invariant-loop-part
invariant-loop-part l = record {
  copy : l.copy ≡ l.kept;
  parts : l.kept ++ l.body ≡ l.initial.body;
}

abbrev pub decreases-loop-part : goal.decreases-loop-part
decreases-loop-part l = length l.body
