use Rattle.std.proofs.Common.{◌≡◌, ◌∷◌, length}
use Rattle.cache_types.specs.Rule.{rises}
use Rattle.call_lines.proofs.pieces.rise.Given as goal

-- the last name and those that are left rise where all do
abbrev pub invariant-loop-next : goal.invariant-loop-next
invariant-loop-next l = rises (l.last ∷ l.left) ≡ rises l.names

abbrev pub decreases-loop-next : goal.decreases-loop-next
decreases-loop-next l = length l.left
