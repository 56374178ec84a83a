use Rattle.std.proofs.Common.{◌≡◌, ℕ, take}
use Rattle.cache_objects.specs.Standings.{standing_at, left, changed_at}
use Rattle.cache_objects.proofs.changes.leave_all.Given as goal

abbrev pub invariant-loop-i : goal.invariant-loop-i
invariant-loop-i l = (q : ℕ) → standing_at l.objects q ≡ changed_at (left) (take l.i l.named) q (standing_at l.fn.objects q)
