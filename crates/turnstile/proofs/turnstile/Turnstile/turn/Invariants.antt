use Rattle.std.proofs.Common.{◌≡◌, ℕ, ◌+◌}
use Rattle.turnstile.proofs.turnstile.Turnstile.turn.Given as goal

abbrev pub invariant-loop : goal.invariant-loop
invariant-loop g l = (losses : ℕ) × (l.pass ≡ record l.initial.pass { lost = l.initial.pass.lost + losses })
