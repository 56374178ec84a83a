use Rattle.turnstile.specs.Pass.{IsSamePass}
use Rattle.turnstile_tests.proofs.numbers.work.Given as goal

abbrev pub invariant-loop-value : goal.invariant-loop-value
invariant-loop-value g l = IsSamePass l.initial.pass l.pass
