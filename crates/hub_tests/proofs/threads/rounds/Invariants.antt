use Rattle.turnstile.specs.Pass.{IsSamePass}
use Rattle.cache_hub.specs.Calls.{HasGuest}
use Rattle.hub_tests.proofs.threads.rounds.Given as goal

abbrev pub invariant-loop-i : goal.invariant-loop-i
invariant-loop-i g l = IsSamePass l.initial.pass l.pass × HasGuest l.pass l.guest
