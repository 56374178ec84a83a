use Rattle.std.specs.Prelude.{◌<◌}
use Rattle.core_tests.specs.Asked.{HasGuest}
use Rattle.core_tests.proofs.size.answered.Given as goal

abbrev pub invariant-loop-k : goal.invariant-loop-k
invariant-loop-k g l = record { guest : HasGuest (g.S.OneCache.history l.cache) l.guest; few : l.wanted < l.k }
