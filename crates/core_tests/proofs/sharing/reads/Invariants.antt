use Rattle.core_tests.specs.Asked.{HasGuest}
use Rattle.core_tests.proofs.sharing.reads.Given as goal

abbrev pub invariant-loop-n : goal.invariant-loop-n
invariant-loop-n g l = HasGuest (g.S.OneCache.history l.cache) l.guest
