use Rattle.std.proofs.Common.{ℕ, List}
use Rattle.edge_outside.specs.Clock.{AreReadings}
use Rattle.cache_hub.specs.Calls.{HasWhole, HasShare}
use Rattle.cache_hub.specs.Until.{Waited}
use Rattle.cache_hub.proofs.hub.Hub.call_timed.Given as goal

abbrev pub invariant-loop : goal.invariant-loop
invariant-loop g l =
    (readings : List ℕ) × AreReadings g.C.Clock.reads g.C.Clock.content l.fn.clock readings l.clock × Waited l.initial.pass l.guest l.deadline l.call readings l.pass × (HasWhole l.initial.pass → HasWhole l.pass) × (HasShare g.S.OneCache.history l.self l.initial.pass → HasShare g.S.OneCache.history l.self l.pass)
