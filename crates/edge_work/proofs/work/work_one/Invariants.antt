use Rattle.std.proofs.Common.{[]}
use Rattle.cache_hub.specs.Calls.{HasShare}
use Rattle.edge_work.specs.Outside.{stand}
use Rattle.edge_work.proofs.Ways.{ways}
use Rattle.edge_work.proofs.Going.{Going}
use Rattle.edge_work.proofs.work.work_one.Given as goal

abbrev pub invariant-loop : goal.invariant-loop
invariant-loop g l =
    Going (ways g.C.Clock.reads g.C.Clock.content g.K.Sink.writes g.K.Sink.content g.K.Sink.faults (HasShare g.S.OneCache.history l.hub)) (λ next. g.P.Player.Plays l.fn.player next []) (λ next trace. g.P.Player.Plays l.player next trace) (g.S.OneCache.most l.hub.start) l.first l.limit l.request.method (g.P.Player.stopped l.player) (g.P.Player.ended l.player) l.answer l.gone
    (stand l.fn.pass 0 0 l.fn.hand.clock) (stand l.pass l.guest l.last l.hand.clock) l.fn.sink l.sink
