use Rattle.std.proofs.Common.{[]}
use Rattle.edge_outside.specs.Clock.{AreReadings}
use Rattle.edge_batch.proofs.Pushed.{request_of}
use Rattle.edge_batch.proofs.request.work_guest.Goals as goal

pub returns-clause-work : goal.returns-clause-work
returns-clause-work g c =
    request_of (AreReadings g.C.Clock.reads g.C.Clock.content) _ (λ next. g.P.Player.Plays c.args.player next []) (g.S.OneCache.most c.args.hub.now.start) c.args.limit c.args.index c.args.request.now.method c.args.pass _ c.args.hand.now.clock _ _ _ _ c.work_one.ensures.work
