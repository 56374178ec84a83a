use Rattle.std.proofs.Common.{sym, subst}
use Rattle.cache_types.specs.declared.outer.Done.{Done}
use Rattle.edge_outside.specs.Clock.{AreReadings}
use Rattle.edge_batch.specs.Shares.{WorkedRequest}
use Rattle.edge_batch.proofs.Pushed.{request_weaker, request_unmade}
use Rattle.edge_batch.proofs.Sharing.{no_readings}
use Rattle.edge_batch.proofs.request.work_request.Goals as goal

pub returns-in-Ok-clause-work : goal.returns-in-Ok-clause-work
returns-in-Ok-clause-work g c =
    request_weaker (AreReadings g.C.Clock.reads g.C.Clock.content) _ (g.M.GuestMaker.Began c.args.maker.now c.args.index c.args.request.now) c.in-Ok.ensures.plays (g.S.OneCache.most c.args.hub.now.start) c.args.limit c.args.index c.args.pass _ c.args.hand.now.clock _ _ c.work_guest.ensures.work

pub returns-in-Err-clause-work : goal.returns-in-Err-clause-work
returns-in-Err-clause-work g c =
    let Reads = AreReadings g.C.Clock.reads g.C.Clock.content in
    let Began = g.M.GuestMaker.Began c.args.maker.now c.args.index c.args.request.now in
    let most = g.S.OneCache.most c.args.hub.now.start in
    subst (λ (d : Done). WorkedRequest Reads Began most c.args.limit c.args.index c.args.pass c.args.pass c.args.hand.now.clock c.args.hand.now.clock d) (sym c.unmade.ensures)
    (request_unmade Reads Began most c.args.limit c.args.index c.args.pass c.args.hand.now.clock (no_readings g.C.Clock.reads g.C.Clock.content c.args.hand.now.clock))
