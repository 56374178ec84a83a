use Rattle.cache_hub.specs.Calls.{HasShare}
use Rattle.edge_work.proofs.Calls.{cache_ended}
use Rattle.edge_work.proofs.outside.from_hub.Goals as goal

pub returns-in-End-clause-outside : goal.returns-in-End-clause-outside
returns-in-End-clause-outside g c =
    let e = c.end_guest-pass.ensures in
    rw (c.in-End.is) (cache_ended g.C.Clock.reads g.C.Clock.content (HasShare g.S.OneCache.history c.args.hub.now) (g.S.OneCache.most c.args.hub.now.start) c.args.first c.args.limit c.args.pass c.end_guest-pass.result.0 c.args.guest c.args.last c.end_guest-pass.result.1 c.args.clock.now e.same e.whole (λ _. e.share) e.ended)
