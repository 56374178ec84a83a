use Rattle.std.proofs.Common.{◌+◌, sym, arith}
use Rattle.cache_hub.specs.Calls.{HasShare}
use Rattle.edge_work.proofs.Calls.{cache_answered, cache_refused}
use Rattle.edge_work.proofs.outside.from_cache.Goals as goal

pub returns-in-Ok-clause-outside : goal.returns-in-Ok-clause-outside
returns-in-Ok-clause-outside g c =
    let e = c.call_timed-next.ensures in
    rw (c.named_by-guest.ensures) (cache_answered g.C.Clock.reads g.C.Clock.content (HasShare g.S.OneCache.history c.args.hub.now) (g.S.OneCache.most c.args.hub.now.start) c.args.first c.args.limit (c.from.result + c.from-2.result) c.args.pass c.call_timed-next.result.0 c.args.guest c.args.last c.call_timed-next.result.2 c.args.call.now c.in-Ok.told
    c.args.clock.now c.call_timed-next.new.clock e.same (e.whole c.requires.whole) e.share c.requires.no_end (rw (sym c.in-Ok.is) e.call))

pub returns-in-Err-clause-outside : goal.returns-in-Err-clause-outside
returns-in-Err-clause-outside g c =
    let e = c.call_timed-next.ensures in
    rw (c.outcome_for.ensures) (cache_refused g.C.Clock.reads g.C.Clock.content (HasShare g.S.OneCache.history c.args.hub.now) (g.S.OneCache.most c.args.hub.now.start) c.args.first c.args.limit (c.from.result + c.from-2.result) c.args.pass c.call_timed-next.result.0 c.args.guest c.args.last c.call_timed-next.result.2 c.args.call.now c.in-Err.fault
    c.args.clock.now c.call_timed-next.new.clock (let a = c.from.ensures in let b = c.from-2.ensures in omega arith) e.same (e.whole c.requires.whole) e.share c.requires.no_end (rw (sym c.in-Err.is) e.call))
