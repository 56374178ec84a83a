use Rattle.std.proofs.Common.{sym}
use Rattle.cache_hub.proofs.Live.{keeps, makes}
use Rattle.cache_hub.proofs.Passes.{whole, called}
use Rattle.cache_hub.proofs.hub.Hub.try_call.Goals as goal

pub returns-clause-call : goal.returns-clause-call
returns-clause-call g c =
    let e = c.try_turn-pass.ensures in
    rw (c.told.ensures, sym c.self.view_is) (called g.S.OneCache.most g.S.OneCache.history _ c.self.inside.turnstile c.args.pass c.try_turn-pass.result.0 c.args.guest c.args.reading c.args.call.now _ c.try_turn-pass.result.1 (λ s answer gained given. given) e.served e.busy)

pub returns-clause-whole : goal.returns-clause-whole
returns-clause-whole g c = whole _ _ c.try_turn-pass.result.0 c.try_turn-pass.ensures.stood

pub returns-clause-guests : goal.returns-clause-guests
returns-clause-guests g c = keeps _ c.args.pass c.try_turn-pass.result.0 c.args.guest c.args.reading c.args.call.now _ (returns-clause-call g c)

pub returns-clause-begins : goal.returns-clause-begins
returns-clause-begins g c = makes _ c.args.pass c.try_turn-pass.result.0 c.args.guest c.args.reading c.args.call.now _ (returns-clause-call g c) (returns-clause-whole g c)
