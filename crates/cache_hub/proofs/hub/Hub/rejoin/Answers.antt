use Rattle.cache_hub.proofs.Passes.{whole, made_apart}
use Rattle.cache_hub.proofs.hub.Hub.rejoin.Goals as goal

pub returns-clause-whole : goal.returns-clause-whole
returns-clause-whole g c = whole _ _ c.rejoin.result c.rejoin.ensures.stood

pub returns-clause-apart : goal.returns-clause-apart
returns-clause-apart g c = made_apart _ _ c.args.one c.args.other c.rejoin.result c.rejoin.ensures.both c.rejoin.ensures.stood
