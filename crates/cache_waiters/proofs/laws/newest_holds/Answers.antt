use Rattle.cache_waiters.proofs.Holders.{held_is}
use Rattle.cache_waiters.proofs.laws.newest_holds.Goals as goal

pub returns : goal.returns
returns c = held_is
