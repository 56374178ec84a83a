use Rattle.cache_types.proofs.Lawful.{lawful}
use Rattle.cache_refusing.proofs.refusing.RefusingCacheOneCache.step.Goals as goal

pub returns-then-self-2-clause-lawful : goal.returns-then-self-2-clause-lawful
returns-then-self-2-clause-lawful g c = lawful (g.S.OneCache.history c.self.inside.inner) c.self.invariant
