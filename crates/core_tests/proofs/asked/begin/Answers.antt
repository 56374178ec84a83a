use Rattle.core_tests.proofs.Stepping.{first_has}
use Rattle.core_tests.proofs.asked.begin.Goals as goal

pub returns : goal.returns
returns g c = first_has (g.S.OneCache.history c.args.cache.now) (g.S.OneCache.history c.step.new.self) c.in_ok-told.told c.requires c.in_ok-told.ensures.told c.in_ok-told.ensures.appended c.step.ensures.legal
