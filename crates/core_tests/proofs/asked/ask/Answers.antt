use Rattle.core_tests.proofs.Stepping.{may_call, still_has}
use Rattle.core_tests.proofs.asked.ask.Goals as goal

pub step-requires : goal.step-requires
step-requires g c = may_call (g.S.OneCache.history c.args.cache.now) c.args.guest c.args.call.now c.requires.guest c.requires.call

pub returns : goal.returns
returns g c = still_has c.step.result (g.S.OneCache.history c.args.cache.now) (g.S.OneCache.history c.step.new.self) c.args.guest 0 c.args.call.now c.step.ensures.appended c.step.ensures.unchanged c.step.ensures.legal c.requires.call c.requires.guest
