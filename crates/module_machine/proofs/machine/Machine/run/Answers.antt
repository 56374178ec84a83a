use Rattle.std.proofs.Common.{◌∙◌}
use Rattle.module_machine.proofs.Machines.{tells_so}
use Rattle.module_machine.proofs.machine.Machine.run.Goals as goal

pub returns : goal.returns
returns c = λ p s h.
    tells_so p s c.args.self.now c.leave.new.self c.enter.new.self.thread c.run-told.new.thread c.run-told.result.0 c.run-told.result.1 c.args.fuel h c.enter.ensures.thread (c.leave.ensures.image ∙ c.enter.ensures.image) c.leave.ensures.thread c.run-told.ensures
