use Rattle.module_machine.proofs.Machines.{resumed_as}
use Rattle.module_machine.proofs.machine.Machine.resume.Goals as goal

pub returns : goal.returns
returns c = λ p x s h fits. resumed_as p x s c.args.self.now c.resume.new.thread c.args.value c.resume.ensures h fits
