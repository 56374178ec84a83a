use Rattle.module_machine.proofs.Machines.{started_so, first_unstuck}
use Rattle.module_machine.proofs.machine.Machine.start.Goals as goal

pub returns-in-Ok-clause-stands : goal.returns-in-Ok-clause-stands
returns-in-Ok-clause-stands c = λ p w f body h known none has.
    started_so p w c.args.function f body c.args.self.now c.enter.new.self c.ready.new.self c.leave.new.self c.start-begun.new.thread h c.enter.ensures.image c.enter.ensures.thread c.ready.ensures.image c.ready.ensures.functions c.ready.ensures.types
    c.ready.ensures.table c.ready.ensures.desk c.leave.ensures.image c.leave.ensures.thread known none has c.in-Ok.ensures

pub returns-in-Ok-clause-never_stuck : goal.returns-in-Ok-clause-never_stuck
returns-in-Ok-clause-never_stuck c = λ p w f body h known none has n. first_unstuck p w c.args.function f body c.args.self.now h known none has n

pub returns-in-Err-clause-never_stuck : goal.returns-in-Err-clause-never_stuck
returns-in-Err-clause-never_stuck c = λ p w f body h known none has n. first_unstuck p w c.args.function f body c.args.self.now h known none has n
