use Rattle.module_machine.proofs.Machines.{never_stuck}
use Rattle.module_machine.proofs.laws.code_is_never_stuck.Goals as goal

pub returns : goal.returns
returns c = never_stuck
