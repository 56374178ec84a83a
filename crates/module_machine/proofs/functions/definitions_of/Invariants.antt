use Rattle.module_machine.proofs.Callees.{Continues}
use Rattle.module_machine.proofs.functions.definitions_of.Given as goal

abbrev pub invariant-loop-index : goal.invariant-loop-index
invariant-loop-index l = Continues l.whole l.index l.callees.items
