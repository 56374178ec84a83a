use Rattle.module_machine.proofs.Callees.{ContinuesImports}
use Rattle.module_machine.proofs.functions.imports_of.Given as goal

abbrev pub invariant-loop-import : goal.invariant-loop-import
invariant-loop-import l = ContinuesImports l.types l.imports l.import-index l.callees.items
