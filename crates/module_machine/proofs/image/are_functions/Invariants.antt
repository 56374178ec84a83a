use Rattle.module_machine.proofs.Imports.{Depends}
use Rattle.module_machine.proofs.image.are_functions.Given as goal

abbrev pub invariant-loop-import : goal.invariant-loop-import
invariant-loop-import l = Depends l.imports l.import-index
