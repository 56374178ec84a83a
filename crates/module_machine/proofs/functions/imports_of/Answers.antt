use Rattle.std.proofs.Common.{◌+◌, List, arith, subst, sym}
use Rattle.wasm_flat.specs.declared.thread.Callee.{Callee}
use Rattle.module_machine.proofs.Callees.{ContinuesImports, imports_continued, all_imports}
use Rattle.module_machine.proofs.functions.imports_of.Goals as goal

pub loop-import-preserved : goal.loop-import-preserved
loop-import-preserved c =
    let P : List Callee → Type 0 = λ cs. ContinuesImports c.args.types.now c.args.imports.now (c.loop-import.import-index + 1) cs in
    subst P (sym c.in_ok-push.ensures.items)
    (imports_continued c.args.types.now c.args.imports.now c.loop-import.import-index c.loop-import.callees.items c.import-item.result c.in_ok-callee.callee c.loop-import.invariant c.loop-import-test.true c.import-item.is c.in_ok-callee.ensures)

pub returns : goal.returns
returns c = all_imports c.args.types.now c.args.imports.now c.loop-import.import-index c.loop-import.callees.items c.loop-import.invariant (omega (arith, c.loop-import-test.false))
