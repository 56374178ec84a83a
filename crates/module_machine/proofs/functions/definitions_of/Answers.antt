use Rattle.std.proofs.Common.{◌≡◌, ◌+◌, List, length, ap, arith, subst, sym}
use Rattle.wasm_flat.specs.declared.thread.Callee.{Callee}
use Rattle.module_machine.proofs.Callees.{Continues, continued, all_made}
use Rattle.module_machine.proofs.functions.definitions_of.Goals as goal

pub loop-index-preserved : goal.loop-index-preserved
loop-index-preserved c =
    let P : List Callee → Type 0 = λ cs. Continues c.args.whole.now (c.loop-index.index + 1) cs in
    subst P (sym c.in_ok-push.ensures.items)
    (continued c.args.whole.now c.loop-index.index c.loop-index.callees.items c.in_ok-callee.callee c.loop-index.invariant c.in_ok-callee.ensures)

pub returns : goal.returns
returns c =
    let codes : length c.args.whole.now.code ≡ length c.items-count.result.now = ap length (sym c.items-count.ensures) in
    let kinds : length c.args.whole.now.functions ≡ length c.items.result.now = ap length (sym c.items.ensures) in
    all_made c.args.whole.now c.loop-index.index c.loop-index.callees.items c.loop-index.invariant (omega (arith, codes, c.loop-index-test.false)) (omega (arith, kinds, c.loop-index-test.false))
