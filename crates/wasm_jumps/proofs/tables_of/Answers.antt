use Rattle.std.proofs.Common.{ℕ, ◌+◌, List, arith, subst, sym}
use Rattle.wasm_jumps.proofs.Tables.{Continues, continued, all_made}
use Rattle.wasm_jumps.proofs.tables_of.Goals as goal

pub loop-code-preserved : goal.loop-code-preserved
loop-code-preserved c =
    let P : List (List ℕ) → Type 0 = λ ts. Continues c.args.codes.now (c.loop-code.code-index + 1) ts in
    subst P (sym c.in_ok-push.ensures.items)
    (continued c.args.codes.now c.loop-code.code-index c.loop-code.tables.items c.code-item.result c.in_ok-table.table c.loop-code.invariant c.loop-code-test.true c.code-item.is c.in_ok-table.ensures)

pub returns : goal.returns
returns c = all_made c.args.codes.now c.loop-code.code-index c.loop-code.tables.items c.loop-code.invariant (omega (arith, c.loop-code-test.false))
