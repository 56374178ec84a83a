use Rattle.std.proofs.Common.{◌∙◌, sym}
use Rattle.edge_abi.specs.Tables.{held}
use Rattle.edge_pending.specs.Rows.{ready_asked, peeks, told_of}
use Rattle.std.proofs.lemmas.Result.{IfOk-weaker}
use Rattle.edge_pending.specs.Tables.{both}
use Rattle.edge_pending.proofs.RowSteps.{judged_goes}
use Rattle.edge_pending.proofs.asks.async_is_ready.Goals as goal

pub returns-in-Ok-clause-row : goal.returns-in-Ok-clause-row
returns-in-Ok-clause-row c = λ reads is.
    IfOk-weaker c.peeks.result _ _
    (λ step goes. judged_goes reads (both c.args.http.now c.args.tables.now) c.args.memory.now (ready_asked c.args.tables.now c.args.memory.now c.args.h c.args.o) _ (λ _. peeks reads (both c.args.http.now c.args.tables.now) c.args.memory.now c.args.h c.args.o (told_of (held c.args.tables.now.pending c.args.h))) (sym c.ready_asked.ensures ∙ c.in-Ok.is) step _ _ goes)
    (c.peeks.ensures reads c.args.http.now)
