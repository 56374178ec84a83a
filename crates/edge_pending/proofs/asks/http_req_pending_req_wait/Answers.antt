use Rattle.std.proofs.Common.{◌∙◌, sym}
use Rattle.edge_pending.specs.Rows.{wait_asked, waits}
use Rattle.edge_pending.specs.declared.under_way.Lead.TheVariants.{Nothing}
use Rattle.std.proofs.lemmas.Result.{IfOk-weaker}
use Rattle.edge_pending.specs.Tables.{both}
use Rattle.edge_pending.proofs.RowSteps.{judged_goes}
use Rattle.edge_pending.proofs.asks.http_req_pending_req_wait.Goals as goal

pub returns-in-Ok-clause-row : goal.returns-in-Ok-clause-row
returns-in-Ok-clause-row c = λ reads is.
    IfOk-weaker c.waits.result _ _
    (λ step goes. judged_goes reads (both c.args.http.now c.args.tables.now) c.args.memory.now (wait_asked (both c.args.http.now c.args.tables.now) c.args.memory.now c.args.h c.args.o1 c.args.o2) _ (λ _. waits reads (both c.args.http.now c.args.tables.now) c.args.memory.now c.args.h (record { lead = Nothing; response = c.args.o1; body = c.args.o2 })) (sym c.wait_asked.ensures ∙ c.in-Ok.is) step _ _ goes)
    (c.waits.ensures reads is)
