use Rattle.edge_pending.specs.Rows.{send_async_asked, sends}
use Rattle.edge_pending.specs.declared.sending.Then.TheVariants.{Keep}
use Rattle.std.proofs.lemmas.Result.{IfOk-weaker}
use Rattle.edge_pending.specs.Tables.{both}
use Rattle.edge_pending.proofs.RowSteps.{judged_goes}
use Rattle.edge_pending.proofs.sends.http_req_send_async.Goals as goal

pub returns-in-Ok-clause-row : goal.returns-in-Ok-clause-row
returns-in-Ok-clause-row c = λ reads is.
    IfOk-weaker c.sends.result _ _
    (λ step goes. judged_goes reads (both c.args.http.now c.args.tables.now) c.args.memory.now (send_async_asked (both c.args.http.now c.args.tables.now) c.args.settings.now c.args.memory.now c.args.h c.args.body c.args.p c.args.n c.args.o) _ (sends reads (Keep c.args.o) (both c.args.http.now c.args.tables.now) c.args.memory.now c.args.h c.args.body) c.in-Ok.ensures.asked step _ _ goes)
    (c.sends.ensures reads c.args.tables.now c.args.memory.now)
