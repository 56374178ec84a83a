use Rattle.edge_pending.specs.Rows.{send_asked, sends}
use Rattle.edge_pending.specs.declared.sending.Then.TheVariants.{Receive}
use Rattle.edge_pending.specs.declared.under_way.Lead.TheVariants.{Nothing}
use Rattle.std.proofs.lemmas.Result.{IfOk-weaker}
use Rattle.edge_pending.specs.Tables.{both}
use Rattle.edge_pending.proofs.RowSteps.{judged_goes}
use Rattle.edge_pending.proofs.sends.http_req_send.Goals as goal

pub returns-in-Ok-clause-row : goal.returns-in-Ok-clause-row
returns-in-Ok-clause-row c = λ reads is.
    IfOk-weaker c.sends.result _ _
    (λ step goes. judged_goes reads (both c.args.http.now c.args.tables.now) c.args.memory.now (send_asked (both c.args.http.now c.args.tables.now) c.args.settings.now c.args.memory.now c.args.h c.args.body c.args.p c.args.n c.args.o1 c.args.o2) _ (sends reads (Receive (record { lead = Nothing; response = c.args.o1; body = c.args.o2 })) (both c.args.http.now c.args.tables.now) c.args.memory.now c.args.h c.args.body) c.in-Ok.ensures.asked step _ _ goes)
    (c.sends.ensures reads c.args.tables.now c.args.memory.now)
