use Rattle.edge_pending.specs.Choices.{first_kept}
use Rattle.edge_pending.specs.Rows.{choose_asked, chooses}
use Rattle.std.proofs.lemmas.Result.{IfOk-weaker}
use Rattle.edge_pending.specs.Tables.{both}
use Rattle.edge_pending.proofs.RowSteps.{judged_goes}
use Rattle.edge_pending.proofs.choices.http_req_pending_req_select.Goals as goal

pub returns-in-Ok-clause-row : goal.returns-in-Ok-clause-row
returns-in-Ok-clause-row c = λ reads is.
    IfOk-weaker c.chooses.result _ _
    (λ step goes. judged_goes reads (both c.args.http.now c.args.tables.now) c.args.memory.now (choose_asked (both c.args.http.now c.args.tables.now) c.args.memory.now c.args.p c.args.count c.args.o1 c.args.o2 c.args.o3) _ (λ handles. chooses reads (both c.args.http.now c.args.tables.now) c.args.memory.now handles c.args.o1 c.args.o2 c.args.o3 (first_kept c.args.tables.now.pending handles)) c.in-Ok.ensures.asked step _ _ goes)
    (c.chooses.ensures reads is)
