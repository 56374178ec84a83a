use Rattle.edge_pending.specs.Choices.{first_kept}
use Rattle.edge_pending.specs.Rows.{select_asked, picks}
use Rattle.std.proofs.lemmas.Result.{IfOk-weaker}
use Rattle.edge_pending.specs.Tables.{both}
use Rattle.edge_pending.proofs.RowSteps.{judged_goes}
use Rattle.edge_pending.proofs.choices.async_select.Goals as goal

pub returns-in-Ok-clause-row : goal.returns-in-Ok-clause-row
returns-in-Ok-clause-row c = λ reads is.
    IfOk-weaker c.picks.result _ _
    (λ step goes. judged_goes reads (both c.args.http.now c.args.tables.now) c.args.memory.now (select_asked c.args.tables.now c.args.memory.now c.args.p c.args.count c.args.timeout c.args.o) _ (λ handles. picks reads (both c.args.http.now c.args.tables.now) c.args.memory.now handles c.args.o (first_kept c.args.tables.now.pending handles)) c.in-Ok.ensures.asked step _ _ goes)
    (c.picks.ensures reads c.args.http.now)
