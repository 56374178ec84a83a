use Rattle.std.proofs.Common.{◌∙◌, sym}
use Rattle.edge_pending.specs.Rows.{poll_asked, polls}
use Rattle.std.proofs.lemmas.Result.{IfOk-weaker}
use Rattle.edge_pending.specs.Tables.{both}
use Rattle.edge_pending.proofs.RowSteps.{judged_goes}
use Rattle.edge_pending.proofs.asks.http_req_pending_req_poll.Goals as goal

pub returns-in-Ok-clause-row : goal.returns-in-Ok-clause-row
returns-in-Ok-clause-row c = λ reads is.
    IfOk-weaker c.polls.result _ _
    (λ step goes. judged_goes reads (both c.args.http.now c.args.tables.now) c.args.memory.now (poll_asked (both c.args.http.now c.args.tables.now) c.args.memory.now c.args.h c.args.o1 c.args.o2 c.args.o3) _ (λ _. polls reads (both c.args.http.now c.args.tables.now) c.args.memory.now c.args.h c.args.o1 c.args.o2 c.args.o3) (sym c.poll_asked.ensures ∙ c.in-Ok.is) step _ _ goes)
    (c.polls.ensures reads is)
