use Rattle.std.proofs.lemmas.Result.{IfOk-weaker}
use Rattle.edge_pending.specs.Tables.{both}
use Rattle.edge_pending.proofs.RowSteps.{polled_goes}
use Rattle.edge_pending.proofs.asks.polled.Goals as goal

pub returns-in_default : goal.returns-in_default
returns-in_default c = λ reads is.
    IfOk-weaker c.came.result _ _
    (λ step goes.
    polled_goes reads (both c.args.http.now c.args.tables.now) c.args.memory.now c.args.h c.args.o1 c.args.o2 c.args.o3 c.after_one.result c.args.reply.now c.in_default.not-NotReady c.after_one.ensures
    step _ _ goes)
    (c.came.ensures reads is)
