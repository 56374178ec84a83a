use Rattle.std.proofs.Common.{◌∙◌, sym}
use Rattle.std.specs.Prelude.{Some}
use Rattle.std.proofs.lemmas.Result.{IfOk-weaker}
use Rattle.edge_abi.specs.Tables.{held}
use Rattle.edge_pending.specs.Rows.{method_of}
use Rattle.edge_pending.specs.Tables.{both}
use Rattle.edge_pending.proofs.RowSteps.{came_same}
use Rattle.edge_pending.proofs.waits.came.Goals as goal

pub returns-in-Some : goal.returns-in-Some
returns-in-Some c = λ reads is.
    IfOk-weaker c.came_by.result _ _
    (λ step goes.
    came_same reads (both c.args.http.now c.args.tables.now) c.args.memory.now c.args.h c.args.places c.args.reply.now (Some c.in-Some.method) (method_of (held c.args.tables.now.pending c.args.h))
    (sym c.in-Some.is ∙ c.in_ok-method.ensures) step _ _ goes)
    (c.came_by.ensures reads is)
