use Rattle.std.proofs.lemmas.Result.{IfOk-weaker}
use Rattle.body_calls.proofs.Steps.{pieced_ok, pieced_other}
use Rattle.body_calls.proofs.moving.moved_on.Goals as goal

pub returns-in-Ok-clause-row : goal.returns-in-Ok-clause-row
returns-in-Ok-clause-row c =
    IfOk-weaker c.moved.result _ _
    (λ step goes memory. pieced_ok c.args.to c.args.then c.args.left c.args.tables.now memory c.args.reply.now c.in-Ok.ensures step c.moved.new.tables (goes memory))
    c.moved.ensures.row

pub returns-in_default-clause-row : goal.returns-in_default-clause-row
returns-in_default-clause-row c = λ memory.
    pieced_other c.args.to c.args.then c.args.left c.args.tables.now memory c.args.reply.now c.status_of_piece.result c.status_of_piece.ensures c.in_default.not-Ok c.fail.result c.args.tables.now (c.fail.ensures.row c.args.tables.now memory)
