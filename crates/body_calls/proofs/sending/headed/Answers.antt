use Rattle.std.proofs.lemmas.Result.{IfOk-weaker}
use Rattle.edge_http_calls.specs.Bodies.{status_of_sent}
use Rattle.body_calls.proofs.Steps.{headed_ok, headed_fails}
use Rattle.body_calls.proofs.sending.headed.Goals as goal

pub returns-in-Ok-clause-row : goal.returns-in-Ok-clause-row
returns-in-Ok-clause-row c =
    IfOk-weaker c.moved.result _ _
    (λ step goes memory. headed_ok c.args.then c.args.left c.args.tables.now memory (status_of_sent c.args.reply.now) c.in-Ok.ensures step c.moved.new.tables (goes memory))
    c.moved.ensures.row

pub returns-in_default-clause-row : goal.returns-in_default-clause-row
returns-in_default-clause-row c = λ memory.
    headed_fails c.args.then c.args.left c.args.tables.now memory c.status_of_sent.result (status_of_sent c.args.reply.now) c.status_of_sent.ensures c.in_default.not-Ok c.failed.result c.failed.new.tables (c.failed.ensures.row memory)
