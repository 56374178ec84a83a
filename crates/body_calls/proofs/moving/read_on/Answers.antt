use Rattle.std.proofs.lemmas.Result.{IfOk-weaker}
use Rattle.body_calls.proofs.Steps.{written_goes}
use Rattle.body_calls.proofs.moving.read_on.Goals as goal

pub returns-clause-row : goal.returns-clause-row
returns-clause-row c =
    IfOk-weaker c.heard_moved.result _ _
    (λ step goes memory.
    written_goes c.args.to c.args.then c.args.hit c.args.place c.args.left c.args.tables.now memory c.args.reply.now c.in_ok-heard.heard c.in_ok-heard.ensures.heard step c.heard_moved.new.tables (goes memory))
    c.heard_moved.ensures.row
