use Rattle.std.proofs.lemmas.Result.{IfOk-weaker}
use Rattle.body_calls.proofs.Steps.{fetched_goes}
use Rattle.body_calls.proofs.reading.fetched.Goals as goal

pub returns-clause-row : goal.returns-clause-row
returns-clause-row c =
    IfOk-weaker c.heard_fetched.result _ _
    (λ step goes.
    fetched_goes c.args.tables.now c.args.memory.now c.args.h c.args.b c.args.most c.args.o c.args.hit c.args.from c.args.length c.args.left c.args.reply.now c.in_ok-heard.heard c.in_ok-heard.ensures.heard step c.heard_fetched.new.tables c.heard_fetched.new.memory goes)
    c.heard_fetched.ensures.row
