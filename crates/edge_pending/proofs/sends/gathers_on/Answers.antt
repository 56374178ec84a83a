use Rattle.std.proofs.lemmas.Result.{IfOk-weaker}
use Rattle.edge_abi.specs.declared.status.Status.TheVariants as status
use Rattle.edge_abi.specs.Told.{done}
use Rattle.edge_pending.specs.Rows.{gathers_on, goes_heard, starts}
use Rattle.edge_pending.proofs.Gathered.{read_is}
use Rattle.edge_pending.proofs.Goings.{goes_same}
use Rattle.edge_pending.proofs.sends.gathers_on.Goals as goal

pub returns : goal.returns
returns c = λ reads t m.
    IfOk-weaker c.goes_heard.result _ _
    (λ step goes.
    goes_same reads (gathers_on reads c.args.sending t m c.args.hit c.args.place c.args.had c.args.left c.args.reply.now) (goes_heard reads c.args.sending t m c.args.hit c.args.place c.args.had c.args.left c.in_ok-heard.heard)
    (read_is c.args.hit c.args.place c.args.had c.args.left (done status.Error t m) (starts reads c.args.sending t m) c.args.reply.now c.in_ok-heard.heard c.in_ok-heard.ensures) step t m
    goes)
    (c.goes_heard.ensures reads t m)
