use Rattle.std.proofs.Common.{subst}
use Rattle.std.proofs.lemmas.Result.{IfOk-weaker}
use Rattle.edge_abi.specs.declared.status.Status.TheVariants as status
use Rattle.edge_abi.specs.Goes.{Goes}
use Rattle.edge_abi.specs.Told.{done}
use Rattle.edge_pending.specs.Gathers.{front_of}
use Rattle.edge_pending.specs.Rows.{resumed, gathers, goes_front, starts}
use Rattle.edge_pending.specs.declared.gathering.Front.{Front}
use Rattle.edge_pending.proofs.Gathered.{goes_front as front_same}
use Rattle.edge_pending.proofs.Goings.{goes_same}
use Rattle.edge_pending.proofs.sends.gathers.Goals as goal

pub returns : goal.returns
returns c = λ reads t m.
    IfOk-weaker c.goes_front.result _ _
    (λ step goes.
    goes_same reads (gathers reads c.args.sending t m c.args.had c.args.left) (goes_front reads c.args.sending t m (front_of c.args.had c.args.left))
    (front_same (done status.Error t m) (starts reads c.args.sending t m) c.args.had c.args.left) step t m
    (subst (λ (x : Front). Goes (resumed reads) (goes_front reads c.args.sending t m x) step t m) c.in_ok-front.ensures goes))
    (c.goes_front.ensures reads t m)
