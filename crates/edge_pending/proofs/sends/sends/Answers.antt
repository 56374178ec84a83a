use Rattle.std.proofs.lemmas.Result.{IfOk-weaker}
use Rattle.edge_pending.specs.Tables.{both}
use Rattle.edge_pending.proofs.RowSteps.{sends_goes}
use Rattle.edge_pending.proofs.sends.sends.Goals as goal

pub returns : goal.returns
returns c = λ reads handles m.
    IfOk-weaker c.gathers.result _ _
    (λ step goes.
    sends_goes reads c.args.next c.args.http.now c.request_taken.new.http c.parts_taken-parts.new.http handles m c.args.h c.args.body c.args.address c.in_ok-head.head c.new-sending.result c.new.result c.parts_taken-parts.result
    c.in_ok-head.ensures.head c.in_ok-head.ensures.taken c.new-sending.ensures c.new.ensures c.parts_taken-parts.ensures.parts c.parts_taken-parts.ensures.taken step _ _ goes)
    (c.gathers.ensures reads (both c.parts_taken-parts.new.http handles) m)
