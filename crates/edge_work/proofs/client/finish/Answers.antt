use Rattle.std.proofs.Common.{Bool, sym, subst}
use Rattle.edge_outside.specs.Made.{Made}
use Rattle.edge_outside.specs.Sink.{IsWrite}
use Rattle.edge_work.specs.Sent.{Finished}
use Rattle.edge_work.proofs.Sending.{fails}
use Rattle.edge_work.proofs.client.finish.Goals as goal

pub returns : goal.returns
returns g c =
    subst (λ (b : Bool). Finished (Made (IsWrite g.K.Sink.writes g.K.Sink.content)) g.K.Sink.faults b c.args.sink.now c.send.new.sink) (sym c.if-done.false)
    (fails g.K.Sink.writes g.K.Sink.content g.K.Sink.faults c.send.result c.args.sink.now c.send.new.sink c.send.ensures.sent c.send.ensures.no_memory)
