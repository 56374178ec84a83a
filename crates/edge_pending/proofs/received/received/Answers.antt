use Rattle.std.proofs.Common.{List, ℕ, subst}
use Rattle.edge_link.specs.Readings.{Agrees}
use Rattle.edge_link.proofs.Unique.{agrees}
use Rattle.edge_pending.proofs.received.received.Goals as goal

pub returns : goal.returns
returns c = λ reads handles is.
    c.tell.ensures handles (reads c.args.method.now c.args.bytes.now)
    (subst (λ (bytes : List ℕ). Agrees (reads c.args.method.now bytes) c.read_response-read.result) c.bytes.ensures
    (agrees reads is c.args.method.now c.bytes.result.now c.read_response-read.result c.read_response-read.ensures.ok c.read_response-read.ensures.large c.read_response-read.ensures.first c.read_response-read.ensures.bad))
