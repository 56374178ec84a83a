use Rattle.edge_outside.proofs.Contents.{writes_shown}
use Rattle.edge_outside.proofs.laws.writes_are_shown.Goals as goal

pub returns : goal.returns
returns g c = writes_shown g.K.Sink.writes g.K.Sink.content
