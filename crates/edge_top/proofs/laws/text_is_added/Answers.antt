use Rattle.edge_top.proofs.Telling.{text_shown}
use Rattle.edge_top.proofs.laws.text_is_added.Goals as goal

pub returns : goal.returns
returns g c = text_shown g.K.Sink.writes g.K.Sink.content
