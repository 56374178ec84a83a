use Rattle.edge_work.proofs.Held.{held_all}
use Rattle.edge_work.proofs.laws.written_pieces_are_held.Goals as goal

pub returns : goal.returns
returns g = held_all
