use Rattle.edge_work.proofs.Held.{held_in_part}
use Rattle.edge_work.proofs.laws.lost_pieces_are_held_in_part.Goals as goal

pub returns : goal.returns
returns g = held_in_part
