use Rattle.edge_top.proofs.Telling.{one_part}
use Rattle.edge_top.proofs.laws.one_write_is_one_part.Goals as goal

pub returns : goal.returns
returns c = one_part
