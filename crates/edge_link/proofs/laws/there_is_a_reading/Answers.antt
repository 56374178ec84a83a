use Rattle.edge_link.proofs.Deciding.{reading, reading_is}
use Rattle.edge_link.proofs.laws.there_is_a_reading.Goals as goal

pub returns : goal.returns
returns c = (reading, reading_is)
