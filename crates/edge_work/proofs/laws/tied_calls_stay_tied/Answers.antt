use Rattle.edge_work.proofs.Stays.{stays_tied}
use Rattle.edge_work.proofs.laws.tied_calls_stay_tied.Goals as goal

pub returns : goal.returns
returns g = stays_tied
