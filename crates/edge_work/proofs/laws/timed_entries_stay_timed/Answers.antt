use Rattle.edge_work.proofs.Stays.{stays_timed}
use Rattle.edge_work.proofs.laws.timed_entries_stay_timed.Goals as goal

pub returns : goal.returns
returns g = stays_timed
