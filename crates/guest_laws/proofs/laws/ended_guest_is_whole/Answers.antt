use Rattle.guest_laws.proofs.Ended.{ended_whole}
use Rattle.guest_laws.proofs.laws.ended_guest_is_whole.Goals as goal

pub returns : goal.returns
returns g = ended_whole
