use Rattle.guest_laws.proofs.Ended.{zero_none}
use Rattle.guest_laws.proofs.laws.guest_zero_has_none.Goals as goal

pub returns : goal.returns
returns g = zero_none
