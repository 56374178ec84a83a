use Rattle.std.proofs.Common.{refl}
use Rattle.hub_tests.proofs.May.{made_guest}
use Rattle.hub_tests.proofs.asked.begin.Goals as goal

pub returns-clause-guest : goal.returns-clause-guest
returns-clause-guest g c = made_guest _ c.try_call-pass.result.1 c.number_in.result c.try_call-pass.result.0 refl c.try_call-pass.ensures.begins c.number_in.ensures
