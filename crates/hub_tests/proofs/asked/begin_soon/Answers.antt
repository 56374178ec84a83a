use Rattle.std.proofs.Common.{refl}
use Rattle.hub_tests.proofs.May.{made_guest}
use Rattle.hub_tests.proofs.asked.begin_soon.Goals as goal

pub returns-clause-guest : goal.returns-clause-guest
returns-clause-guest g c = made_guest _ c.call_until-pass.result.1 c.number_in.result c.call_until-pass.result.0 refl c.call_until-pass.ensures.begins c.number_in.ensures
