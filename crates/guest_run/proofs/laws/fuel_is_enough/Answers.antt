use Rattle.guest_run.proofs.Enough.{same_live}
use Rattle.guest_run.proofs.laws.fuel_is_enough.Goals as goal

pub returns : goal.returns
returns c = λ one other code calls back fuel s t replies low high. same_live one other code calls back fuel s t replies low high
