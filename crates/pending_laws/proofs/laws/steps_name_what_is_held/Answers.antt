use Rattle.pending_laws.proofs.Naming.{step_tame}
use Rattle.pending_laws.proofs.laws.steps_name_what_is_held.Goals as goal

pub returns : goal.returns
returns c = step_tame
