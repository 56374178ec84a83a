use Rattle.edge_load.proofs.Playing.{playable_as}
use Rattle.edge_load.proofs.load.load_part.Goals as goal

pub returns-clause-playable : goal.returns-clause-playable
returns-clause-playable c = playable_as c.args.number c.args.count c.in_ok-guests.field-0 c.in_ok-steps.field-0 c.in_ok-guests.ensures c.in_ok-steps.ensures
