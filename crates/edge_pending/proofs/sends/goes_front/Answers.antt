use Rattle.edge_pending.proofs.sends.goes_front.Goals as goal

pub returns-in-Whole : goal.returns-in-Whole
returns-in-Whole c = rw c.in-Whole.is c.started_with.ensures
