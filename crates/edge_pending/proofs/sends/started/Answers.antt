use Rattle.edge_pending.proofs.sends.started.Goals as goal

pub returns-in-Started : goal.returns-in-Started
returns-in-Started c = rw c.in-Started.is c.started_by.ensures
