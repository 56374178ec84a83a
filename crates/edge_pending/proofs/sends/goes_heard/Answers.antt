use Rattle.edge_pending.proofs.sends.goes_heard.Goals as goal

pub returns-in-Ended : goal.returns-in-Ended
returns-in-Ended c = rw c.in-Ended.is c.gathers.ensures
