use Rattle.edge_pending.proofs.choices.chosen_at.Goals as goal

pub returns-in-Some : goal.returns-in-Some
returns-in-Some c = rw c.in-Some.is c.waits.ensures
