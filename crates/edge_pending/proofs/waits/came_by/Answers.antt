use Rattle.edge_pending.proofs.waits.came_by.Goals as goal

pub returns-in-Ready : goal.returns-in-Ready
returns-in-Ready c = rw c.in-Ready.is c.taken.ensures

pub returns-in-LinkFailed : goal.returns-in-LinkFailed
returns-in-LinkFailed c = rw c.in-LinkFailed.is (λ reads is. c.broken.ensures reads)
