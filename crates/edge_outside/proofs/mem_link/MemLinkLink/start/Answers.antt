use Rattle.std.proofs.Common.{◌+◌, arith, sym, subst}
use Rattle.edge_outside.specs.MemLink.{LinkInMemory, IsAmong}
use Rattle.edge_outside.proofs.Tickets.{fresh}
use Rattle.edge_outside.proofs.mem_link.MemLinkLink.start.Goals as goal

pub returns-clause-other : goal.returns-clause-other
returns-clause-other c = λ is.
    fresh c.self.inside.tickets.items c.self.inside.started (c.self.inside.started + 1) (omega arith) c.self.invariant.1
    (subst (λ (l : LinkInMemory). IsAmong l.content.tickets (c.self.inside.started + 1)) (sym c.self.view_is) is)
