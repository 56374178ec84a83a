use Rattle.std.proofs.Common.{arith, sym, subst}
use Rattle.edge_outside.specs.MemLink.{LinkInMemory, IsAmong}
use Rattle.edge_outside.proofs.Tickets.{given}
use Rattle.edge_outside.proofs.mem_link.MemLinkLink.wait.Goals as goal

pub invariant_of-self : goal.invariant_of-self
invariant_of-self c = (c.self.invariant.0, c.take.ensures.kept c.self.inside.started c.self.invariant.1)

pub waited-requires-clause-some : goal.waited-requires-clause-some
waited-requires-clause-some c =
    (given c.self.inside.tickets.items c.self.inside.started c.args.ticket c.self.invariant.1
    (subst (λ (l : LinkInMemory). IsAmong l.content.tickets c.args.ticket) (sym c.self.view_is) c.requires)).0

pub waited-requires-clause-within : goal.waited-requires-clause-within
waited-requires-clause-within c =
    let within = (given c.self.inside.tickets.items c.self.inside.started c.args.ticket c.self.invariant.1
    (subst (λ (l : LinkInMemory). IsAmong l.content.tickets c.args.ticket) (sym c.self.view_is) c.requires)).1 in
    omega (arith, within, c.self.invariant.0, c.deref.ensures.len)

pub invariant_of-self-2 : goal.invariant_of-self-2
invariant_of-self-2 c = (c.self.invariant.0, c.take-2.ensures.kept c.self.inside.started c.self.invariant.1)
