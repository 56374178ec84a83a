use Rattle.std.proofs.Common.{arith, sym, subst}
use Rattle.edge_outside.specs.MemLink.{LinkInMemory, IsAmong}
use Rattle.edge_outside.proofs.Tickets.{given}
use Rattle.edge_outside.proofs.mem_link.MemLinkLink.poll.Goals as goal

pub invariant_of-self : goal.invariant_of-self
invariant_of-self c = (c.self.invariant.0, c.take.ensures.kept c.self.inside.started c.self.invariant.1)

pub polled-requires-clause-some : goal.polled-requires-clause-some
polled-requires-clause-some c =
    (given c.self.inside.tickets.items c.self.inside.started c.args.ticket c.self.invariant.1
    (subst (λ (l : LinkInMemory). IsAmong l.content.tickets c.args.ticket) (sym c.self.view_is) c.requires)).0

pub polled-requires-clause-within : goal.polled-requires-clause-within
polled-requires-clause-within c =
    let within = (given c.self.inside.tickets.items c.self.inside.started c.args.ticket c.self.invariant.1
    (subst (λ (l : LinkInMemory). IsAmong l.content.tickets c.args.ticket) (sym c.self.view_is) c.requires)).1 in
    omega (arith, within, c.self.invariant.0)

pub invariant_of-self-in-Some : goal.invariant_of-self-in-Some
invariant_of-self-in-Some c =
    (omega (arith, c.self.invariant.0, c.polled.ensures.len), c.take-in-Some.ensures.kept c.self.inside.started c.self.invariant.1)
