use Rattle.std.proofs.Common.{◌<◌, ◌≤◌, length, All, arith, sym, subst}
use Rattle.std.proofs.lemmas.List.Elements.{All-weaker}
use Rattle.std.proofs.lemmas.Option.{slice_get_within}
use Rattle.edge_outside.specs.MemLink.{LinkInMemory, IsAmong}
use Rattle.edge_outside.proofs.Tickets.{given}
use Rattle.edge_outside.proofs.mem_link.MemLinkLink.ready.Goals as goal

pub first_ready-requires-clause-within : goal.first_ready-requires-clause-within
first_ready-requires-clause-within c =
    All-weaker (IsAmong c.self.inside.tickets.items) (λ ticket. (0 < ticket) × (ticket ≤ length c.deref.result.now))
    (λ ticket is.
    let within = given c.self.inside.tickets.items c.self.inside.started ticket c.self.invariant.1 is in
    (within.0, omega (arith, within.1, c.self.invariant.0, c.deref.ensures.len))) c.args.tickets.now
    (subst (λ (l : LinkInMemory). All (IsAmong l.content.tickets) c.args.tickets.now) (sym c.self.view_is) c.requires.open)

pub returns-clause-within : goal.returns-clause-within
returns-clause-within c = slice_get_within c.args.tickets.now c.first_ready.result c.first_ready.ensures.chosen c.first_ready.ensures.at
