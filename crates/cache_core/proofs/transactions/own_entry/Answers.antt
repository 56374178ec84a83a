use Rattle.std.proofs.Common.{reverse, eq-eqb, ne_eqb}
use Rattle.cache_core.proofs.Standing.{own_here, own_not, own_nothing}
use Rattle.cache_core.proofs.transactions.own_entry.Goals as goal

pub returns-then-entry-guest : goal.returns-then-entry-guest
returns-then-entry-guest c =
    let e = c.in-Some.entry.now in
    own_here (reverse c.args.entries.now) c.requires c.args.guest c.args.number e c.in-Some.ensures (eq-eqb e.guest c.args.guest c.if-entry-guest.true)

pub returns-else-entry-guest : goal.returns-else-entry-guest
returns-else-entry-guest c =
    let e = c.in-Some.entry.now in
    own_not (reverse c.args.entries.now) c.requires c.args.guest c.args.number e c.in-Some.ensures (ne_eqb e.guest c.args.guest c.if-entry-guest.false)

pub returns-in-None : goal.returns-in-None
returns-in-None c = own_nothing (reverse c.args.entries.now) c.requires c.args.guest c.args.number c.in-None.ensures
