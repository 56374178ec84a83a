use Rattle.std.proofs.Common.{rules, ℕ, ◌<◌, ◌≤◌, ◌==◌, not, true, List, All, sym, subst}
use Rattle.std.proofs.lemmas.Fn.{filter_same}
use Rattle.edge_outside.specs.Link.{Keeps}
use Rattle.edge_outside.specs.MemLink.{IsAmong}
use Rattle.edge_outside.proofs.Tickets.{kept, left}
use Rattle.edge_outside.proofs.mem_link.take.Goals as goal

pub returns-clause-after : goal.returns-clause-after
returns-clause-after c = filter_same _ (λ other. not (other == c.args.ticket)) _ (λ x b f' k. search rules) _ _ c.retain.ensures.filtered

pub returns-clause-kept : goal.returns-clause-kept
returns-clause-kept c = λ n all.
    subst (λ (xs : List ℕ). All (λ other. (0 < other) × (other ≤ n)) xs) (sym (returns-clause-after c)) (kept c.args.tickets.now.items n c.args.ticket all)

pub returns-clause-left : goal.returns-clause-left
returns-clause-left c =
    subst (λ (xs : List ℕ). Keeps (IsAmong c.args.tickets.now.items) c.args.ticket true (IsAmong xs)) (sym (returns-clause-after c)) (left c.args.tickets.now.items c.args.ticket)
