use Rattle.std.proofs.Common.{◌∙◌, ℕ, ap, sym}
use Rattle.edge_abi.specs.Told.{answers}
use Rattle.body_calls.proofs.calls.http_body_abandon.Goals as goal

pub returns-in_ok-status-in-Some-Held-clause-row : goal.returns-in_ok-status-in-Some-Held-clause-row
returns-in_ok-status-in-Some-Held-clause-row c = λ replies.
    c.in_ok-status-in-Some-Held.ensures.row replies
    ∙ ap (λ (k : ℕ). answers k c.http_body_abandon.new.tables c.http_body_abandon.new.memory replies) (sym c.number-in-Some-Held.ensures)
