use Rattle.std.proofs.Common.{◌∙◌, ℕ, sym, ap}
use Rattle.edge_abi.specs.Told.{answers}
use Rattle.edge_pending.specs.Tables.{both}
use Rattle.edge_pending.proofs.sends.received_by.Goals as goal

pub returns-in_ok-status-in-Ready : goal.returns-in_ok-status-in-Ready
returns-in_ok-status-in-Ready c = λ reads handles is replies.
    rw c.in-Ready.is
    (c.in_ok-status-in-Ready.ensures reads handles is replies
    ∙ ap (λ (k : ℕ). answers k (both c.received.new.http handles) c.received.new.memory replies) (sym c.number.ensures))
