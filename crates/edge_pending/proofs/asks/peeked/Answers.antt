use Rattle.std.proofs.Common.{◌∙◌, List, ℕ, ap}
use Rattle.edge_pending.specs.Tables.{both, with_state}
use Rattle.edge_pending.specs.declared.tables.PendingState.TheVariants.{Came}
use Rattle.edge_pending.proofs.RowSteps.{answers_same}
use Rattle.edge_pending.proofs.asks.peeked.Goals as goal

pub returns-in_ok-copy-in-Ready : goal.returns-in_ok-copy-in-Ready
returns-in_ok-copy-in-Ready c = λ reads http replies.
    rw c.in-Ready.is
    (answers_same _ _ _ _ _ _ replies c.number-in-Ready.ensures
    (c.keep.ensures http ∙ ap (λ (bytes : List ℕ). with_state (both http c.args.tables.now) c.args.h (Came bytes)) c.in_ok-copy-in-Ready.ensures) c.put_number-in-Ready.ensures)

pub returns-in-LinkFailed : goal.returns-in-LinkFailed
returns-in-LinkFailed c = λ reads http replies.
    rw c.in-LinkFailed.is (answers_same _ _ _ _ _ _ replies c.number-in-LinkFailed.ensures (c.keep-in-LinkFailed.ensures http) c.put_number-in-LinkFailed.ensures)
