use Rattle.std.proofs.Common.{◌∙◌, ℕ, ap, sym}
use Rattle.std.proofs.lemmas.Result.{IfOk-weaker}
use Rattle.edge_abi.specs.Told.{answers}
use Rattle.edge_http_calls.specs.Bodies.{target_of}
use Rattle.body_calls.proofs.RowSteps.{append_goes}
use Rattle.body_calls.proofs.calls.http_body_append.Goals as goal

pub returns-in_ok-status-in-Ok-Held-clause-row : goal.returns-in_ok-status-in-Ok-Held-clause-row
returns-in_ok-status-in-Ok-Held-clause-row c = λ replies.
    c.in_ok-status-in-Ok-Held.ensures.row replies ∙ ap (λ (k : ℕ). answers k c.http_body_append.new.tables c.http_body_append.new.memory replies) (sym c.number.ensures)

pub returns-in-Ok-Filling-clause-row : goal.returns-in-Ok-Filling-clause-row
returns-in-Ok-Filling-clause-row c =
    IfOk-weaker c.append_moved.result _ _
    (λ step goes. append_goes c.args.tables.now c.args.memory.now c.args.h c.args.second _ _ c.in-Ok-Filling.ensures.ok (ap target_of c.in-Ok-Filling.field-0-is) step _ _ (goes c.args.memory.now))
    c.append_moved.ensures.row

pub returns-in-Ok-Down-clause-row : goal.returns-in-Ok-Down-clause-row
returns-in-Ok-Down-clause-row c =
    IfOk-weaker c.append_moved-in-Ok-Down.result _ _
    (λ step goes. append_goes c.args.tables.now c.args.memory.now c.args.h c.args.second _ _ c.in-Ok-Down.ensures.ok (ap target_of c.in-Ok-Down.field-0-is) step _ _ (goes c.args.memory.now))
    c.append_moved-in-Ok-Down.ensures.row
