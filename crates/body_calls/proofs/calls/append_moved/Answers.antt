use Rattle.std.proofs.lemmas.Result.{IfOk-weaker}
use Rattle.edge_abi.specs.Tables.{held}
use Rattle.edge_http_calls.specs.Bodies.{parts_in}
use Rattle.body_calls.specs.declared.under_way.Then.TheVariants.{Append}
use Rattle.body_calls.proofs.Steps.{moves_same}
use Rattle.body_calls.proofs.calls.append_moved.Goals as goal

pub returns-clause-row : goal.returns-clause-row
returns-clause-row c =
    IfOk-weaker c.moved.result _ _
    (λ step goes memory.
    moves_same c.args.to (Append c.args.second) memory c.in_ok-left.left (parts_in (held c.args.tables.now.bodies c.args.second)) c.parts_of.new.tables c.args.tables.now step c.moved.new.tables c.in_ok-left.ensures.copy c.in_ok-left.ensures.kept (goes memory))
    c.moved.ensures.row
