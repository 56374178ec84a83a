use Rattle.std.proofs.Common.{sym, subst}
use Rattle.std.specs.Prelude.{IfOk}
use Rattle.wasm_memory.specs.Linear.{Linear}
use Rattle.edge_abi.specs.Goes.{Goes}
use Rattle.body_calls.specs.declared.replies.Heard.{Heard}
use Rattle.body_calls.specs.Heards.{written_on}
use Rattle.body_calls.specs.UnderWays.{resumed}
use Rattle.body_calls.proofs.moving.heard_moved.Goals as goal

pub returns-in-Ended-clause-row : goal.returns-in-Ended-clause-row
returns-in-Ended-clause-row c =
    subst
    (λ (x : Heard).
    IfOk c.moved.result (λ step. (memory : Linear) → Goes resumed (written_on c.args.to c.args.then c.args.hit c.args.place c.args.left c.args.tables.now memory x) step c.moved.new.tables memory))
    (sym c.in-Ended.is)
    c.moved.ensures.row
