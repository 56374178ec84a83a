-- A step of a row is one of any row that is the same under all replies.
use Rattle.std.proofs.Common.{◌≡◌, ◌∙◌, List, [], ◌∷◌}
use Rattle.cache_types.specs.declared.outer.OuterReply.{OuterReply}
use Rattle.wasm_memory.specs.Linear.{Linear}
use Rattle.edge_abi.specs.declared.asked.Step.{Step}
use Rattle.edge_abi.specs.declared.asked.Step.TheVariants.{Done, Outer}
use Rattle.edge_abi.specs.Goes.{Goes}
use Rattle.edge_abi.specs.Told.{Row}
use Rattle.edge_link.specs.Readings.{Reading}
use Rattle.edge_pending.specs.Rows.{resumed}
use Rattle.edge_pending.specs.Tables.{HttpAndPending}
use Rattle.edge_pending.specs.declared.under_way.UnderWay.{UnderWay}

pub goes_same : (reads : Reading) (row other : Row HttpAndPending) → ((replies : List OuterReply) → row replies ≡ other replies) → (step : Step UnderWay) (t : HttpAndPending) (m : Linear)
    → Goes (resumed reads) other step t m → Goes (resumed reads) row step t m
goes_same reads row other same (Done number) t m goes = λ replies. same replies ∙ goes replies
goes_same reads row other same (Outer made under) t m goes = (goes.0, same [] ∙ goes.1, λ reply replies. same (reply ∷ replies) ∙ goes.2 reply replies)
