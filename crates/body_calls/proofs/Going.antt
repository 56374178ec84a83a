-- A step of a row is one of any row that is the same under all replies.
use Rattle.std.proofs.Common.{◌≡◌, ◌∙◌, List, [], ◌∷◌, refl}
use Rattle.cache_types.specs.declared.outer.OuterReply.{OuterReply}
use Rattle.wasm_memory.specs.Linear.{Linear}
use Rattle.edge_abi.specs.declared.asked.Step.{Step}
use Rattle.edge_abi.specs.declared.asked.Step.TheVariants.{Done, Outer}
use Rattle.edge_abi.specs.declared.status.Status.{Status}
use Rattle.edge_abi.specs.declared.status.Status.TheVariants as status
use Rattle.edge_abi.specs.Goes.{Goes}
use Rattle.edge_abi.specs.Told.{Row}
use Rattle.edge_http_calls.specs.declared.tables.HttpTables.{HttpTables}
use Rattle.edge_http_calls.specs.Moves.{passed}
use Rattle.body_calls.specs.declared.under_way.UnderWay.{UnderWay}
use Rattle.body_calls.specs.UnderWays.{resumed}

pub goes_same : (row other : Row HttpTables) → ((replies : List OuterReply) → row replies ≡ other replies) → (step : Step UnderWay) (t : HttpTables) (m : Linear)
    → Goes resumed other step t m → Goes resumed row step t m
goes_same row other same (Done number) t m goes = λ replies. same replies ∙ goes replies
goes_same row other same (Outer made under) t m goes = (goes.0, same [] ∙ goes.1, λ reply replies. same (reply ∷ replies) ∙ goes.2 reply replies)

-- a status that isn't ok
pub passed_other : {A : Type 0} (said : Status) (fails : Status → A) (goes : A) → (said ≡ status.Ok → ⊥) → passed said fails goes ≡ fails said
passed_other status.Ok fails goes other = absurd (other refl)
passed_other said fails goes other = refl
