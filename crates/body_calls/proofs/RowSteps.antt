-- The first steps of rows that aren't refused.
use Rattle.std.proofs.Common.{◌≡◌, ℕ, ap}
use Rattle.std.specs.Prelude.{Some, Ok}
use Rattle.wasm_memory.specs.Linear.{Linear}
use Rattle.edge_abi.specs.declared.asked.Step.{Step}
use Rattle.edge_abi.specs.Goes.{Goes}
use Rattle.edge_abi.specs.Tables.{held}
use Rattle.edge_abi.specs.Told.{Row}
use Rattle.edge_http_calls.specs.declared.tables.BodyState.{BodyState}
use Rattle.edge_http_calls.specs.declared.tables.BodyState.TheVariants as body
use Rattle.edge_http_calls.specs.declared.tables.HttpTables.{HttpTables}
use Rattle.edge_http_calls.specs.declared.tables.To.{To}
use Rattle.edge_http_calls.specs.declared.tables.To.TheVariants as targets
use Rattle.edge_http_calls.specs.Bodies.{appendable, appends, appended, fails, http_body_append, http_body_write, parts_in, target_of, writable, writes, writing}
use Rattle.edge_http_calls.specs.Moves.{write_parts}
use Rattle.body_calls.specs.declared.under_way.Then.TheVariants.{Append}
use Rattle.body_calls.specs.declared.under_way.UnderWay.{UnderWay}
use Rattle.body_calls.specs.UnderWays.{moves, resumed}
use Rattle.body_calls.proofs.Going.{goes_same}
use Rattle.body_calls.proofs.Steps.{judged_goes}

module _ (t : HttpTables) (m : Linear) where
  pub append_moves : (h second : ℕ) (state : BodyState) (to : To) → target_of state ≡ Some to
      → appends t m h second state ≡ write_parts to (parts_in (held t.bodies second)) (fails t m) (appended t m second)
  append_moves h second (body.Held parts) to e = cc
  append_moves h second (body.Filling object) to e =
      let is : targets.Filling object ≡ to = cc in
      ap (λ (x : To). write_parts x (parts_in (held t.bodies second)) (fails t m) (appended t m second)) is
  append_moves h second body.Down to e =
      let is : targets.Down ≡ to = cc in
      ap (λ (x : To). write_parts x (parts_in (held t.bodies second)) (fails t m) (appended t m second)) is

  pub append_goes : (h second : ℕ) (state : BodyState) (to : To) → appendable t h second ≡ Ok state → target_of state ≡ Some to → (step : Step UnderWay) (after : HttpTables) (there : Linear)
      → Goes resumed (moves to (Append second) (parts_in (held t.bodies second)) t m) step after there → Goes resumed (http_body_append t m h second) step after there
  append_goes h second state to is target step after there goes =
      judged_goes t m (appendable t h second) state (appends t m h second) is step after there
      (goes_same (appends t m h second state) (moves to (Append second) (parts_in (held t.bodies second)) t m) (λ replies. ap (λ (row : Row HttpTables). row replies) (append_moves h second state to target)) step after there goes)

  writes_on : (h p n end o : ℕ) (state : BodyState) (to : To) → target_of state ≡ Some to → writes t m h p n end o state ≡ writing t m p n o to
  writes_on h p n end o (body.Held parts) to e = cc
  writes_on h p n end o (body.Filling object) to e = let is : targets.Filling object ≡ to = cc in ap (λ (x : To). writing t m p n o x) is
  writes_on h p n end o body.Down to e = let is : targets.Down ≡ to = cc in ap (λ (x : To). writing t m p n o x) is

  pub write_goes : (h p n end o : ℕ) (state : BodyState) (to : To) → writable t m h p n end o ≡ Ok state → target_of state ≡ Some to → (step : Step UnderWay) (after : HttpTables) (there : Linear)
      → Goes resumed (writing t m p n o to) step after there → Goes resumed (http_body_write t m h p n end o) step after there
  write_goes h p n end o state to is target step after there goes =
      judged_goes t m (writable t m h p n end o) state (writes t m h p n end o) is step after there
      (goes_same (writes t m h p n end o state) (writing t m p n o to) (λ replies. ap (λ (row : Row HttpTables). row replies) (writes_on h p n end o state to target)) step after there goes)
