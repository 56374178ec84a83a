-- The row that answers the client.
use Rattle.std.specs.Prelude.{◌≡◌, ◌≢◌, ℕ, Bool, ◌==◌, ◌||◌, ◌&&◌, not, is_some, Option, None, if◌then◌else◌, List, Result, Ok}
use Rattle.cache_types.specs.declared.outer.OuterCall.TheVariants as call
use Rattle.wasm_memory.specs.Linear.{Linear}
use Rattle.edge_abi.specs.declared.asked.Step.{Step}
use Rattle.edge_abi.specs.declared.asked.Step.TheVariants.{Outer}
use Rattle.edge_abi.specs.declared.status.Status.TheVariants as status
use Rattle.edge_abi.specs.declared.status.Refusal.{Refusal}
use Rattle.edge_abi.specs.Refusals.{and_then, unless, handled}
use Rattle.edge_abi.specs.Tables.{held}
use Rattle.edge_abi.specs.Told.{Told, After, Wants, Gives, Number, Row, ask, judged}
use Rattle.edge_body.specs.Heads.{Request, Response}
use Rattle.edge_body.specs.Parts.{known_length}
use Rattle.edge_body.specs.declared.body.Part.{Part}
use Rattle.http_front.specs.Answers.{answer_text}
use Rattle.edge_http_calls.specs.declared.tables.HttpTables.{HttpTables}
use Rattle.edge_http_calls.specs.Bodies.{parts_of, parts_in, status_of_sent}
use Rattle.body_calls.specs.declared.under_way.Then.TheVariants.{Send}
use Rattle.body_calls.specs.declared.under_way.UnderWay.{UnderWay}
use Rattle.body_calls.specs.declared.under_way.UnderWay.TheVariants.{Heading}
use Rattle.body_calls.specs.UnderWays.{headed}

-- the response, where the body is held, no answer was given, and streaming is 0 or 1
abbrev pub sendable : HttpTables → ℕ → ℕ → ℕ → Result Response Refusal
sendable t response handle streaming =
    and_then (handled t.responses response) (λ head.
    and_then (handled t.bodies handle) (λ state.
    and_then (unless (is_some (parts_of state) && (not t.answered && (streaming == 0 || streaming == 1))) status.Inval) (λ _. Ok head)))

-- what the head tells of the body's length: nothing where the body is streamed on
abbrev pub told_length : ℕ → List Part → Option ℕ
told_length streaming parts = if streaming == 1 then None else known_length parts

-- send_downstream(h,h,streaming): the head, all parts in pieces, and the end; or the body is streamed on. The request is the
-- one that came.
abbrev pub http_resp_send_downstream : Request → HttpTables → Linear → ℕ → ℕ → ℕ → Row HttpTables
http_resp_send_downstream request t m response handle streaming =
    judged t m (sendable t response handle streaming)
    (λ (head : Response). ask (call.Head (answer_text request head (told_length streaming (parts_in (held t.bodies handle)))))
    (λ reply. headed (Send response handle (streaming == 1)) (parts_in (held t.bodies handle)) t m (status_of_sent reply)))

-- the step that sends a head; these parts come behind it
abbrev pub head_step : ℕ → ℕ → Bool → List ℕ → List Part → Step UnderWay
head_step response handle streamed bytes left = Outer (call.Head bytes) (Heading (Send response handle streamed) left)

-- what an answer came to: with a status other than ok, tables and memory are those at its start, but that an answer may have
-- been given
abbrev pub IsKept : HttpTables → Linear → Told (After HttpTables) → Type 0
IsKept t m (Wants call) = Unit {0}
IsKept t m (Gives after left) = after.answer ≢ Number 0 → (after.tables ≡ record t { answered = after.tables.answered }) × (after.memory ≡ m)
