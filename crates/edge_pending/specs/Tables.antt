-- What the rows act on: a guest's requests, responses and bodies, and its pending handles.
use Rattle.std.specs.Prelude.{ℕ, Bool, true, false, List, [], ◌∷◌, ◌++◌, Option, None, Some}
use Rattle.edge_abi.specs.Tables.{taken, changed}
use Rattle.edge_body.specs.Heads.{Request, Response}
use Rattle.edge_body.specs.declared.body.Part.TheVariants.{Own}
use Rattle.edge_http_calls.specs.Requests.{new_request}
use Rattle.edge_http_calls.specs.Tables.{without_body}
use Rattle.edge_http_calls.specs.declared.tables.BodyState.{BodyState}
use Rattle.edge_http_calls.specs.declared.tables.BodyState.TheVariants.{Held}
use Rattle.edge_http_calls.specs.declared.tables.HttpTables.{HttpTables}
use Rattle.edge_pending.specs.declared.tables.Pending.{Pending}
use Rattle.edge_pending.specs.declared.tables.PendingState.{PendingState}
use Rattle.edge_pending.specs.declared.tables.PendingState.TheVariants.{Ticket, Came, Broken}
use Rattle.edge_pending.specs.declared.tables.PendingTables.{PendingTables}

pub record HttpAndPending : Type 0 where
  pub http : HttpTables
  pub sent : PendingTables

abbrev pub both : HttpTables → PendingTables → HttpAndPending
both http sent = record { http = http; sent = sent }

-- the tables without a request and a body, which are sent
abbrev pub without_request : HttpTables → ℕ → HttpTables
without_request http h = record http { requests = taken http.requests h }

abbrev pub without_sent : HttpAndPending → ℕ → ℕ → HttpAndPending
without_sent t h body = both (without_body (without_request t.http h) body) t.sent

-- a held body of these bytes
abbrev pub body_of : List ℕ → BodyState
body_of bytes = Held (Own bytes ∷ [])

-- the tables with a response and its body more
abbrev pub with_both : HttpTables → Response → List ℕ → HttpTables
with_both http head bytes = record http { responses = http.responses ++ Some head ∷ []; bodies = http.bodies ++ Some (body_of bytes) ∷ [] }

abbrev pub with_response : HttpAndPending → Response → List ℕ → HttpAndPending
with_response t head bytes = both (with_both t.http head bytes) t.sent

-- the tables with a pending handle more, without one, and with another state of one
abbrev pub with_pending : HttpAndPending → Pending → HttpAndPending
with_pending t pending = both t.http (record { pending = t.sent.pending ++ Some pending ∷ [] })

abbrev pub without_pending : HttpAndPending → ℕ → HttpAndPending
without_pending t h = both t.http (record { pending = taken t.sent.pending h })

abbrev pub in_state : PendingState → Pending → Pending
in_state state pending = record { method = pending.method; state = state }

abbrev pub with_state : HttpAndPending → ℕ → PendingState → HttpAndPending
with_state t h state = both t.http (record { pending = changed (in_state state) t.sent.pending h })

-- the request of a handle
abbrev pub request_in : Option Request → Request
request_in None = new_request
request_in (Some head) = head

-- what a handle keeps
abbrev pub is_kept_state : PendingState → Bool
is_kept_state (Ticket ticket) = false
is_kept_state (Came bytes) = true
is_kept_state Broken = true

abbrev pub is_kept : Option Pending → Bool
is_kept None = false
is_kept (Some pending) = is_kept_state pending.state

-- the ticket of a handle; 0 where it has none
abbrev pub ticket_in_state : PendingState → ℕ
ticket_in_state (Ticket ticket) = ticket
ticket_in_state (Came bytes) = 0
ticket_in_state Broken = 0

abbrev pub ticket_in : Option Pending → ℕ
ticket_in None = 0
ticket_in (Some pending) = ticket_in_state pending.state
