-- What a guest has of requests, responses and bodies.
use Rattle.std.specs.Prelude.{ℕ, Bool, true, false, ◌==◌, List, [], ◌∷◌, ◌++◌, length, Option, None, Some, option_map, if◌then◌else◌}
use Rattle.cache_types.specs.declared.calls.Field.{Field}
use Rattle.edge_abi.specs.Tables.{held, changed, taken}
use Rattle.edge_body.specs.Heads.{Request, Response}
use Rattle.edge_body.specs.declared.body.Part.{Part}
use Rattle.edge_body.specs.declared.body.Part.TheVariants.{Own, Rest}
use Rattle.edge_http_calls.specs.declared.tables.BodyState.{BodyState}
use Rattle.edge_http_calls.specs.declared.tables.BodyState.TheVariants as body
use Rattle.edge_http_calls.specs.declared.tables.HttpTables.{HttpTables}

-- the headers that a request's handle names, and those that a response's handle names
abbrev pub request_fields : HttpTables → ℕ → Option (List Field)
request_fields t h = option_map (λ (r : Request). r.fields) (held t.requests h)

abbrev pub response_fields : HttpTables → ℕ → Option (List Field)
response_fields t h = option_map (λ (r : Response). r.fields) (held t.responses h)

-- the tables where a request or a response is changed
abbrev pub with_request : HttpTables → ℕ → (Request → Request) → HttpTables
with_request t h change = record t { requests = changed change t.requests h }

abbrev pub with_response : HttpTables → ℕ → (Response → Response) → HttpTables
with_response t h change = record t { responses = changed change t.responses h }

-- the same with other headers
abbrev pub with_request_fields : HttpTables → ℕ → List Field → HttpTables
with_request_fields t h fields = with_request t h (λ (r : Request). record r { fields = fields })

abbrev pub with_response_fields : HttpTables → ℕ → List Field → HttpTables
with_response_fields t h fields = with_response t h (λ (r : Response). record r { fields = fields })

-- the tables with a body more, and without one
abbrev pub with_body : HttpTables → BodyState → HttpTables
with_body t state = record t { bodies = t.bodies ++ Some state ∷ [] }

abbrev pub without_body : HttpTables → ℕ → HttpTables
without_body t h = record t { bodies = taken t.bodies h }

-- the tables where a body is changed
abbrev pub with_changed : HttpTables → ℕ → (BodyState → BodyState) → HttpTables
with_changed t h change = record t { bodies = changed change t.bodies h }

-- the body isn't filled or streamed from here: its row makes no outer call
abbrev pub is_kept : Option BodyState → Bool
is_kept None = true
is_kept (Some (body.Held parts)) = true
is_kept (Some (body.Filling object)) = false
is_kept (Some body.Down) = false

-- the first part that has any bytes, if there is one, is an own one
abbrev pub begins_own : List Part → Bool
begins_own [] = true
begins_own (Own bytes ∷ parts) = if length bytes == 0 then begins_own parts else true
begins_own (Rest hit place length ∷ parts) = false

-- a read makes no outer call
abbrev pub reads_own : Option BodyState → Bool
reads_own (Some (body.Held parts)) = begins_own parts
reads_own _ = true
