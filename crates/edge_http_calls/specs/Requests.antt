-- The rows of `fastly_http_req` that make no outer call.
use Rattle.std.specs.Prelude.{ℕ, ◌+◌, Bool, not, ◌&&◌, nat_le, List, [], ◌∷◌, ◌++◌, length, codes, Option, None, Some, is_some, option_map, Result, Ok}
use Rattle.wasm_memory.specs.Linear.{Linear}
use Rattle.edge_abi.specs.declared.status.Status.TheVariants as status
use Rattle.edge_abi.specs.declared.status.Refusal.{Refusal}
use Rattle.edge_abi.specs.Memory.{octets_at, number_put}
use Rattle.edge_abi.specs.Refusals.{and_then, unless, ranged, placed, handled}
use Rattle.edge_abi.specs.Tables.{taken, is_full}
use Rattle.edge_abi.specs.Buffers.{buffered}
use Rattle.edge_abi.specs.Told.{Row, judged, plain, done}
use Rattle.edge_body.specs.Heads.{Request}
use Rattle.edge_body.specs.declared.body.Part.TheVariants.{Own}
use Rattle.edge_http_calls.specs.declared.tables.BodyState.{BodyState}
use Rattle.edge_http_calls.specs.declared.tables.BodyState.TheVariants as body
use Rattle.edge_http_calls.specs.declared.tables.HttpTables.{HttpTables}
use Rattle.edge_http_calls.specs.Tables.{with_request}
use Rattle.edge_http_calls.specs.Texts.{is_token, is_request_uri}

-- what a new request is
abbrev pub new_request : Request
new_request = record { method = codes "GET"; uri = codes "http://localhost/"; version = 2; fields = [] }

-- a place for a new handle, and a handle to give
abbrev pub newly : {X : Type 0} → List (Option X) → Linear → ℕ → Result (Unit {0}) Refusal
newly table m o = and_then (placed m o 4) (λ _. unless (not (is_full table)) status.Limitexceeded)

-- new(o4)
abbrev pub http_req_new : HttpTables → Linear → ℕ → Row HttpTables
http_req_new t m o =
    judged t m (newly t.requests m o)
    (λ _. done status.Ok (record t { requests = t.requests ++ Some new_request ∷ [] }) (number_put m o 4 (length t.requests + 1)))

-- close(h): the handle is taken
abbrev pub http_req_close : HttpTables → Linear → ℕ → Row HttpTables
http_req_close t m h = judged t m (handled t.requests h) (λ _. done status.Ok (record t { requests = taken t.requests h }) m)

-- what a handle names, and a place for a number
abbrev pub with_place : {X : Type 0} → List (Option X) → Linear → ℕ → ℕ → ℕ → Result X Refusal
with_place table m h o size = and_then (handled table h) (λ x. and_then (placed m o size) (λ _. Ok x))

-- what a handle names, and a buffer
abbrev pub with_buffer : {X : Type 0} → List (Option X) → Linear → ℕ → ℕ → ℕ → ℕ → Result X Refusal
with_buffer table m h b room count = and_then (handled table h) (λ x. and_then (ranged m b room) (λ _. and_then (placed m count 4) (λ _. Ok x)))

-- version_get(h,o4)
abbrev pub http_req_version_get : HttpTables → Linear → ℕ → ℕ → Row HttpTables
http_req_version_get t m h o = judged t m (with_place t.requests m h o 4) (λ (r : Request). done status.Ok t (number_put m o 4 r.version))

-- version_set(h,number): 0 to 4 for HTTP/0.9, 1.0, 1.1, 2, 3
abbrev pub http_req_version_set : HttpTables → Linear → ℕ → ℕ → Row HttpTables
http_req_version_set t m h version =
    judged t m (and_then (handled t.requests h) (λ _. unless (nat_le version 4) status.Inval))
    (λ _. done status.Ok (with_request t h (λ (r : Request). record r { version = version })) m)

-- the request wasn't given yet, and there is room for both handles
abbrev pub downstream_asked : HttpTables → Linear → ℕ → ℕ → Result (Unit {0}) Refusal
downstream_asked t m o p =
    and_then (placed m o 4) (λ _.
    and_then (placed m p 4) (λ _.
    and_then (unless (is_some t.head && is_some t.body) status.Inval) (λ _.
    and_then (unless (not (is_full t.requests)) status.Limitexceeded) (λ _.
    unless (not (is_full t.bodies)) status.Limitexceeded))))

-- the body of the request is one part
abbrev pub body_of : List ℕ → BodyState
body_of bytes = body.Held (Own bytes ∷ [])

abbrev pub given_downstream : HttpTables → HttpTables
given_downstream t = record t {
  requests = t.requests ++ t.head ∷ [];
  bodies = t.bodies ++ option_map body_of t.body ∷ [];
  head = None;
  body = None;
}

-- body_downstream_get(o4,o4): the request and its body, once
abbrev pub http_req_body_downstream_get : HttpTables → Linear → ℕ → ℕ → Row HttpTables
http_req_body_downstream_get t m o p =
    judged t m (downstream_asked t m o p)
    (λ _. done status.Ok (given_downstream t) (number_put (number_put m o 4 (length t.requests + 1)) p 4 (length t.bodies + 1)))

-- method_get(h,b,n,o4) and uri_get(h,b,n,o4)
abbrev pub http_req_method_get : HttpTables → Linear → ℕ → ℕ → ℕ → ℕ → Row HttpTables
http_req_method_get t m h b room count = judged t m (with_buffer t.requests m h b room count) (λ (r : Request). plain t (buffered m b room count r.method))

abbrev pub http_req_uri_get : HttpTables → Linear → ℕ → ℕ → ℕ → ℕ → Row HttpTables
http_req_uri_get t m h b room count = judged t m (with_buffer t.requests m h b room count) (λ (r : Request). plain t (buffered m b room count r.uri))

-- a text that passes a test
abbrev pub text_asked : {X : Type 0} → (List ℕ → Bool) → List (Option X) → Linear → ℕ → ℕ → ℕ → Result (List ℕ) Refusal
text_asked test table m h p n =
    and_then (handled table h) (λ _. and_then (ranged m p n) (λ _. and_then (unless (test (octets_at m p n)) status.Httpinvalid) (λ _. Ok (octets_at m p n))))

-- method_set(h,p,n): a token of at most 64 bytes
abbrev pub http_req_method_set : HttpTables → Linear → ℕ → ℕ → ℕ → Row HttpTables
http_req_method_set t m h p n =
    judged t m (text_asked is_token t.requests m h p n) (λ text. done status.Ok (with_request t h (λ (r : Request). record r { method = text })) m)

-- uri_set(h,p,n)
abbrev pub http_req_uri_set : HttpTables → Linear → ℕ → ℕ → ℕ → Row HttpTables
http_req_uri_set t m h p n =
    judged t m (text_asked is_request_uri t.requests m h p n) (λ text. done status.Ok (with_request t h (λ (r : Request). record r { uri = text })) m)
