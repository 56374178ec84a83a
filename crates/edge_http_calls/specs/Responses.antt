-- The rows of `fastly_http_resp` that make no outer call.
use Rattle.std.specs.Prelude.{ℕ, ◌+◌, nat_le, [], ◌∷◌, ◌++◌, length, Some}
use Rattle.wasm_memory.specs.Linear.{Linear}
use Rattle.edge_abi.specs.declared.status.Status.TheVariants as status
use Rattle.edge_abi.specs.Memory.{number_put}
use Rattle.edge_abi.specs.Refusals.{and_then, unless, handled}
use Rattle.edge_abi.specs.Tables.{taken}
use Rattle.edge_abi.specs.Told.{Row, judged, done}
use Rattle.edge_body.specs.Heads.{Response, is_status}
use Rattle.edge_http_calls.specs.declared.tables.HttpTables.{HttpTables}
use Rattle.edge_http_calls.specs.Tables.{with_response}
use Rattle.edge_http_calls.specs.Requests.{newly, with_place}

-- what a new response is
abbrev pub new_response : Response
new_response = record { status = 200; version = 2; fields = [] }

-- new(o4)
abbrev pub http_resp_new : HttpTables → Linear → ℕ → Row HttpTables
http_resp_new t m o =
    judged t m (newly t.responses m o)
    (λ _. done status.Ok (record t { responses = t.responses ++ Some new_response ∷ [] }) (number_put m o 4 (length t.responses + 1)))

-- close(h): the handle is taken
abbrev pub http_resp_close : HttpTables → Linear → ℕ → Row HttpTables
http_resp_close t m h = judged t m (handled t.responses h) (λ _. done status.Ok (record t { responses = taken t.responses h }) m)

-- version_get(h,o4)
abbrev pub http_resp_version_get : HttpTables → Linear → ℕ → ℕ → Row HttpTables
http_resp_version_get t m h o = judged t m (with_place t.responses m h o 4) (λ (r : Response). done status.Ok t (number_put m o 4 r.version))

-- version_set(h,number): 0 to 4 for HTTP/0.9, 1.0, 1.1, 2, 3
abbrev pub http_resp_version_set : HttpTables → Linear → ℕ → ℕ → Row HttpTables
http_resp_version_set t m h version =
    judged t m (and_then (handled t.responses h) (λ _. unless (nat_le version 4) status.Inval))
    (λ _. done status.Ok (with_response t h (λ (r : Response). record r { version = version })) m)

-- status_get(h,o2)
abbrev pub http_resp_status_get : HttpTables → Linear → ℕ → ℕ → Row HttpTables
http_resp_status_get t m h o = judged t m (with_place t.responses m h o 2) (λ (r : Response). done status.Ok t (number_put m o 2 r.status))

-- status_set(h,number): 200 to 999
abbrev pub http_resp_status_set : HttpTables → Linear → ℕ → ℕ → Row HttpTables
http_resp_status_set t m h number =
    judged t m (and_then (handled t.responses h) (λ _. unless (is_status number) status.Httpinvalidstatus))
    (λ _. done status.Ok (with_response t h (λ (r : Response). record r { status = number })) m)
