-- The rows of `fastly_log`.
use Rattle.std.specs.Prelude.{ℕ, ◌+◌, List, [], ◌∷◌, ◌++◌, length, min, Some, Result, Ok}
use Rattle.cache_types.specs.Limits.{is_from_to}
use Rattle.cache_types.specs.declared.outer.OuterCall.TheVariants as call
use Rattle.wasm_memory.specs.Linear.{Linear}
use Rattle.edge_abi.specs.declared.status.Status.TheVariants as status
use Rattle.edge_abi.specs.declared.status.Refusal.{Refusal}
use Rattle.edge_abi.specs.Memory.{octets_at, number_put}
use Rattle.edge_abi.specs.Refusals.{and_then, unless, ranged, placed, handled}
use Rattle.edge_abi.specs.Told.{Row, ask, judged, done}
use Rattle.edge_stores.specs.Stores.{room_in}
use Rattle.edge_stores.specs.UnderWays.{resumed}
use Rattle.edge_stores.specs.declared.tables.StoreTables.{StoreTables}
use Rattle.edge_stores.specs.declared.under_way.UnderWay.TheVariants.{Logging}

-- a name of 1 to 256 bytes
abbrev pub endpoint_asked : StoreTables → Linear → ℕ → ℕ → ℕ → Result (List ℕ) Refusal
endpoint_asked t m p n o =
    and_then (ranged m p n) (λ _.
    and_then (placed m o 4) (λ _.
    and_then (unless (is_from_to 1 256 n) status.Inval) (λ _.
    and_then (room_in t.endpoints) (λ _. Ok (octets_at m p n)))))

-- endpoint_get(p,n,o4)
abbrev pub log_endpoint_get : StoreTables → Linear → ℕ → ℕ → ℕ → Row StoreTables
log_endpoint_get t m p n o =
    judged t m (endpoint_asked t m p n o)
    (λ name. done status.Ok (record t { endpoints = t.endpoints ++ Some name ∷ [] }) (number_put m o 4 (length t.endpoints + 1)))

-- the name of an endpoint, and a line for it
abbrev pub line_asked : StoreTables → Linear → ℕ → ℕ → ℕ → ℕ → Result (List ℕ) Refusal
line_asked t m h p n o = and_then (handled t.endpoints h) (λ name. and_then (ranged m p n) (λ _. and_then (placed m o 4) (λ _. Ok name)))

-- one line is logged: the first bytes, as many as a line has at most
abbrev pub logging : StoreTables → Linear → ℕ → ℕ → ℕ → List ℕ → Row StoreTables
logging t m p n o name = ask (call.Log name (octets_at m p (min n 65536))) (resumed (Logging (min n 65536) o) t m)

-- write(h,p,n,o4): at the place the number of bytes that were taken
abbrev pub log_write : StoreTables → Linear → ℕ → ℕ → ℕ → ℕ → Row StoreTables
log_write t m h p n o = judged t m (line_asked t m h p n o) (logging t m p n o)
