-- What the rows of the cache act on: a guest's requests, responses and bodies, and what it has of the cache.
use Rattle.std.specs.Prelude.{ℕ, [], ◌∷◌, ◌++◌, Some}
use Rattle.edge_abi.specs.Tables.{taken}
use Rattle.edge_http_calls.specs.Tables.{with_body}
use Rattle.edge_http_calls.specs.declared.tables.BodyState.{BodyState}
use Rattle.edge_http_calls.specs.declared.tables.HttpTables.{HttpTables}
use Rattle.cache_calls.specs.Wanted.{Wanted}
use Rattle.cache_calls.specs.declared.tables.CacheHandle.{CacheHandle}
use Rattle.cache_calls.specs.declared.tables.CacheTables.{CacheTables}

pub record HttpAndCache : Type 0 where
  pub http : HttpTables
  pub cache : CacheTables

abbrev pub both : HttpTables → CacheTables → HttpAndCache
both http cache = record { http = http; cache = cache }

-- the tables with a cache handle more, and without one
abbrev pub with_handle : HttpAndCache → CacheHandle → HttpAndCache
with_handle t handle = both t.http (record t.cache { handles = t.cache.handles ++ Some handle ∷ [] })

abbrev pub without_handle : HttpAndCache → ℕ → HttpAndCache
without_handle t h = both t.http (record t.cache { handles = taken t.cache.handles h })

-- the tables with a busy handle more, and without one
abbrev pub with_busy : HttpAndCache → Wanted → HttpAndCache
with_busy t wanted = both t.http (record t.cache { busy = t.cache.busy ++ Some wanted ∷ [] })

abbrev pub without_busy : HttpAndCache → ℕ → HttpAndCache
without_busy t h = both t.http (record t.cache { busy = taken t.cache.busy h })

-- the tables with a body more
abbrev pub with_new_body : HttpAndCache → BodyState → HttpAndCache
with_new_body t state = both (with_body t.http state) t.cache
