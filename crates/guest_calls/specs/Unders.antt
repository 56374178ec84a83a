-- What a row under way does with the reply to its outer call and with the replies after it.
use Rattle.cache_types.specs.declared.outer.OuterReply.{OuterReply}
use Rattle.wasm_memory.specs.Linear.{Linear}
use Rattle.edge_abi.specs.declared.asked.Step.{Step}
use Rattle.edge_abi.specs.declared.asked.Step.TheVariants.{Done, Outer}
use Rattle.edge_abi.specs.Told.{Row}
use Rattle.body_calls.specs.UnderWays as parts
use Rattle.edge_stores.specs.UnderWays as stores
use Rattle.cache_calls.specs.Replies as cache
use Rattle.guest_calls.specs.declared.rows.Under.{Under}
use Rattle.guest_calls.specs.declared.rows.Under.TheVariants.{Parts, Store, Cache}
use Rattle.guest_calls.specs.declared.tables.GuestTables.{GuestTables}
use Rattle.guest_calls.specs.Rows.{on_http, on_stores, on_cache}

-- each goes on as its own crate says
abbrev pub resumed : Under → GuestTables → Linear → OuterReply → Row GuestTables
resumed (Parts under) t m reply = on_http (λ these memory. parts.resumed under these memory reply) t m
resumed (Store under) t m reply = on_stores (λ these memory. stores.resumed under these memory reply) t m
resumed (Cache under) t m reply = on_cache (λ these memory. cache.resumed under these memory reply) t m

-- a step of some rows, among all of them
abbrev pub step_among : {U : Type 0} → (U → Under) → Step U → Step Under
step_among into (Done number) = Done number
step_among into (Outer call under) = Outer call (into under)
