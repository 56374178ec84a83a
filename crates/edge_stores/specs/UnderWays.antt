-- What the reply to a row's one outer call becomes.
use Rattle.std.specs.Prelude.{ℕ, Result, Ok, Err}
use Rattle.cache_types.specs.declared.outer.OuterReply.{OuterReply}
use Rattle.cache_types.specs.declared.outer.OuterReply.TheVariants as reply
use Rattle.wasm_memory.specs.Linear.{Linear}
use Rattle.edge_abi.specs.declared.status.Status.TheVariants as status
use Rattle.edge_abi.specs.declared.status.Refusal.{Refusal}
use Rattle.edge_abi.specs.declared.status.Refusal.TheVariants.{Told}
use Rattle.edge_abi.specs.Memory.{number_put}
use Rattle.edge_abi.specs.Told.{Row, judged, done}
use Rattle.edge_stores.specs.Numbers.{allowed, succeeds}
use Rattle.edge_stores.specs.declared.tables.StoreTables.{StoreTables}
use Rattle.edge_stores.specs.declared.under_way.UnderWay.{UnderWay}
use Rattle.edge_stores.specs.declared.under_way.UnderWay.TheVariants.{Logging, Writing, Timing}

-- a line was logged; what a log is never answered is an error
abbrev pub sent_in : OuterReply → Result (Unit {0}) Refusal
sent_in reply.Sent = Ok tt
sent_in _ = Err (Told status.Error)

-- what a clock said
abbrev pub reading_in : OuterReply → Result ℕ Refusal
reading_in (reply.Now reading) = Ok reading
reading_in _ = Err (Told status.Error)

abbrev pub resumed : UnderWay → StoreTables → Linear → OuterReply → Row StoreTables
resumed (Logging written o) t m reply = judged t m (sent_in reply) (λ _. done status.Ok t (number_put m o 4 written))
resumed (Writing written o) t m reply = allowed t m (sent_in reply) (λ _. succeeds t (number_put m o 4 written))
resumed (Timing o) t m reply = allowed t m (reading_in reply) (λ reading. succeeds t (number_put m o 8 reading))
