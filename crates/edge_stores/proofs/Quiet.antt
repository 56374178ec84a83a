-- Rows of WASI, and what replies become, where they don't succeed.
use Rattle.std.proofs.Common.{ℕ, refl}
use Rattle.std.specs.Prelude.{Result, Ok, Err}
use Rattle.cache_types.specs.declared.outer.OuterReply.{OuterReply}
use Rattle.wasm_memory.specs.Linear.{Linear}
use Rattle.edge_abi.specs.declared.status.Status.TheVariants as status
use Rattle.edge_abi.specs.declared.status.Refusal.{Refusal}
use Rattle.edge_abi.specs.declared.status.Refusal.TheVariants as refusal
use Rattle.edge_abi.specs.Memory.{number_put}
use Rattle.edge_abi.specs.Told.{Row, answers, done}
use Rattle.edge_abi.specs.Quiet.{RowIsQuiet}
use Rattle.edge_abi.proofs.Quiet.{judged-quiet}
use Rattle.edge_stores.specs.Numbers.{allowed, succeeds}
use Rattle.edge_stores.specs.UnderWays.{sent_in, reading_in, resumed}
use Rattle.edge_stores.specs.declared.tables.StoreTables.{StoreTables}
use Rattle.edge_stores.specs.declared.under_way.UnderWay.{UnderWay}
use Rattle.edge_stores.specs.declared.under_way.UnderWay.TheVariants.{Logging, Writing, Timing}

-- tables and memory stay with whatever number
pub number-quiet : {T : Type 0} (t : T) (m : Linear) (number : ℕ) → RowIsQuiet t m (answers number t m)
number-quiet t m number replies = λ _. (refl, refl)

pub success-quiet : {T : Type 0} (t now : T) (m there : Linear) → RowIsQuiet t m (succeeds now there)
success-quiet t now m there replies = λ bad. absurd (bad refl)

pub allowed-quiet : {T X : Type 0} (t : T) (m : Linear) (result : Result X Refusal) (next : X → Row T) → ((x : X) → RowIsQuiet t m (next x)) → RowIsQuiet t m (allowed t m result next)
allowed-quiet t m (Err (refusal.Told said)) next quiet replies = λ _. (refl, refl)
allowed-quiet t m (Err refusal.OutOfMemory) next quiet replies = λ _. (refl, refl)
allowed-quiet t m (Ok x) next quiet replies = quiet x replies

pub resumed-quiet : (under : UnderWay) (t : StoreTables) (m : Linear) (reply : OuterReply) → RowIsQuiet t m (resumed under t m reply)
resumed-quiet (Logging written o) t m reply = judged-quiet t m (sent_in reply) (λ _. done status.Ok t (number_put m o 4 written)) (λ x replies bad. absurd (bad refl))
resumed-quiet (Writing written o) t m reply = allowed-quiet t m (sent_in reply) (λ _. succeeds t (number_put m o 4 written)) (λ x. success-quiet t t m (number_put m o 4 written))
resumed-quiet (Timing o) t m reply = allowed-quiet t m (reading_in reply) (λ reading. succeeds t (number_put m o 8 reading)) (λ reading. success-quiet t t m (number_put m o 8 reading))
