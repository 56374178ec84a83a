-- What a Read was answered, and what a row does then.
use Rattle.std.specs.Prelude.{ℕ, ◌≤◌, List, length, Option}
use Rattle.wasm_memory.specs.Linear.{Linear}
use Rattle.edge_abi.specs.declared.status.Status.TheVariants as status
use Rattle.edge_abi.specs.Told.{Row, done}
use Rattle.edge_body.specs.declared.body.Part.{Part}
use Rattle.edge_http_calls.specs.declared.tables.HttpTables.{HttpTables}
use Rattle.edge_http_calls.specs.declared.tables.To.{To}
use Rattle.edge_http_calls.specs.Bodies.{read_parts}
use Rattle.body_calls.specs.declared.replies.Heard.{Heard}
use Rattle.body_calls.specs.declared.replies.Heard.TheVariants.{Bytes, Ended, Failed}
use Rattle.body_calls.specs.declared.under_way.Then.{Then}
use Rattle.body_calls.specs.UnderWays.{fails_of, moves, written_bytes, fetched_bytes}

-- at most so many bytes
abbrev pub IsWithin : ℕ → Heard → Type 0
IsWithin most (Bytes bytes) = length bytes ≤ most
IsWithin most _ = Unit {0}

-- a hit was read to be written on
abbrev pub written_on : To → Then → ℕ → ℕ → List Part → HttpTables → Linear → Heard → Row HttpTables
written_on target then hit place left t m (Bytes bytes) = written_bytes target then hit place left t m bytes
written_on target then hit place left t m Ended = moves target then left t m
written_on target then hit place left t m Failed = fails_of then t m status.Error

-- a hit was read for the guest
abbrev pub fetched_on : HttpTables → Linear → ℕ → ℕ → ℕ → ℕ → ℕ → ℕ → Option ℕ → List Part → Heard → Row HttpTables
fetched_on t m handle b most o hit place length left (Bytes bytes) = fetched_bytes t m handle b o hit place length left bytes
fetched_on t m handle b most o hit place length left Ended = read_parts t m handle b most o left
fetched_on t m handle b most o hit place length left Failed = done status.Error t m
