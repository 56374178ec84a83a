-- The rows of `wasi_snapshot_preview1`.
use Rattle.std.specs.Prelude.{ℕ, ◌*◌, ◌==◌, ◌||◌, List, length, nat_le, codes, Option, None, Some, Result, Ok, if◌then◌else◌}
use Rattle.cache_types.specs.declared.outer.OuterCall.TheVariants as call
use Rattle.rand_core.specs.Steps.{fill_via_u32}
use Rattle.rand_chacha.specs.ChaCha.{ChaCha, next_word}
use Rattle.wasm_memory.specs.Linear.{Linear}
use Rattle.edge_abi.specs.declared.status.Status.TheVariants as status
use Rattle.edge_abi.specs.declared.status.Refusal.{Refusal}
use Rattle.edge_abi.specs.Memory.{put, number_put}
use Rattle.edge_abi.specs.Refusals.{and_then, unless, ranged, placed, some_or}
use Rattle.edge_abi.specs.Told.{Row, Gives, Code, ask}
use Rattle.edge_stores.specs.Numbers.{allowed, succeeds}
use Rattle.edge_stores.specs.Vectors.{vectors, line_of}
use Rattle.edge_stores.specs.UnderWays.{resumed}
use Rattle.edge_stores.specs.declared.vectors.Line.{Line}
use Rattle.edge_stores.specs.declared.tables.StoreTables.{StoreTables}
use Rattle.edge_stores.specs.declared.under_way.UnderWay.TheVariants.{Writing, Timing}

-- proc_exit(code): the guest ends
abbrev pub wasi_proc_exit : StoreTables → Linear → ℕ → Row StoreTables
wasi_proc_exit t m code replies = Gives (record { answer = Code code; tables = t; memory = m }) replies

-- ---- fd_write(fd,p,count,o4)

-- where the two files that there are write their lines
abbrev pub endpoint_of : ℕ → Option (List ℕ)
endpoint_of fd = if fd == 1 then Some (codes "stdout") else (if fd == 2 then Some (codes "stderr") else None)

-- what the vectors hold is one line
abbrev pub write_asked : Linear → ℕ → ℕ → ℕ → ℕ → Result Line Refusal
write_asked m fd p count o =
    and_then (some_or (endpoint_of fd) status.Badf) (λ endpoint.
    and_then (ranged m p (8 * count)) (λ _.
    and_then (placed m o 4) (λ _.
    and_then (line_of m (vectors m p count)) (λ bytes. Ok (record { endpoint = endpoint; bytes = bytes })))))

abbrev pub writing : StoreTables → Linear → ℕ → Line → Row StoreTables
writing t m o line = ask (call.Log line.endpoint line.bytes) (resumed (Writing (length line.bytes) o) t m)

abbrev pub wasi_fd_write : StoreTables → Linear → ℕ → ℕ → ℕ → ℕ → Row StoreTables
wasi_fd_write t m fd p count o = allowed t m (write_asked m fd p count o) (writing t m o)

-- ---- random_get(p,n)

-- the next bytes of ChaCha with 20 rounds: its words of 32 bits, each with its lowest byte first. What the last word has over
-- is dropped, so that each call begins with a word of its own
abbrev pub random_bytes : ℕ → ChaCha → List ℕ × ChaCha
random_bytes n random = fill_via_u32 (next_word 10) n random

abbrev pub random_asked : Linear → ℕ → ℕ → Result (Unit {0}) Refusal
random_asked m p n = and_then (ranged m p n) (λ _. unless (nat_le n 65536) status.Inval)

abbrev pub wasi_random_get : StoreTables → Linear → ℕ → ℕ → Row StoreTables
wasi_random_get t m p n =
    allowed t m (random_asked m p n)
    (λ _. succeeds (record t { random = (random_bytes n t.random).1 }) (put m p (random_bytes n t.random).0))

-- ---- clock_time_get(id,precision,o8): clocks 0 and 1, whatever the precision

abbrev pub clock_asked : Linear → ℕ → ℕ → Result (Unit {0}) Refusal
clock_asked m id o = and_then (placed m o 8) (λ _. unless (id == 0 || id == 1) status.Inval)

abbrev pub wasi_clock_time_get : StoreTables → Linear → ℕ → ℕ → Row StoreTables
wasi_clock_time_get t m id o = allowed t m (clock_asked m id o) (λ _. ask (call.Now id) (resumed (Timing o) t m))

-- ---- environment and arguments, of which there are none

abbrev pub sizes_asked : Linear → ℕ → ℕ → Result (Unit {0}) Refusal
sizes_asked m o p = and_then (placed m o 4) (λ _. placed m p 4)

-- environ_sizes_get(o4,o4) and args_sizes_get(o4,o4)
abbrev pub wasi_sizes_get : StoreTables → Linear → ℕ → ℕ → Row StoreTables
wasi_sizes_get t m o p = allowed t m (sizes_asked m o p) (λ _. succeeds t (number_put (number_put m o 4 0) p 4 0))

-- environ_get(p,p) and args_get(p,p): nothing is written; the places are tested as ranges of no bytes
abbrev pub lists_asked : Linear → ℕ → ℕ → Result (Unit {0}) Refusal
lists_asked m p q = and_then (ranged m p 0) (λ _. ranged m q 0)

abbrev pub wasi_lists_get : StoreTables → Linear → ℕ → ℕ → Row StoreTables
wasi_lists_get t m p q = allowed t m (lists_asked m p q) (λ _. succeeds t m)
