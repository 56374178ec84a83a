-- What the rows ask the cache for, behind their refusals: handles from left to right, places from left to right, option
-- bits, texts and numbers, limits and full tables. What the options' record names is tested right behind the record.
use Rattle.std.specs.Prelude.{ℕ, ◌==◌, not, List, nat_le, Option, None, Some, Result, Ok, if◌then◌else◌}
use Rattle.cache_types.specs.Limits.{is_key, is_surrogate}
use Rattle.cache_types.specs.declared.calls.CacheCall.{CacheCall}
use Rattle.cache_types.specs.declared.calls.CacheCall.TheVariants.{Lookup, TxLookup, Insert, TxInsert, TxUpdate, TxCancel, Close, Purge}
use Rattle.cache_types.specs.declared.calls.Field.{Field}
use Rattle.cache_types.specs.declared.replies.Hit.{Hit}
use Rattle.wasm_memory.specs.Linear.{Linear}
use Rattle.edge_abi.specs.declared.status.Status.TheVariants as status
use Rattle.edge_abi.specs.declared.status.Refusal.{Refusal}
use Rattle.edge_abi.specs.Memory.{octets_at}
use Rattle.edge_abi.specs.Refusals.{and_then, unless, ranged, placed, some_or, handled}
use Rattle.edge_abi.specs.Tables.{is_full}
use Rattle.edge_http_calls.specs.declared.tables.HttpTables.{HttpTables}
use Rattle.cache_calls.specs.Wanted.{Wanted}
use Rattle.cache_calls.specs.Tables.{HttpAndCache}
use Rattle.cache_calls.specs.Kinds.{is_plain, is_streamed}
use Rattle.cache_calls.specs.Options.{has, headers_of, lookup_options, write_options, writing_at}
use Rattle.cache_calls.specs.declared.kinds.CacheKind.{CacheKind}
use Rattle.cache_calls.specs.declared.kinds.CacheKind.TheVariants as kind
use Rattle.cache_calls.specs.declared.tables.CacheHandle.{CacheHandle}
use Rattle.cache_calls.specs.declared.tables.CacheTables.{CacheTables}
use Rattle.cache_calls.specs.declared.under_way.Asking.{Asking}
use Rattle.cache_calls.specs.declared.under_way.UnderWay.TheVariants.{Looking, Waiting, Inserting, StreamingBack, Telling, Closing}

-- there is a handle to give
abbrev pub room_in : {X : Type 0} → List (Option X) → Result (Unit {0}) Refusal
room_in table = unless (not (is_full table)) status.Limitexceeded

-- ---- lookups

-- the headers that are given, behind the tests of a key and of a lookup's options
abbrev pub wanted_given : HttpTables → Linear → ℕ → ℕ → ℕ → ℕ → ℕ → Result (Option (List Field)) Refusal
wanted_given http m p n mask q o =
    and_then (ranged m p n) (λ _.
    and_then (lookup_options http m mask q) (λ given.
    and_then (placed m o 4) (λ _.
    and_then (unless (nat_le mask 3) status.Unsupported) (λ _.
    and_then (unless (not (n == 0)) status.Inval) (λ _.
    and_then (unless (is_key (octets_at m p n)) status.Limitexceeded) (λ _. Ok given))))))

-- what is looked up: the bytes at a place, with these headers
abbrev pub wanted : Linear → ℕ → ℕ → Option (List Field) → Wanted
wanted m p n given = record { key = octets_at m p n; headers = headers_of given }

-- the call that makes the lookup
abbrev pub lookup_call : CacheKind → Wanted → CacheCall
lookup_call kind.Lookup w = Lookup w.key w.headers
lookup_call _ w = TxLookup w.key w.headers

abbrev pub lookup_asked : CacheKind → HttpAndCache → Linear → ℕ → ℕ → ℕ → ℕ → ℕ → Result Asking Refusal
lookup_asked kind t m p n mask q o =
    and_then (wanted_given t.http m p n mask q o) (λ given.
    and_then (room_in t.cache.handles) (λ _. Ok (record { call = lookup_call kind (wanted m p n given); under = Looking kind o })))

-- a lookup to be made later
abbrev pub busy_asked : HttpAndCache → Linear → ℕ → ℕ → ℕ → ℕ → ℕ → Result Wanted Refusal
busy_asked t m p n mask q o =
    and_then (wanted_given t.http m p n mask q o) (λ given. and_then (room_in t.cache.busy) (λ _. Ok (wanted m p n given)))

-- the lookup that a busy handle stands for
abbrev pub wait_asked : CacheTables → Linear → ℕ → ℕ → Result Asking Refusal
wait_asked t m h o =
    and_then (handled t.busy h) (λ (w : Wanted).
    and_then (placed m o 4) (λ _.
    and_then (room_in t.handles) (λ _. Ok (record { call = TxLookup w.key w.headers; under = Waiting h o }))))

-- ---- insertions

-- the headers that are given, behind the tests of a key, of a record and of a place
abbrev pub insert_given : HttpTables → Linear → ℕ → ℕ → ℕ → ℕ → ℕ → Result (Option (List Field)) Refusal
insert_given http m p n mask q o =
    and_then (ranged m p n) (λ _.
    and_then (write_options http m mask q) (λ given.
    and_then (placed m o 4) (λ _.
    and_then (unless (nat_le mask 255) status.Unsupported) (λ _.
    and_then (unless (not (n == 0)) status.Inval) (λ _. Ok given)))))

abbrev pub insert_asked : HttpTables → Linear → ℕ → ℕ → ℕ → ℕ → ℕ → Result Asking Refusal
insert_asked http m p n mask q o =
    and_then (insert_given http m p n mask q o) (λ given.
    and_then (writing_at m mask q) (λ writing.
    and_then (unless (is_key (octets_at m p n)) status.Limitexceeded) (λ _.
    and_then (room_in http.bodies) (λ _.
    Ok (record { call = Insert (octets_at m p n) (headers_of given) writing; under = Inserting o })))))

-- a handle of a transaction, behind the tests of a record and of a place
abbrev pub tx_given : HttpAndCache → Linear → ℕ → ℕ → ℕ → ℕ → Result CacheHandle Refusal
tx_given t m h mask q o =
    and_then (handled t.cache.handles h) (λ (handle : CacheHandle).
    and_then (write_options t.http m mask q) (λ _.
    and_then (placed m o 4) (λ _.
    and_then (unless (nat_le mask 255) status.Unsupported) (λ _.
    and_then (unless (not (is_plain handle.kind)) status.Inval) (λ _. Ok handle)))))

abbrev pub tx_insert_asked : HttpAndCache → Linear → ℕ → ℕ → ℕ → ℕ → Result Asking Refusal
tx_insert_asked t m h mask q o =
    and_then (tx_given t m h mask q o) (λ (handle : CacheHandle).
    and_then (writing_at m mask q) (λ writing.
    and_then (room_in t.http.bodies) (λ _. Ok (record { call = TxInsert handle.name writing; under = Inserting o }))))

-- the same with two places
abbrev pub back_given : HttpAndCache → Linear → ℕ → ℕ → ℕ → ℕ → ℕ → Result CacheHandle Refusal
back_given t m h mask q o back =
    and_then (handled t.cache.handles h) (λ (handle : CacheHandle).
    and_then (write_options t.http m mask q) (λ _.
    and_then (placed m o 4) (λ _.
    and_then (placed m back 4) (λ _.
    and_then (unless (nat_le mask 255) status.Unsupported) (λ _.
    and_then (unless (not (is_plain handle.kind)) status.Inval) (λ _. Ok handle))))))

abbrev pub stream_back_asked : HttpAndCache → Linear → ℕ → ℕ → ℕ → ℕ → ℕ → Result Asking Refusal
stream_back_asked t m h mask q o back =
    and_then (back_given t m h mask q o back) (λ (handle : CacheHandle).
    and_then (writing_at m mask q) (λ writing.
    and_then (room_in t.http.bodies) (λ _.
    and_then (room_in t.cache.handles) (λ _.
    Ok (record { call = TxInsert handle.name writing; under = StreamingBack o back writing.terms writing.length })))))

-- ---- what else a transaction does

abbrev pub update_given : HttpAndCache → Linear → ℕ → ℕ → ℕ → Result CacheHandle Refusal
update_given t m h mask q =
    and_then (handled t.cache.handles h) (λ (handle : CacheHandle).
    and_then (write_options t.http m mask q) (λ _.
    and_then (unless (nat_le mask 255) status.Unsupported) (λ _.
    and_then (unless (not (is_plain handle.kind)) status.Inval) (λ _. Ok handle))))

abbrev pub update_asked : HttpAndCache → Linear → ℕ → ℕ → ℕ → Result Asking Refusal
update_asked t m h mask q =
    and_then (update_given t m h mask q) (λ (handle : CacheHandle).
    and_then (writing_at m mask q) (λ writing. Ok (record { call = TxUpdate handle.name writing.terms; under = Telling })))

abbrev pub cancel_asked : CacheTables → ℕ → Result Asking Refusal
cancel_asked t h =
    and_then (handled t.handles h) (λ (handle : CacheHandle).
    and_then (unless (not (is_plain handle.kind)) status.Inval) (λ _. Ok (record { call = TxCancel handle.name; under = Telling })))

-- the call that closes a handle's lookup; a streamed-back handle is no lookup
abbrev pub close_call : CacheHandle → ℕ → Option Asking
close_call handle h = if is_streamed handle.kind then None else Some (record { call = Close handle.name; under = Closing h })

abbrev pub close_asked : CacheTables → ℕ → Result (Option Asking) Refusal
close_asked t h = and_then (handled t.handles h) (λ (handle : CacheHandle). Ok (close_call handle h))

-- ---- a purge

abbrev pub purge_asked : Linear → ℕ → ℕ → ℕ → Result Asking Refusal
purge_asked m p n mask =
    and_then (ranged m p n) (λ _.
    and_then (unless (nat_le mask 1) status.Unsupported) (λ _.
    and_then (unless (not (n == 0)) status.Inval) (λ _.
    and_then (unless (is_surrogate (octets_at m p n)) status.Limitexceeded) (λ _.
    Ok (record { call = Purge (octets_at m p n) (has mask 1); under = Telling })))))

-- ---- what a handle tells

abbrev pub state_asked : CacheTables → Linear → ℕ → ℕ → Result ℕ Refusal
state_asked t m h o = and_then (handled t.handles h) (λ (handle : CacheHandle). and_then (placed m o 4) (λ _. Ok handle.bits))

abbrev pub hit_of : CacheHandle → Result Hit Refusal
hit_of handle = some_or handle.hit status.None

-- what was found, and a place for a number of eight bytes
abbrev pub hit_asked : CacheTables → Linear → ℕ → ℕ → Result Hit Refusal
hit_asked t m h o = and_then (handled t.handles h) (λ (handle : CacheHandle). and_then (placed m o 8) (λ _. hit_of handle))

abbrev pub length_asked : CacheTables → Linear → ℕ → ℕ → Result ℕ Refusal
length_asked t m h o = and_then (hit_asked t m h o) (λ (hit : Hit). some_or hit.length status.None)

-- what was found, and a buffer
abbrev pub metadata_asked : CacheTables → Linear → ℕ → ℕ → ℕ → ℕ → Result Hit Refusal
metadata_asked t m h b room count =
    and_then (handled t.handles h) (λ (handle : CacheHandle).
    and_then (ranged m b room) (λ _. and_then (placed m count 4) (λ _. hit_of handle)))
