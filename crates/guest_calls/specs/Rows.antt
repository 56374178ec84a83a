-- The rows by their calls. An argument that isn't there, which linking excludes, is 0.
use Rattle.std.specs.Prelude.{ℕ, List, [], slice_get, Option, Some, false}
use Rattle.cache_types.specs.declared.calls.Field.{Field}
use Rattle.wasm_types.specs.declared.values.Value.{Value}
use Rattle.wasm_types.specs.declared.values.Value.TheVariants.{I32, I64}
use Rattle.wasm_memory.specs.Linear.{Linear}
use Rattle.edge_abi.specs.Told.{Told, Wants, Gives, Row, After}
use Rattle.edge_body.specs.Heads.{Request}
use Rattle.edge_http_calls.specs.declared.tables.HttpTables.{HttpTables}
use Rattle.edge_http_calls.specs.Tables.{request_fields, response_fields, with_request_fields, with_response_fields}
use Rattle.edge_http_calls.specs.Requests.{http_req_new, http_req_close, http_req_version_get, http_req_version_set, http_req_body_downstream_get, http_req_method_get, http_req_method_set, http_req_uri_get, http_req_uri_set}
use Rattle.edge_http_calls.specs.Responses.{http_resp_new, http_resp_close, http_resp_version_get, http_resp_version_set, http_resp_status_get, http_resp_status_set}
use Rattle.edge_http_calls.specs.Headers.{header_names_get, header_value_get, header_values_get, header_values_set, header_insert, header_append, header_remove}
use Rattle.edge_http_calls.specs.Bodies.{http_body_new, http_body_append, http_body_read, http_body_write, http_body_close, http_body_abandon, http_body_known_length}
use Rattle.rand_chacha.specs.ChaCha.{key_of}
use Rattle.fastly_toml.specs.declared.settings.Settings.{Settings}
use Rattle.edge_stores.specs.declared.tables.StoreTables.{StoreTables}
use Rattle.edge_stores.specs.Stores.{abi_init, dictionary_open, dictionary_get, config_store_open, config_store_get, secret_store_open, secret_store_get, secret_store_plaintext}
use Rattle.edge_stores.specs.Logs.{log_endpoint_get, log_write}
use Rattle.edge_stores.specs.Wasi.{wasi_proc_exit, wasi_fd_write, wasi_random_get, wasi_clock_time_get, wasi_sizes_get, wasi_lists_get}
use Rattle.cache_calls.specs.Tables.{HttpAndCache, both}
use Rattle.cache_calls.specs.Rows.{cache_lookup, cache_insert, cache_transaction_lookup, cache_transaction_lookup_async, cache_cache_busy_handle_wait, cache_close_busy, cache_transaction_insert, cache_transaction_insert_and_stream_back, cache_transaction_update, cache_transaction_cancel, cache_close, cache_get_state, cache_get_user_metadata, cache_get_length, cache_get_max_age_ns, cache_get_stale_while_revalidate_ns, cache_get_age_ns, cache_get_body, purge_purge_surrogate_key}
use Rattle.answer_calls.specs.Sends.{http_resp_send_downstream}
use Rattle.guest_calls.specs.declared.call.Call.{Call}
use Rattle.guest_calls.specs.declared.call.Call.TheVariants as calls
use Rattle.guest_calls.specs.declared.call.RowCall.{RowCall}
use Rattle.guest_calls.specs.declared.call.RowCall.TheVariants.{Http, Parts, Store, Wasi, Outside, Handle, Asking}
use Rattle.guest_calls.specs.declared.call.StoreCall.{StoreCall}
use Rattle.guest_calls.specs.declared.call.StoreCall.TheVariants as store
use Rattle.guest_calls.specs.declared.call.WasiCall.{WasiCall}
use Rattle.guest_calls.specs.declared.call.WasiCall.TheVariants as wasi
use Rattle.guest_calls.specs.declared.call.OutsideCall.{OutsideCall}
use Rattle.guest_calls.specs.declared.call.OutsideCall.TheVariants as outside
use Rattle.guest_calls.specs.declared.call.HandleCall.{HandleCall}
use Rattle.guest_calls.specs.declared.call.HandleCall.TheVariants as handle
use Rattle.guest_calls.specs.declared.call.AskingCall.{AskingCall}
use Rattle.guest_calls.specs.declared.call.AskingCall.TheVariants as asking
use Rattle.guest_calls.specs.declared.call.HttpCall.{HttpCall}
use Rattle.guest_calls.specs.declared.call.HttpCall.TheVariants as http
use Rattle.guest_calls.specs.declared.call.BodyCall.{BodyCall}
use Rattle.guest_calls.specs.declared.call.BodyCall.TheVariants as body
use Rattle.guest_calls.specs.declared.call.PartsCall.{PartsCall}
use Rattle.guest_calls.specs.declared.call.PartsCall.TheVariants as parts
use Rattle.guest_calls.specs.declared.call.RequestCall.{RequestCall}
use Rattle.guest_calls.specs.declared.call.RequestCall.TheVariants as request
use Rattle.guest_calls.specs.declared.call.ResponseCall.{ResponseCall}
use Rattle.guest_calls.specs.declared.call.ResponseCall.TheVariants as response
use Rattle.guest_calls.specs.declared.call.HeaderCall.{HeaderCall}
use Rattle.guest_calls.specs.declared.call.HeaderCall.TheVariants.{NamesGet, ValueGet, ValuesGet, ValuesSet, Insert, Append, Remove}
use Rattle.guest_calls.specs.declared.tables.GuestTables.{GuestTables}
use Rattle.guest_calls.specs.declared.words.Words.{Words}

-- ---- arguments

abbrev pub word_in : Option Value → ℕ
word_in (Some (I32 number)) = number
word_in _ = 0

abbrev pub long_in : Option Value → ℕ
long_in (Some (I64 number)) = number
long_in _ = 0

-- the argument of 32 bits at a place, and that of 64
abbrev pub word : List Value → ℕ → ℕ
word arguments place = word_in (slice_get arguments place)

abbrev pub long : List Value → ℕ → ℕ
long arguments place = long_in (slice_get arguments place)

-- the first eight of 32 bits
abbrev pub words_of : List Value → Words
words_of a = record { a = word a 0; b = word a 1; c = word a 2; d = word a 3; e = word a 4; f = word a 5; g = word a 6; h = word a 7 }

-- ---- requests, responses, bodies

abbrev pub request_row : RequestCall → Words → HttpTables → Linear → Row HttpTables
request_row request.New w t m = http_req_new t m w.a
request_row request.Close w t m = http_req_close t m w.a
request_row request.VersionGet w t m = http_req_version_get t m w.a w.b
request_row request.VersionSet w t m = http_req_version_set t m w.a w.b
request_row request.BodyDownstreamGet w t m = http_req_body_downstream_get t m w.a w.b
request_row request.MethodGet w t m = http_req_method_get t m w.a w.b w.c w.d
request_row request.MethodSet w t m = http_req_method_set t m w.a w.b w.c
request_row request.UriGet w t m = http_req_uri_get t m w.a w.b w.c w.d
request_row request.UriSet w t m = http_req_uri_set t m w.a w.b w.c

abbrev pub response_row : ResponseCall → Words → HttpTables → Linear → Row HttpTables
response_row response.New w t m = http_resp_new t m w.a
response_row response.Close w t m = http_resp_close t m w.a
response_row response.VersionGet w t m = http_resp_version_get t m w.a w.b
response_row response.VersionSet w t m = http_resp_version_set t m w.a w.b
response_row response.StatusGet w t m = http_resp_status_get t m w.a w.b
response_row response.StatusSet w t m = http_resp_status_set t m w.a w.b

-- the rows on headers: those that the handle names, and the tables with others
abbrev pub header_row : HeaderCall → Option (List Field) → (List Field → HttpTables) → Words → HttpTables → Linear → Row HttpTables
header_row NamesGet fields given w t m = header_names_get fields t m w.b w.c w.d w.e w.f
header_row ValueGet fields given w t m = header_value_get fields t m w.b w.c w.d w.e w.f
header_row ValuesGet fields given w t m = header_values_get fields t m w.b w.c w.d w.e w.f w.g w.h
header_row ValuesSet fields given w t m = header_values_set given fields t m w.b w.c w.d w.e
header_row Insert fields given w t m = header_insert given fields t m w.b w.c w.d w.e
header_row Append fields given w t m = header_append given fields t m w.b w.c w.d w.e
header_row Remove fields given w t m = header_remove given fields t m w.b w.c

abbrev pub request_headers : HeaderCall → Words → HttpTables → Linear → Row HttpTables
request_headers call w t m = header_row call (request_fields t w.a) (with_request_fields t w.a) w t m

abbrev pub response_headers : HeaderCall → Words → HttpTables → Linear → Row HttpTables
response_headers call w t m = header_row call (response_fields t w.a) (with_response_fields t w.a) w t m

abbrev pub body_row : BodyCall → Words → HttpTables → Linear → Row HttpTables
body_row body.New w t m = http_body_new t m w.a
body_row body.KnownLength w t m = http_body_known_length t m w.a w.b

abbrev pub http_row : HttpCall → Words → HttpTables → Linear → Row HttpTables
http_row (http.Request call) w t m = request_row call w t m
http_row (http.RequestHeaders call) w t m = request_headers call w t m
http_row (http.Response call) w t m = response_row call w t m
http_row (http.ResponseHeaders call) w t m = response_headers call w t m
http_row (http.Body call) w t m = body_row call w t m

-- ---- the parts of bodies; the answer's head is told for the request that came

abbrev pub parts_row : PartsCall → Request → Words → HttpTables → Linear → Row HttpTables
parts_row parts.Append request w t m = http_body_append t m w.a w.b
parts_row parts.Read request w t m = http_body_read t m w.a w.b w.c w.d
parts_row parts.Write request w t m = http_body_write t m w.a w.b w.c w.d w.e
parts_row parts.Close request w t m = http_body_close t m w.a
parts_row parts.Abandon request w t m = http_body_abandon t m w.a
parts_row parts.SendDownstream request w t m = http_resp_send_downstream request t m w.a w.b w.c

-- ---- stores, logs and WASI

-- the rows that make no outer call; an `init` has its version in the one argument of 64 bits
abbrev pub store_row : StoreCall → ℕ → Words → StoreTables → Settings → Linear → Row StoreTables
store_row store.Init version w t s m = abi_init t m version
store_row store.DictionaryOpen version w t s m = dictionary_open t s m w.a w.b w.c
store_row store.DictionaryGet version w t s m = dictionary_get t s m w.a w.b w.c w.d w.e w.f
store_row store.ConfigStoreOpen version w t s m = config_store_open t s m w.a w.b w.c
store_row store.ConfigStoreGet version w t s m = config_store_get t s m w.a w.b w.c w.d w.e w.f
store_row store.SecretStoreOpen version w t s m = secret_store_open t s m w.a w.b w.c
store_row store.SecretStoreGet version w t s m = secret_store_get t s m w.a w.b w.c w.d
store_row store.SecretStorePlaintext version w t s m = secret_store_plaintext t m w.a w.b w.c w.d
store_row store.LogEndpointGet version w t s m = log_endpoint_get t m w.a w.b w.c

abbrev pub wasi_row : WasiCall → Words → StoreTables → Linear → Row StoreTables
wasi_row wasi.RandomGet w t m = wasi_random_get t m w.a w.b
wasi_row wasi.EnvironSizesGet w t m = wasi_sizes_get t m w.a w.b
wasi_row wasi.ArgsSizesGet w t m = wasi_sizes_get t m w.a w.b
wasi_row wasi.EnvironGet w t m = wasi_lists_get t m w.a w.b
wasi_row wasi.ArgsGet w t m = wasi_lists_get t m w.a w.b

-- a line that is logged, a clock that is read; the clock's precision, of 64 bits, isn't looked at
abbrev pub outside_row : OutsideCall → Words → StoreTables → Linear → Row StoreTables
outside_row outside.LogWrite w t m = log_write t m w.a w.b w.c w.d
outside_row outside.FdWrite w t m = wasi_fd_write t m w.a w.b w.c w.d
outside_row outside.ClockTimeGet w t m = wasi_clock_time_get t m w.a w.c

-- ---- the cache

-- the rows that ask it nothing
abbrev pub handle_row : HandleCall → Words → HttpAndCache → Linear → Row HttpAndCache
handle_row handle.TransactionLookupAsync w t m = cache_transaction_lookup_async t m w.a w.b w.c w.d w.e
handle_row handle.CloseBusy w t m = cache_close_busy t m w.a
handle_row handle.GetState w t m = cache_get_state t m w.a w.b
handle_row handle.GetUserMetadata w t m = cache_get_user_metadata t m w.a w.b w.c w.d
handle_row handle.GetLength w t m = cache_get_length t m w.a w.b
handle_row handle.GetMaxAgeNs w t m = cache_get_max_age_ns t m w.a w.b
handle_row handle.GetStaleWhileRevalidateNs w t m = cache_get_stale_while_revalidate_ns t m w.a w.b
handle_row handle.GetAgeNs w t m = cache_get_age_ns t m w.a w.b
handle_row handle.GetBody w t m = cache_get_body t m w.a w.b w.d

abbrev pub asking_row : AskingCall → Words → HttpAndCache → Linear → Row HttpAndCache
asking_row asking.Lookup w t m = cache_lookup t m w.a w.b w.c w.d w.e
asking_row asking.Insert w t m = cache_insert t m w.a w.b w.c w.d w.e
asking_row asking.TransactionLookup w t m = cache_transaction_lookup t m w.a w.b w.c w.d w.e
asking_row asking.BusyHandleWait w t m = cache_cache_busy_handle_wait t m w.a w.b
asking_row asking.TransactionInsert w t m = cache_transaction_insert t m w.a w.b w.c w.d
asking_row asking.TransactionInsertAndStreamBack w t m = cache_transaction_insert_and_stream_back t m w.a w.b w.c w.d w.e
asking_row asking.TransactionUpdate w t m = cache_transaction_update t m w.a w.b w.c
asking_row asking.TransactionCancel w t m = cache_transaction_cancel t m w.a
asking_row asking.Close w t m = cache_close t m w.a
asking_row asking.PurgeSurrogateKey w t m = purge_purge_surrogate_key t m w.a w.b w.c

-- ---- all calls that stand

-- what a row on some of the tables comes to, among all of them
abbrev pub among : {T : Type 0} → (T → GuestTables) → Told (After T) → Told (After GuestTables)
among put (Wants call) = Wants call
among put (Gives after replies) = Gives (record { answer = after.answer; tables = put after.tables; memory = after.memory }) replies

-- all tables with these, and a row on them
abbrev pub with_http : GuestTables → HttpTables → GuestTables
with_http t http = record t { http = http }

abbrev pub on_http : (HttpTables → Linear → Row HttpTables) → GuestTables → Linear → Row GuestTables
on_http row t m replies = among (with_http t) (row t.http m replies)

abbrev pub with_stores : GuestTables → StoreTables → GuestTables
with_stores t stores = record t { stores = stores }

abbrev pub on_stores : (StoreTables → Linear → Row StoreTables) → GuestTables → Linear → Row GuestTables
on_stores row t m replies = among (with_stores t) (row t.stores m replies)

abbrev pub with_cache : GuestTables → HttpAndCache → GuestTables
with_cache t these = record t { http = these.http; cache = these.cache }

abbrev pub on_cache : (HttpAndCache → Linear → Row HttpAndCache) → GuestTables → Linear → Row GuestTables
on_cache row t m replies = among (with_cache t) (row (both t.http t.cache) m replies)

-- the row of a call with these arguments, and the version that it may have
abbrev pub started : RowCall → ℕ → Words → GuestTables → Linear → Row GuestTables
started (Http call) version w t m = on_http (http_row call w) t m
started (Parts call) version w t m = on_http (parts_row call t.request w) t m
started (Store call) version w t m = on_stores (λ stores memory. store_row call version w stores t.settings memory) t m
started (Wasi call) version w t m = on_stores (wasi_row call w) t m
started (Outside call) version w t m = on_stores (outside_row call w) t m
started (Handle call) version w t m = on_cache (handle_row call w) t m
started (Asking call) version w t m = on_cache (asking_row call w) t m

abbrev pub called : RowCall → List Value → GuestTables → Linear → Row GuestTables
called call a t m = started call (long a 0) (words_of a) t m

-- proc_exit(code)
abbrev pub exited : ℕ → GuestTables → Linear → Row GuestTables
exited code t m = on_stores (λ stores memory. wasi_proc_exit stores memory code) t m

abbrev pub row_of : Call → List Value → GuestTables → Linear → Row GuestTables
row_of calls.Exit a t m = exited (word a 0) t m
row_of (calls.Row call) a t m = called call a t m

-- What a guest has when it begins to answer a request: its random words are those of the service's seed, in the stream with its
-- index.
abbrev pub first_tables : Settings → List ℕ → ℕ → Request → List ℕ → GuestTables
first_tables settings random index head bytes = record {
  http = record { requests = []; responses = []; bodies = []; head = Some head; body = Some bytes; answered = false };
  cache = record { handles = []; busy = [] };
  stores = record { dictionaries = []; configs = []; stores = []; secrets = []; endpoints = []; random = record { key = key_of random; stream = index; word_pos = 0 } };
  settings = settings;
  request = head;
}
