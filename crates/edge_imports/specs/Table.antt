-- The calls that a guest may import: by what module and name, and of what type.
use Rattle.std.specs.Prelude.{ℕ, Bool, ◌&&◌, List, [], ◌∷◌, codes, bytes_eq, replicate, Option, None, Some}
use Rattle.std.specs.List.{find}
use Rattle.wasm_types.specs.declared.types.ValueType.{ValueType}
use Rattle.wasm_types.specs.declared.types.ValueType.TheVariants.{I32, I64}
use Rattle.edge_imports.specs.declared.hostcall.Hostcall.{Hostcall}
use Rattle.edge_imports.specs.declared.find.TheConstants.{HOSTCALLS}
use Rattle.edge_imports.specs.declared.hostcall.Hostcall.TheVariants.{AbiInit, BodyNew, BodyAppend, BodyRead, BodyWrite, BodyClose, BodyAbandon, BodyKnownLength, RequestNew, RequestClose, RequestHeaderNamesGet, RequestHeaderValueGet, RequestHeaderValuesGet, RequestHeaderValuesSet, RequestHeaderInsert, RequestHeaderAppend, RequestHeaderRemove, RequestVersionGet, RequestVersionSet, RequestBodyDownstreamGet, RequestMethodGet, RequestMethodSet, RequestUriGet, RequestUriSet, ResponseNew, ResponseClose, ResponseHeaderNamesGet, ResponseHeaderValueGet, ResponseHeaderValuesGet, ResponseHeaderValuesSet, ResponseHeaderInsert, ResponseHeaderAppend, ResponseHeaderRemove, ResponseVersionGet, ResponseVersionSet, ResponseStatusGet, ResponseStatusSet, ResponseSendDownstream, DictionaryOpen, DictionaryGet, ConfigStoreOpen, ConfigStoreGet, SecretStoreOpen, SecretStoreGet, SecretStorePlaintext, LogEndpointGet, LogWrite, CacheLookup, CacheInsert, CacheTransactionLookup, CacheTransactionLookupAsync, CacheBusyHandleWait, CacheCloseBusy, CacheTransactionInsert, CacheTransactionInsertAndStreamBack, CacheTransactionUpdate, CacheTransactionCancel, CacheClose, CacheGetState, CacheGetUserMetadata, CacheGetLength, CacheGetMaxAgeNs, CacheGetStaleWhileRevalidateNs, CacheGetAgeNs, CacheGetBody, PurgeSurrogateKey, WasiProcExit, WasiFdWrite, WasiRandomGet, WasiClockTimeGet, WasiEnvironSizesGet, WasiArgsSizesGet, WasiEnvironGet, WasiArgsGet}

pub record Row : Type 0 where
  pub module_name : List ℕ
  pub name : List ℕ
  pub params : List ValueType
  pub result : Option ValueType

-- a call with so many parameters of 32 bits, which answers a status
abbrev pub asks : List ℕ → List ℕ → ℕ → Row
asks from name words = record { module_name = from; name = name; params = replicate words I32; result = Some I32 }

abbrev pub body : List ℕ → ℕ → Row
body name words = asks (codes "fastly_http_body") name words

abbrev pub req : List ℕ → ℕ → Row
req name words = asks (codes "fastly_http_req") name words

abbrev pub resp : List ℕ → ℕ → Row
resp name words = asks (codes "fastly_http_resp") name words

abbrev pub dictionary : List ℕ → ℕ → Row
dictionary name words = asks (codes "fastly_dictionary") name words

abbrev pub config : List ℕ → ℕ → Row
config name words = asks (codes "fastly_config_store") name words

abbrev pub secret : List ℕ → ℕ → Row
secret name words = asks (codes "fastly_secret_store") name words

abbrev pub log : List ℕ → ℕ → Row
log name words = asks (codes "fastly_log") name words

abbrev pub cache : List ℕ → ℕ → Row
cache name words = asks (codes "fastly_cache") name words

abbrev pub purge : List ℕ → ℕ → Row
purge name words = asks (codes "fastly_purge") name words

abbrev pub wasi : List ℕ → ℕ → Row
wasi name words = asks (codes "wasi_snapshot_preview1") name words

abbrev pub row_of : Hostcall → Row
row_of AbiInit = record { module_name = codes "fastly_abi"; name = codes "init"; params = I64 ∷ []; result = Some I32 }
row_of BodyNew = body (codes "new") 1
row_of BodyAppend = body (codes "append") 2
row_of BodyRead = body (codes "read") 4
row_of BodyWrite = body (codes "write") 5
row_of BodyClose = body (codes "close") 1
row_of BodyAbandon = body (codes "abandon") 1
row_of BodyKnownLength = body (codes "known_length") 2
row_of RequestNew = req (codes "new") 1
row_of RequestClose = req (codes "close") 1
row_of RequestHeaderNamesGet = req (codes "header_names_get") 6
row_of RequestHeaderValueGet = req (codes "header_value_get") 6
row_of RequestHeaderValuesGet = req (codes "header_values_get") 8
row_of RequestHeaderValuesSet = req (codes "header_values_set") 5
row_of RequestHeaderInsert = req (codes "header_insert") 5
row_of RequestHeaderAppend = req (codes "header_append") 5
row_of RequestHeaderRemove = req (codes "header_remove") 3
row_of RequestVersionGet = req (codes "version_get") 2
row_of RequestVersionSet = req (codes "version_set") 2
row_of RequestBodyDownstreamGet = req (codes "body_downstream_get") 2
row_of RequestMethodGet = req (codes "method_get") 4
row_of RequestMethodSet = req (codes "method_set") 3
row_of RequestUriGet = req (codes "uri_get") 4
row_of RequestUriSet = req (codes "uri_set") 3
row_of ResponseNew = resp (codes "new") 1
row_of ResponseClose = resp (codes "close") 1
row_of ResponseHeaderNamesGet = resp (codes "header_names_get") 6
row_of ResponseHeaderValueGet = resp (codes "header_value_get") 6
row_of ResponseHeaderValuesGet = resp (codes "header_values_get") 8
row_of ResponseHeaderValuesSet = resp (codes "header_values_set") 5
row_of ResponseHeaderInsert = resp (codes "header_insert") 5
row_of ResponseHeaderAppend = resp (codes "header_append") 5
row_of ResponseHeaderRemove = resp (codes "header_remove") 3
row_of ResponseVersionGet = resp (codes "version_get") 2
row_of ResponseVersionSet = resp (codes "version_set") 2
row_of ResponseStatusGet = resp (codes "status_get") 2
row_of ResponseStatusSet = resp (codes "status_set") 2
row_of ResponseSendDownstream = resp (codes "send_downstream") 3
row_of DictionaryOpen = dictionary (codes "open") 3
row_of DictionaryGet = dictionary (codes "get") 6
row_of ConfigStoreOpen = config (codes "open") 3
row_of ConfigStoreGet = config (codes "get") 6
row_of SecretStoreOpen = secret (codes "open") 3
row_of SecretStoreGet = secret (codes "get") 4
row_of SecretStorePlaintext = secret (codes "plaintext") 4
row_of LogEndpointGet = log (codes "endpoint_get") 3
row_of LogWrite = log (codes "write") 4
row_of CacheLookup = cache (codes "lookup") 5
row_of CacheInsert = cache (codes "insert") 5
row_of CacheTransactionLookup = cache (codes "transaction_lookup") 5
row_of CacheTransactionLookupAsync = cache (codes "transaction_lookup_async") 5
row_of CacheBusyHandleWait = cache (codes "cache_busy_handle_wait") 2
row_of CacheCloseBusy = cache (codes "close_busy") 1
row_of CacheTransactionInsert = cache (codes "transaction_insert") 4
row_of CacheTransactionInsertAndStreamBack = cache (codes "transaction_insert_and_stream_back") 5
row_of CacheTransactionUpdate = cache (codes "transaction_update") 3
row_of CacheTransactionCancel = cache (codes "transaction_cancel") 1
row_of CacheClose = cache (codes "close") 1
row_of CacheGetState = cache (codes "get_state") 2
row_of CacheGetUserMetadata = cache (codes "get_user_metadata") 4
row_of CacheGetLength = cache (codes "get_length") 2
row_of CacheGetMaxAgeNs = cache (codes "get_max_age_ns") 2
row_of CacheGetStaleWhileRevalidateNs = cache (codes "get_stale_while_revalidate_ns") 2
row_of CacheGetAgeNs = cache (codes "get_age_ns") 2
row_of CacheGetBody = cache (codes "get_body") 4
row_of PurgeSurrogateKey = purge (codes "purge_surrogate_key") 4
row_of WasiProcExit = record { module_name = codes "wasi_snapshot_preview1"; name = codes "proc_exit"; params = I32 ∷ []; result = None }
row_of WasiFdWrite = wasi (codes "fd_write") 4
row_of WasiRandomGet = wasi (codes "random_get") 2
row_of WasiClockTimeGet = record { module_name = codes "wasi_snapshot_preview1"; name = codes "clock_time_get"; params = I32 ∷ (I64 ∷ (I32 ∷ [])); result = Some I32 }
row_of WasiEnvironSizesGet = wasi (codes "environ_sizes_get") 2
row_of WasiArgsSizesGet = wasi (codes "args_sizes_get") 2
row_of WasiEnvironGet = wasi (codes "environ_get") 2
row_of WasiArgsGet = wasi (codes "args_get") 2

abbrev pub is_named : List ℕ → List ℕ → Hostcall → Bool
is_named from name call = bytes_eq (row_of call).module_name from && bytes_eq (row_of call).name name

-- the call of this module and name
unfoldable pub call_named : List ℕ → List ℕ → Option Hostcall
call_named from name = find (is_named from name) HOSTCALLS
