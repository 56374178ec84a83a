-- Which calls stand.
use Rattle.std.specs.Prelude.{Option, Some}
use Rattle.edge_imports.specs.declared.hostcall.Hostcall.{Hostcall}
use Rattle.edge_imports.specs.declared.hostcall.Hostcall.TheVariants.{AbiInit, BodyNew, BodyAppend, BodyRead, BodyWrite, BodyClose, BodyAbandon, BodyKnownLength, RequestNew, RequestClose, RequestHeaderNamesGet, RequestHeaderValueGet, RequestHeaderValuesGet, RequestHeaderValuesSet, RequestHeaderInsert, RequestHeaderAppend, RequestHeaderRemove, RequestVersionGet, RequestVersionSet, RequestBodyDownstreamGet, RequestMethodGet, RequestMethodSet, RequestUriGet, RequestUriSet, ResponseNew, ResponseClose, ResponseHeaderNamesGet, ResponseHeaderValueGet, ResponseHeaderValuesGet, ResponseHeaderValuesSet, ResponseHeaderInsert, ResponseHeaderAppend, ResponseHeaderRemove, ResponseVersionGet, ResponseVersionSet, ResponseStatusGet, ResponseStatusSet, ResponseSendDownstream, DictionaryOpen, DictionaryGet, ConfigStoreOpen, ConfigStoreGet, SecretStoreOpen, SecretStoreGet, SecretStorePlaintext, LogEndpointGet, LogWrite, CacheLookup, CacheInsert, CacheTransactionLookup, CacheTransactionLookupAsync, CacheBusyHandleWait, CacheCloseBusy, CacheTransactionInsert, CacheTransactionInsertAndStreamBack, CacheTransactionUpdate, CacheTransactionCancel, CacheClose, CacheGetState, CacheGetUserMetadata, CacheGetLength, CacheGetMaxAgeNs, CacheGetStaleWhileRevalidateNs, CacheGetAgeNs, CacheGetBody, PurgeSurrogateKey, WasiProcExit, WasiFdWrite, WasiRandomGet, WasiClockTimeGet, WasiEnvironSizesGet, WasiArgsSizesGet, WasiEnvironGet, WasiArgsGet}
use Rattle.guest_calls.specs.declared.call.Call.{Call}
use Rattle.guest_calls.specs.declared.call.Call.TheVariants.{Exit, Row}
use Rattle.guest_calls.specs.declared.call.RowCall.TheVariants.{Http, Parts, Store, Wasi, Outside, Handle, Asking}
use Rattle.guest_calls.specs.declared.call.HttpCall.TheVariants.{Request, RequestHeaders, Response, ResponseHeaders, Body}
use Rattle.guest_calls.specs.declared.call.StoreCall.TheVariants as store_call
use Rattle.guest_calls.specs.declared.call.WasiCall.TheVariants as wasi_call
use Rattle.guest_calls.specs.declared.call.OutsideCall.TheVariants as outside_call
use Rattle.guest_calls.specs.declared.call.HandleCall.TheVariants as handle_call
use Rattle.guest_calls.specs.declared.call.AskingCall.TheVariants as asking_call
use Rattle.guest_calls.specs.declared.call.BodyCall.TheVariants as body_call
use Rattle.guest_calls.specs.declared.call.PartsCall.TheVariants as parts_call
use Rattle.guest_calls.specs.declared.call.RequestCall.TheVariants as request_call
use Rattle.guest_calls.specs.declared.call.ResponseCall.TheVariants as response_call
use Rattle.guest_calls.specs.declared.call.HeaderCall.TheVariants as header_call

-- the call, where its code stands
abbrev pub standing : Hostcall → Option Call
standing AbiInit = Some (Row (Store store_call.Init))
standing BodyNew = Some (Row (Http (Body body_call.New)))
standing BodyAppend = Some (Row (Parts parts_call.Append))
standing BodyRead = Some (Row (Parts parts_call.Read))
standing BodyWrite = Some (Row (Parts parts_call.Write))
standing BodyClose = Some (Row (Parts parts_call.Close))
standing BodyAbandon = Some (Row (Parts parts_call.Abandon))
standing BodyKnownLength = Some (Row (Http (Body body_call.KnownLength)))
standing RequestNew = Some (Row (Http (Request request_call.New)))
standing RequestClose = Some (Row (Http (Request request_call.Close)))
standing RequestHeaderNamesGet = Some (Row (Http (RequestHeaders header_call.NamesGet)))
standing RequestHeaderValueGet = Some (Row (Http (RequestHeaders header_call.ValueGet)))
standing RequestHeaderValuesGet = Some (Row (Http (RequestHeaders header_call.ValuesGet)))
standing RequestHeaderValuesSet = Some (Row (Http (RequestHeaders header_call.ValuesSet)))
standing RequestHeaderInsert = Some (Row (Http (RequestHeaders header_call.Insert)))
standing RequestHeaderAppend = Some (Row (Http (RequestHeaders header_call.Append)))
standing RequestHeaderRemove = Some (Row (Http (RequestHeaders header_call.Remove)))
standing RequestVersionGet = Some (Row (Http (Request request_call.VersionGet)))
standing RequestVersionSet = Some (Row (Http (Request request_call.VersionSet)))
standing RequestBodyDownstreamGet = Some (Row (Http (Request request_call.BodyDownstreamGet)))
standing RequestMethodGet = Some (Row (Http (Request request_call.MethodGet)))
standing RequestMethodSet = Some (Row (Http (Request request_call.MethodSet)))
standing RequestUriGet = Some (Row (Http (Request request_call.UriGet)))
standing RequestUriSet = Some (Row (Http (Request request_call.UriSet)))
standing ResponseNew = Some (Row (Http (Response response_call.New)))
standing ResponseClose = Some (Row (Http (Response response_call.Close)))
standing ResponseHeaderNamesGet = Some (Row (Http (ResponseHeaders header_call.NamesGet)))
standing ResponseHeaderValueGet = Some (Row (Http (ResponseHeaders header_call.ValueGet)))
standing ResponseHeaderValuesGet = Some (Row (Http (ResponseHeaders header_call.ValuesGet)))
standing ResponseHeaderValuesSet = Some (Row (Http (ResponseHeaders header_call.ValuesSet)))
standing ResponseHeaderInsert = Some (Row (Http (ResponseHeaders header_call.Insert)))
standing ResponseHeaderAppend = Some (Row (Http (ResponseHeaders header_call.Append)))
standing ResponseHeaderRemove = Some (Row (Http (ResponseHeaders header_call.Remove)))
standing ResponseVersionGet = Some (Row (Http (Response response_call.VersionGet)))
standing ResponseVersionSet = Some (Row (Http (Response response_call.VersionSet)))
standing ResponseStatusGet = Some (Row (Http (Response response_call.StatusGet)))
standing ResponseStatusSet = Some (Row (Http (Response response_call.StatusSet)))
standing ResponseSendDownstream = Some (Row (Parts parts_call.SendDownstream))
standing DictionaryOpen = Some (Row (Store store_call.DictionaryOpen))
standing DictionaryGet = Some (Row (Store store_call.DictionaryGet))
standing ConfigStoreOpen = Some (Row (Store store_call.ConfigStoreOpen))
standing ConfigStoreGet = Some (Row (Store store_call.ConfigStoreGet))
standing SecretStoreOpen = Some (Row (Store store_call.SecretStoreOpen))
standing SecretStoreGet = Some (Row (Store store_call.SecretStoreGet))
standing SecretStorePlaintext = Some (Row (Store store_call.SecretStorePlaintext))
standing LogEndpointGet = Some (Row (Store store_call.LogEndpointGet))
standing LogWrite = Some (Row (Outside outside_call.LogWrite))
standing CacheLookup = Some (Row (Asking asking_call.Lookup))
standing CacheInsert = Some (Row (Asking asking_call.Insert))
standing CacheTransactionLookup = Some (Row (Asking asking_call.TransactionLookup))
standing CacheTransactionLookupAsync = Some (Row (Handle handle_call.TransactionLookupAsync))
standing CacheBusyHandleWait = Some (Row (Asking asking_call.BusyHandleWait))
standing CacheCloseBusy = Some (Row (Handle handle_call.CloseBusy))
standing CacheTransactionInsert = Some (Row (Asking asking_call.TransactionInsert))
standing CacheTransactionInsertAndStreamBack = Some (Row (Asking asking_call.TransactionInsertAndStreamBack))
standing CacheTransactionUpdate = Some (Row (Asking asking_call.TransactionUpdate))
standing CacheTransactionCancel = Some (Row (Asking asking_call.TransactionCancel))
standing CacheClose = Some (Row (Asking asking_call.Close))
standing CacheGetState = Some (Row (Handle handle_call.GetState))
standing CacheGetUserMetadata = Some (Row (Handle handle_call.GetUserMetadata))
standing CacheGetLength = Some (Row (Handle handle_call.GetLength))
standing CacheGetMaxAgeNs = Some (Row (Handle handle_call.GetMaxAgeNs))
standing CacheGetStaleWhileRevalidateNs = Some (Row (Handle handle_call.GetStaleWhileRevalidateNs))
standing CacheGetAgeNs = Some (Row (Handle handle_call.GetAgeNs))
standing CacheGetBody = Some (Row (Handle handle_call.GetBody))
standing PurgeSurrogateKey = Some (Row (Asking asking_call.PurgeSurrogateKey))
standing WasiProcExit = Some Exit
standing WasiFdWrite = Some (Row (Outside outside_call.FdWrite))
standing WasiRandomGet = Some (Row (Wasi wasi_call.RandomGet))
standing WasiClockTimeGet = Some (Row (Outside outside_call.ClockTimeGet))
standing WasiEnvironSizesGet = Some (Row (Wasi wasi_call.EnvironSizesGet))
standing WasiArgsSizesGet = Some (Row (Wasi wasi_call.ArgsSizesGet))
standing WasiEnvironGet = Some (Row (Wasi wasi_call.EnvironGet))
standing WasiArgsGet = Some (Row (Wasi wasi_call.ArgsGet))
