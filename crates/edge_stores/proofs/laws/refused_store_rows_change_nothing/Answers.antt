use Rattle.std.specs.Prelude.{◌+◌, ◌==◌, [], ◌∷◌, ◌++◌, length, min, Some, refl}
use Rattle.cache_types.specs.declared.outer.OuterCall.TheVariants as call
use Rattle.edge_abi.specs.declared.status.Status.TheVariants as status
use Rattle.edge_abi.specs.Buffers.{buffered, octets_put}
use Rattle.edge_abi.specs.Memory.{put, number_put, octets_at}
use Rattle.edge_abi.specs.Refusals.{unless}
use Rattle.edge_abi.specs.Told.{done, plain, ask}
use Rattle.edge_abi.proofs.Quiet.{judged-quiet, judged-quiet_but, plainly-quiet_but, ask-quiet}
use Rattle.edge_stores.specs.Stores.{open_asked, text_asked, secret_asked, plaintext_asked}
use Rattle.edge_stores.specs.Logs.{endpoint_asked, line_asked, logging}
use Rattle.edge_stores.specs.Wasi.{write_asked, writing, random_asked, random_bytes, clock_asked, sizes_asked, lists_asked}
use Rattle.edge_stores.specs.declared.vectors.Line.{Line}
use Rattle.edge_stores.specs.Numbers.{succeeds}
use Rattle.edge_stores.specs.UnderWays.{resumed}
use Rattle.edge_stores.specs.declared.under_way.UnderWay.TheVariants.{Logging, Writing, Timing}
use Rattle.edge_stores.proofs.Quiet.{allowed-quiet, success-quiet, resumed-quiet}
use Rattle.edge_stores.proofs.laws.refused_store_rows_change_nothing.Goals as goal

pub returns-clause-init : goal.returns-clause-init
returns-clause-init c = λ t m version. judged-quiet t m (unless (version == 1) status.Unsupported) (λ _. done status.Ok t m) (λ x replies bad. absurd (bad refl))

pub returns-clause-dictionary_open : goal.returns-clause-dictionary_open
returns-clause-dictionary_open c = λ t s m p n o. judged-quiet t m (open_asked s.dictionaries t.dictionaries m p n o) (λ name. done status.Ok (record t { dictionaries = t.dictionaries ++ Some name ∷ [] }) (number_put m o 4 (length t.dictionaries + 1))) (λ x replies bad. absurd (bad refl))

pub returns-clause-dictionary_get : goal.returns-clause-dictionary_get
returns-clause-dictionary_get c = λ t s m h p n b room count. judged-quiet_but t m (text_asked s.dictionaries t.dictionaries m h p n b room count) (λ text. plain t (buffered m b room count text)) (λ text. plainly-quiet_but t m count (octets_put m b room count text))

pub returns-clause-config_open : goal.returns-clause-config_open
returns-clause-config_open c = λ t s m p n o. judged-quiet t m (open_asked s.configs t.configs m p n o) (λ name. done status.Ok (record t { configs = t.configs ++ Some name ∷ [] }) (number_put m o 4 (length t.configs + 1))) (λ x replies bad. absurd (bad refl))

pub returns-clause-config_get : goal.returns-clause-config_get
returns-clause-config_get c = λ t s m h p n b room count. judged-quiet_but t m (text_asked s.configs t.configs m h p n b room count) (λ text. plain t (buffered m b room count text)) (λ text. plainly-quiet_but t m count (octets_put m b room count text))

pub returns-clause-secret_open : goal.returns-clause-secret_open
returns-clause-secret_open c = λ t s m p n o. judged-quiet t m (open_asked s.secrets t.stores m p n o) (λ name. done status.Ok (record t { stores = t.stores ++ Some name ∷ [] }) (number_put m o 4 (length t.stores + 1))) (λ x replies bad. absurd (bad refl))

pub returns-clause-secret_get : goal.returns-clause-secret_get
returns-clause-secret_get c = λ t s m h p n o. judged-quiet t m (secret_asked t s m h p n o) (λ secret. done status.Ok (record t { secrets = t.secrets ++ Some secret ∷ [] }) (number_put m o 4 (length t.secrets + 1))) (λ x replies bad. absurd (bad refl))

pub returns-clause-plaintext : goal.returns-clause-plaintext
returns-clause-plaintext c = λ t m h b room count. judged-quiet_but t m (plaintext_asked t m h b room count) (λ secret. plain t (buffered m b room count secret)) (λ secret. plainly-quiet_but t m count (octets_put m b room count secret))

pub returns-clause-endpoint_get : goal.returns-clause-endpoint_get
returns-clause-endpoint_get c = λ t m p n o. judged-quiet t m (endpoint_asked t m p n o) (λ name. done status.Ok (record t { endpoints = t.endpoints ++ Some name ∷ [] }) (number_put m o 4 (length t.endpoints + 1))) (λ x replies bad. absurd (bad refl))

pub returns-clause-log_write : goal.returns-clause-log_write
returns-clause-log_write c = λ t m h p n o. judged-quiet t m (line_asked t m h p n o) (logging t m p n o) (λ name. ask-quiet t m (call.Log name (octets_at m p (min n 65536))) (resumed (Logging (min n 65536) o) t m) (resumed-quiet (Logging (min n 65536) o) t m))

pub returns-clause-fd_write : goal.returns-clause-fd_write
returns-clause-fd_write c = λ t m fd p count o. allowed-quiet t m (write_asked m fd p count o) (writing t m o) (λ (line : Line). ask-quiet t m (call.Log line.endpoint line.bytes) (resumed (Writing (length line.bytes) o) t m) (resumed-quiet (Writing (length line.bytes) o) t m))

pub returns-clause-random_get : goal.returns-clause-random_get
returns-clause-random_get c = λ t m p n. allowed-quiet t m (random_asked m p n) (λ _. succeeds (record t { random = (random_bytes n t.random).1 }) (put m p (random_bytes n t.random).0)) (λ x. success-quiet t (record t { random = (random_bytes n t.random).1 }) m (put m p (random_bytes n t.random).0))

pub returns-clause-clock_time_get : goal.returns-clause-clock_time_get
returns-clause-clock_time_get c = λ t m id o. allowed-quiet t m (clock_asked m id o) (λ _. ask (call.Now id) (resumed (Timing o) t m)) (λ x. ask-quiet t m (call.Now id) (resumed (Timing o) t m) (resumed-quiet (Timing o) t m))

pub returns-clause-sizes_get : goal.returns-clause-sizes_get
returns-clause-sizes_get c = λ t m o p. allowed-quiet t m (sizes_asked m o p) (λ _. succeeds t (number_put (number_put m o 4 0) p 4 0)) (λ x. success-quiet t t m (number_put (number_put m o 4 0) p 4 0))

pub returns-clause-lists_get : goal.returns-clause-lists_get
returns-clause-lists_get c = λ t m p q. allowed-quiet t m (lists_asked m p q) (λ _. succeeds t m) (λ x. success-quiet t t m m)
