-- The rows of `fastly_abi`, `fastly_dictionary`, `fastly_config_store` and `fastly_secret_store`.
use Rattle.std.specs.Prelude.{ℕ, ◌+◌, ◌==◌, not, List, [], ◌∷◌, ◌++◌, length, Option, Some, is_some, Result, Ok}
use Rattle.wasm_memory.specs.Linear.{Linear}
use Rattle.edge_abi.specs.declared.status.Status.TheVariants as status
use Rattle.edge_abi.specs.declared.status.Refusal.{Refusal}
use Rattle.edge_abi.specs.Memory.{octets_at, number_put}
use Rattle.edge_abi.specs.Refusals.{and_then, unless, ranged, placed, some_or, handled}
use Rattle.edge_abi.specs.Tables.{is_full}
use Rattle.edge_abi.specs.Buffers.{buffered}
use Rattle.edge_abi.specs.Told.{Row, judged, plain, done}
use Rattle.fastly_toml.specs.declared.settings.Settings.{Settings}
use Rattle.edge_stores.specs.Named.{Stores, store_named, text_named}
use Rattle.edge_stores.specs.declared.tables.StoreTables.{StoreTables}

-- init(version): this interface is version 1
abbrev pub abi_init : StoreTables → Linear → ℕ → Row StoreTables
abi_init t m version = judged t m (unless (version == 1) status.Unsupported) (λ _. done status.Ok t m)

-- there is a handle to give
abbrev pub room_in : {X : Type 0} → List (Option X) → Result (Unit {0}) Refusal
room_in table = unless (not (is_full table)) status.Limitexceeded

-- the name of a store that the settings have
abbrev pub open_asked : Stores → List (Option (List ℕ)) → Linear → ℕ → ℕ → ℕ → Result (List ℕ) Refusal
open_asked stores table m p n o =
    and_then (ranged m p n) (λ _.
    and_then (placed m o 4) (λ _.
    and_then (unless (is_some (store_named stores (octets_at m p n))) status.Badf) (λ _.
    and_then (room_in table) (λ _. Ok (octets_at m p n)))))

-- the text of a key, and a buffer
abbrev pub text_asked : Stores → List (Option (List ℕ)) → Linear → ℕ → ℕ → ℕ → ℕ → ℕ → ℕ → Result (List ℕ) Refusal
text_asked stores table m h p n b room count =
    and_then (handled table h) (λ name.
    and_then (ranged m p n) (λ _.
    and_then (ranged m b room) (λ _.
    and_then (placed m count 4) (λ _. some_or (text_named stores name (octets_at m p n)) status.None))))

-- ---- fastly_dictionary

-- open(p,n,o4)
abbrev pub dictionary_open : StoreTables → Settings → Linear → ℕ → ℕ → ℕ → Row StoreTables
dictionary_open t s m p n o =
    judged t m (open_asked s.dictionaries t.dictionaries m p n o)
    (λ name. done status.Ok (record t { dictionaries = t.dictionaries ++ Some name ∷ [] }) (number_put m o 4 (length t.dictionaries + 1)))

-- get(h,p,n,b,n,o4)
abbrev pub dictionary_get : StoreTables → Settings → Linear → ℕ → ℕ → ℕ → ℕ → ℕ → ℕ → Row StoreTables
dictionary_get t s m h p n b room count =
    judged t m (text_asked s.dictionaries t.dictionaries m h p n b room count) (λ text. plain t (buffered m b room count text))

-- ---- fastly_config_store

-- open(p,n,o4)
abbrev pub config_store_open : StoreTables → Settings → Linear → ℕ → ℕ → ℕ → Row StoreTables
config_store_open t s m p n o =
    judged t m (open_asked s.configs t.configs m p n o)
    (λ name. done status.Ok (record t { configs = t.configs ++ Some name ∷ [] }) (number_put m o 4 (length t.configs + 1)))

-- get(h,p,n,b,n,o4)
abbrev pub config_store_get : StoreTables → Settings → Linear → ℕ → ℕ → ℕ → ℕ → ℕ → ℕ → Row StoreTables
config_store_get t s m h p n b room count =
    judged t m (text_asked s.configs t.configs m h p n b room count) (λ text. plain t (buffered m b room count text))

-- ---- fastly_secret_store

-- open(p,n,o4)
abbrev pub secret_store_open : StoreTables → Settings → Linear → ℕ → ℕ → ℕ → Row StoreTables
secret_store_open t s m p n o =
    judged t m (open_asked s.secrets t.stores m p n o)
    (λ name. done status.Ok (record t { stores = t.stores ++ Some name ∷ [] }) (number_put m o 4 (length t.stores + 1)))

-- the bytes of a secret
abbrev pub secret_asked : StoreTables → Settings → Linear → ℕ → ℕ → ℕ → ℕ → Result (List ℕ) Refusal
secret_asked t s m h p n o =
    and_then (handled t.stores h) (λ name.
    and_then (ranged m p n) (λ _.
    and_then (placed m o 4) (λ _.
    and_then (some_or (text_named s.secrets name (octets_at m p n)) status.None) (λ secret.
    and_then (room_in t.secrets) (λ _. Ok secret)))))

-- get(h,p,n,o4)
abbrev pub secret_store_get : StoreTables → Settings → Linear → ℕ → ℕ → ℕ → ℕ → Row StoreTables
secret_store_get t s m h p n o =
    judged t m (secret_asked t s m h p n o)
    (λ secret. done status.Ok (record t { secrets = t.secrets ++ Some secret ∷ [] }) (number_put m o 4 (length t.secrets + 1)))

-- a secret, and a buffer
abbrev pub plaintext_asked : StoreTables → Linear → ℕ → ℕ → ℕ → ℕ → Result (List ℕ) Refusal
plaintext_asked t m h b room count =
    and_then (handled t.secrets h) (λ secret. and_then (ranged m b room) (λ _. and_then (placed m count 4) (λ _. Ok secret)))

-- plaintext(h,b,n,o4)
abbrev pub secret_store_plaintext : StoreTables → Linear → ℕ → ℕ → ℕ → ℕ → Row StoreTables
secret_store_plaintext t m h b room count =
    judged t m (plaintext_asked t m h b room count) (λ secret. plain t (buffered m b room count secret))
