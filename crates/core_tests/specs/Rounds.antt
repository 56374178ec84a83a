-- The calls of the rounds.
use Rattle.std.specs.Prelude.{ℕ, true, List, [], ◌∷◌, None}
use Rattle.std.specs.Int.{w64, to_be_bytes}
use Rattle.cache_types.specs.declared.calls.CacheCall.{CacheCall}
use Rattle.cache_types.specs.declared.calls.CacheCall.TheVariants.{Insert, Lookup, TxLookup, Purge}
use Rattle.cache_types.specs.declared.calls.Writing.{Writing}

-- the key of a number
abbrev pub key_of : ℕ → List ℕ
key_of n = to_be_bytes w64 n

-- an object that is fresh for one nanosecond and has its own key as its surrogate key
abbrev pub writing_of : ℕ → Writing
writing_of n = record { terms = record { max_age = 1; initial_age = 0; stale = 0; surrogates = key_of n ∷ []; metadata = [] }; rule = []; length = None }

abbrev pub insert_of : ℕ → CacheCall
insert_of n = Insert (key_of n) [] (writing_of n)

abbrev pub lookup_of : ℕ → CacheCall
lookup_of n = Lookup (key_of n) []

abbrev pub tx_lookup_of : ℕ → CacheCall
tx_lookup_of n = TxLookup (key_of n) []

abbrev pub purge_of : ℕ → CacheCall
purge_of n = Purge (key_of n) true
