-- What made a cache handle.
use Rattle.std.specs.Prelude.{Bool, true, false}
use Rattle.cache_calls.specs.declared.kinds.CacheKind.{CacheKind}
use Rattle.cache_calls.specs.declared.kinds.CacheKind.TheVariants as kind

-- a handle of a plain lookup, which is no transaction
abbrev pub is_plain : CacheKind → Bool
is_plain kind.Lookup = true
is_plain _ = false

-- a handle on an object that this guest writes
abbrev pub is_streamed : CacheKind → Bool
is_streamed kind.Streamed = true
is_streamed _ = false
