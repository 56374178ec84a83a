-- The calls that a guest makes between its Begin and its End.
use Rattle.std.specs.Prelude.{◌≡◌, ℕ, false, IsTrue, Option, None, Some, Result, Ok, Err}
use Rattle.cache_types.specs.declared.calls.CacheCall.{CacheCall}
use Rattle.cache_types.specs.declared.entries.Stepped.{Stepped}
use Rattle.cache_types.specs.Entries.{is_begin, is_end}
use Rattle.cache_types.specs.Limits.{is_within_limits}

-- neither Begin nor End, and within the limits
pub record MayMake (call : CacheCall) : Type 0 where
  pub no_begin : is_begin call ≡ false
  pub no_end : is_end call ≡ false
  pub limits : IsTrue (is_within_limits call)

-- the number that was told
abbrev pub number_of : {F : Type 0} → Result Stepped F → Option ℕ
number_of (Ok told) = Some told.number
number_of (Err fault) = None
