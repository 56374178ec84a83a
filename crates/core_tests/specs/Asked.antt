-- What a caller of a cache knows between two calls of one guest.
use Rattle.std.specs.Prelude.{◌≡◌, ℕ, true, false, List, IsTrue}
use Rattle.cache_types.specs.declared.calls.CacheCall.{CacheCall}
use Rattle.cache_types.specs.declared.entries.Entry.{Entry}
use Rattle.cache_types.specs.Entries.{newest_first, is_begin, is_end, is_live}
use Rattle.cache_types.specs.Legal.{IsLegal}
use Rattle.cache_types.specs.Limits.{is_within_limits}

-- the history is legal, and the guest is live
pub record HasGuest (history : List Entry) (guest : ℕ) : Type 0 where
  pub legal : IsLegal history
  pub live : is_live (newest_first history) guest ≡ true

-- a call that a live guest may make, and after which it is live
pub record MayMake (call : CacheCall) : Type 0 where
  pub limits : IsTrue (is_within_limits call)
  pub no_begin : is_begin call ≡ false
  pub no_end : is_end call ≡ false
