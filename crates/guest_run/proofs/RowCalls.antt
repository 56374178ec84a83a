-- What a row's call is not: neither Begin nor End, nor a call on a link.
use Rattle.std.proofs.Common.{◌≡◌, true, false, Some, List, refl}
use Rattle.cache_types.specs.declared.calls.CacheCall.{CacheCall}
use Rattle.cache_types.specs.declared.calls.CacheCall.TheVariants.{Begin, End}
use Rattle.cache_types.specs.declared.outer.OuterCall.{OuterCall}
use Rattle.cache_types.specs.declared.outer.OuterCall.TheVariants.{Cache, Now, Start, Poll, WaitFor, AnyOf, Head, Piece, Close as CloseAnswer, Log}
use Rattle.cache_types.specs.Entries.{is_begin, is_end}
use Rattle.edge_abi.specs.Goes.{MayMake, is_of_rows}
use Rattle.player.specs.Plays.{Answered, is_end_call}
use Rattle.player.specs.May.{MayAsk, is_empty}
use Rattle.body_calls.specs.Links.{asks_link}

no_end : (call : CacheCall) → is_of_rows call ≡ true → is_end call ≡ false
no_end End h = cc h
no_end _ h = refl

no_begin : (call : CacheCall) → is_of_rows call ≡ true → is_begin call ≡ false
no_begin Begin h = cc h
no_begin _ h = refl

pub row_no_end : (call : OuterCall) → MayMake call → is_end_call (Some call) ≡ false
row_no_end (Cache call) h = no_end call h.0
row_no_end (Now clock) h = refl
row_no_end (Start address request) h = refl
row_no_end (Poll ticket) h = refl
row_no_end (WaitFor ticket) h = refl
row_no_end (AnyOf tickets) h = refl
row_no_end (Head bytes) h = refl
row_no_end (Piece bytes) h = refl
row_no_end (CloseAnswer whole) h = refl
row_no_end (Log endpoint line) h = refl

-- behind its Begin a guest may make it
pub row_may : (trace : List Answered) (call : OuterCall) → is_empty trace ≡ false → MayMake call → asks_link call ≡ false → MayAsk trace call
row_may trace (Cache call) begun h unlinked = rw begun (no_begin call h.0, h.1)
row_may trace (Now clock) begun h unlinked = begun
row_may trace (Start address request) begun h unlinked = cc unlinked
row_may trace (Poll ticket) begun h unlinked = cc unlinked
row_may trace (WaitFor ticket) begun h unlinked = cc unlinked
row_may trace (AnyOf tickets) begun h unlinked = cc unlinked
row_may trace (Head bytes) begun h unlinked = begun
row_may trace (Piece bytes) begun h unlinked = begun
row_may trace (CloseAnswer whole) begun h unlinked = begun
row_may trace (Log endpoint line) begun h unlinked = begun
