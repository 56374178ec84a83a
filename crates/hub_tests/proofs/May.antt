-- What a caller's own pass says is what a call asks.
use Rattle.std.proofs.Common.{◌≡◌, ℕ, false, ◌==◌, ◌&&◌, true≢false, IfOk, IfSome, Option, Result, Ok, Err, sym, ap, subst}
use Rattle.turnstile.specs.Pass.{PassView}
use Rattle.cache_types.specs.declared.calls.CacheCall.{CacheCall}
use Rattle.cache_types.specs.declared.calls.CacheCall.TheVariants.{Begin}
use Rattle.cache_types.specs.declared.entries.Entry.{Entry}
use Rattle.cache_types.specs.declared.entries.Stepped.{Stepped}
use Rattle.cache_types.specs.Entries.{is_end}
use Rattle.cache_hub.specs.Calls.{HasGuest, MakesGuest, MayAsk}
use Rattle.hub_tests.specs.Asked.{MayMake, number_of}

pub may_ask : {T : Type 0} (pass : PassView T Entry) (guest : ℕ) (call : CacheCall) → HasGuest pass guest → MayMake call → MayAsk pass guest call
may_ask pass guest Begin has may = absurd (true≢false may.no_begin)
may_ask pass guest call has may = (has.opener, record { caller = has.live; limits = may.limits })

pub no_end : (guest : ℕ) (call : CacheCall) → MayMake call → (is_end call && (guest == guest)) ≡ false
no_end guest call may = ap (λ b. b && (guest == guest)) may.no_end

-- a Begin's number is that of a guest of the pass
pub made_guest : {T F : Type 0} (call : CacheCall) (answer : Result Stepped F) (guest : Option ℕ) (pass : PassView T Entry) → call ≡ Begin → IfOk answer (λ told. MakesGuest call told pass) → guest ≡ number_of answer → IfSome guest (HasGuest pass)
made_guest call (Ok told) guest pass begins makes number = subst (λ (o : Option ℕ). IfSome o (HasGuest pass)) (sym number) (makes begins)
made_guest call (Err fault) guest pass begins makes number = subst (λ (o : Option ℕ). IfSome o (HasGuest pass)) (sym number) tt
