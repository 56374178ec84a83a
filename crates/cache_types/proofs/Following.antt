-- What may follow a history.
use Rattle.std.specs.Prelude.{◌≡◌, ℕ, false, not, List, [], ◌∷◌, ◌++◌, refl}
use Rattle.std.proofs.Common.{arith, ap, sym, subst}
use Rattle.std.proofs.lemmas.List.{reverse-append}
use Rattle.cache_types.specs.declared.calls.CacheCall.{CacheCall}
use Rattle.cache_types.specs.declared.calls.CacheCall.TheVariants.{Begin}
use Rattle.cache_types.specs.declared.entries.Entry.{Entry}
use Rattle.cache_types.specs.Entries.{newest_first, is_not_yet}
use Rattle.cache_types.specs.Legal.{IsLegalPast, IsLegal, IsNext, IsGuest}
use Rattle.cache_types.specs.Step.{IsCaller, entry_after, reply_after}

-- the guest of a call that may be made is the guest of its entry
pub caller-guest : (past : List Entry) (guest reading : ℕ) (call : CacheCall) → IsCaller past guest call → IsGuest past (entry_after past guest reading call) call
caller-guest past guest reading Begin caller = refl
caller-guest past guest reading _ caller = caller

-- an entry that is answered may follow
pub may-follow : (past : List Entry) (guest reading : ℕ) (call : CacheCall) → IsCaller past guest call → is_not_yet (reply_after past guest reading call) ≡ false → IsNext past (entry_after past guest reading call)
may-follow past guest reading call caller answered = record {
  number = refl;
  moment = omega arith;
  guest = caller-guest past guest reading call caller;
  reply = refl;
  answered = ap not answered;
}

-- what may follow a legal history makes a legal one
pub legal-push : (entries : List Entry) (e : Entry) → IsLegal entries → IsNext (newest_first entries) e → IsLegal (entries ++ e ∷ [])
legal-push entries e legal next = subst IsLegalPast (sym (reverse-append entries (e ∷ []))) (next, legal)
