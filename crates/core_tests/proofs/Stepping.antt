-- A step of a guest leaves it live, unless it is its End.
use Rattle.std.specs.Prelude.{◌≡◌, ℕ, Bool, true, false, ◌&&◌, ◌||◌, not, ◌==◌, List, [], ◌∷◌, ◌++◌, Option, Some, None, Result, Ok, Err, OnOk, OnErr, IfOk, refl}
use Rattle.std.proofs.Common.{sym, ap, ◌∙◌, subst}
use Rattle.std.specs.List.{list_any, cons_option}
use Rattle.std.proofs.lemmas.Bool.{and_parts, and_from, or_right}
use Rattle.std.proofs.lemmas.List.{reverse-append}
use Rattle.cache_types.specs.declared.calls.CacheCall.{CacheCall}
use Rattle.cache_types.specs.declared.calls.CacheCall.TheVariants.{Begin}
use Rattle.cache_types.specs.declared.entries.Entry.{Entry}
use Rattle.cache_types.specs.declared.entries.Stepped.{Stepped}
use Rattle.cache_types.specs.Entries.{newest_first, begun, begun_by, has_ended, is_begin, is_end, is_live, is_not_yet}
use Rattle.cache_types.specs.Legal.{IsLegal, IsLegalPast}
use Rattle.cache_types.specs.Step.{IsCaller, MayCall, entry_after, kept, history_after, stepped}
use Rattle.core_tests.specs.Asked.{HasGuest, MayMake}

caller : (past : List Entry) (guest : ℕ) (call : CacheCall) → is_begin call ≡ false → is_live past guest ≡ true → IsCaller past guest call
caller past guest Begin no_begin live = cc
caller past guest call no_begin live = live

any_more : (p : ℕ → Bool) (o : Option ℕ) (xs : List ℕ) → list_any p xs ≡ true → list_any p (cons_option o xs) ≡ true
any_more p None xs some = some
any_more p (Some x) xs some = or_right (p x) (list_any p xs) some

not_ended : (end mine ended : Bool) → end ≡ false → not ended ≡ true → not ((end && mine) || ended) ≡ true
not_ended true mine ended goes none = cc
not_ended false mine ended goes none = none

-- a guest that doesn't end goes on
going_live : (past : List Entry) (e : Entry) (guest : ℕ) → is_live past guest ≡ true → is_end e.call ≡ false → is_live (e ∷ past) guest ≡ true
going_live past e guest live goes =
    let parts = and_parts (list_any (λ x. x == guest) (begun past)) (not (has_ended past guest)) live in
    and_from _ _ (any_more (λ x. x == guest) (begun_by e) (begun past) parts.0) (not_ended (is_end e.call) (e.guest == guest) (has_ended past guest) goes parts.1)

-- a live guest may make the call
pub may_call : (history : List Entry) (guest : ℕ) (call : CacheCall) → HasGuest history guest → MayMake call → MayCall history guest call
may_call history guest call has may = record { caller = caller (newest_first history) guest call may.no_begin has.live; limits = may.limits }

live_kept : (history : List Entry) (guest : ℕ) (e : Entry) (none : Bool) → is_not_yet e.reply ≡ none → is_live (newest_first history) guest ≡ true → is_end e.call ≡ false → is_live (newest_first (kept history e)) guest ≡ true
live_kept history guest e true is live goes = rw is live
live_kept history guest e false is live goes = rw is (ap (λ l. is_live l guest) (reverse-append history (e ∷ [])) ∙ going_live (newest_first history) e guest live goes)

either : {A E : Type 0} (r : Result A E) (old new next : List Entry) (guest : ℕ) → OnOk r (new ≡ next) → OnErr r (new ≡ old) → is_live (newest_first old) guest ≡ true → is_live (newest_first next) guest ≡ true → is_live (newest_first new) guest ≡ true
either (Ok a) old new next guest made same before after = ap (λ h. is_live (newest_first h) guest) made ∙ after
either (Err e) old new next guest made same before after = ap (λ h. is_live (newest_first h) guest) same ∙ before

-- and is live after it
pub still_has : {A E : Type 0} (r : Result A E) (old new : List Entry) (guest reading : ℕ) (call : CacheCall) → OnOk r (new ≡ history_after old guest reading call) → OnErr r (new ≡ old) → IsLegal new → MayMake call → HasGuest old guest → HasGuest new guest
still_has r old new guest reading call made same legal may has = record {
  legal = legal;
  live = either r old new (history_after old guest reading call) guest made same has.live (live_kept old guest (entry_after (newest_first old) guest reading call) (is_not_yet (entry_after (newest_first old) guest reading call).reply) refl has.live may.no_end);
}

-- the first guest of a cache is live after its Begin
pub first_has : (old new : List Entry) (told : Stepped) → old ≡ [] → told ≡ stepped old 0 0 Begin → new ≡ history_after old 0 0 Begin → IsLegal new → HasGuest new told.number
first_has old new told none told_is new_is legal = record {
  legal = legal;
  live = ap (λ n. is_live (newest_first new) n) (ap (λ (s : Stepped). s.number) (told_is ∙ ap (λ h. stepped h 0 0 Begin) none))
      ∙ ap (λ h. is_live (newest_first h) 1) (new_is ∙ ap (λ h. history_after h 0 0 Begin) none);
}
