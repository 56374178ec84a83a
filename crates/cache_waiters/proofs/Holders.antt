-- Which transaction holds a goal: the newest that ever had it, or none.
use Rattle.std.specs.Prelude.{◌≡◌, ℕ, Bool, true, false, cond, not, ◌||◌, List, [], ◌∷◌, filter, Option, Some, None, refl, if◌then◌else◌}
use Rattle.std.specs.List.{list_any, cons_option}
use Rattle.std.specs.Option.{option_map_or}
use Rattle.std.proofs.Common.{sym, ap, ◌∙◌, subst}
use Rattle.std.proofs.lemmas.Bool.{or_parts}
use Rattle.cache_types.specs.declared.calls.CacheCall.{CacheCall}
use Rattle.cache_types.specs.declared.calls.CacheCall.TheVariants.{TxLookup}
use Rattle.cache_types.specs.declared.entries.Entry.{Entry}
use Rattle.cache_types.specs.declared.replies.Reply.{Reply}
use Rattle.cache_types.specs.Entries.{is_told_to_insert}
use Rattle.cache_types.specs.Slots.{Slot, same_slot}
use Rattle.cache_slots.specs.SlotOrder.{slots_equiv}
use Rattle.cache_types.specs.Transactions.{Transaction, transactions, ends, is_over, is_open, open_transactions, goal_of, is_held}
use Rattle.cache_types.specs.Answer.{answer, finding}
use Rattle.cache_types.specs.Legal.{IsLegalPast}
use Rattle.cache_types.proofs.Lists.{by_test, filter_both}
use Rattle.cache_types.proofs.Goals.{made_of, told_is_free}
use Rattle.cache_waiters.specs.Holding.{newest_with, holder_by, held_by}

filter_same : {X : Type 0} (p q : X → Bool) (xs : List X) → filter p (filter q xs) ≡ filter q (filter p xs)
filter_same p q [] = refl
filter_same {X} p q (x ∷ xs) = case (p x) (q x) refl refl (filter_same p q xs)
  where
    case : (a b : Bool) → p x ≡ a → q x ≡ b → filter p (filter q xs) ≡ filter q (filter p xs) → filter p (cond b (x ∷ filter q xs) (filter q xs)) ≡ filter q (cond a (x ∷ filter p xs) (filter p xs))
    case true true e f rest = rw (e, f) (ap (λ l. x ∷ l) rest)
    case true false e f rest = rw f rest
    case false true e f rest = rw e rest
    case false false e f rest = rest

abbrev is_empty : {X : Type 0} → List X → Bool
is_empty [] = true
is_empty (x ∷ xs) = false

filter_none : {X : Type 0} (p : X → Bool) (xs : List X) → list_any p xs ≡ false → filter p xs ≡ []
filter_none p [] none = refl
filter_none p (x ∷ xs) none =
    let parts = or_parts (p x) (list_any p xs) none in rw parts.0 (filter_none p xs parts.1)

filter_alike : {X : Type 0} (p q : X → Bool) → ((x : X) → p x ≡ q x) → (xs : List X) → filter p xs ≡ filter q xs
filter_alike p q same [] = refl
filter_alike p q same (x ∷ xs) = rw (same x) (ap (λ l. cond (q x) (x ∷ l) l) (filter_alike p q same xs))

-- the open ones with the slot as their goal
abbrev holders : List Entry → Slot → List Transaction
holders past slot = filter (λ (t : Transaction). same_slot t.goal slot) (open_transactions past)

left_out : (out over : Transaction → Bool) (o : Option Transaction) → filter (λ t. not (out t)) (holder_by (λ t. not (over t)) o) ≡ holder_by (λ t. not (out t || over t)) o
left_out out over None = refl
left_out out over (Some t) =
    by_test (over t) (λ h. rw h (by_test (out t) (λ k. rw k refl) (λ k. rw k refl))) (λ h. rw h (by_test (out t) (λ k. rw k refl) (λ k. rw k refl)))

alike : (t : Transaction) (slot : Slot) → same_slot t.goal slot ≡ true → (u : Transaction) → same_slot u.goal slot ≡ same_slot u.goal t.goal
alike t slot is u = slots_equiv.symm u.goal slot ∙ sym (slots_equiv.congr t.goal slot u.goal is) ∙ slots_equiv.symm t.goal u.goal

-- a transaction whose goal nobody held
opened : (past : List Entry) (t : Transaction) (slot : Slot) (same free_now : Bool) → same_slot t.goal slot ≡ same → is_open past t ≡ free_now → is_held past t.goal ≡ false → holders past slot ≡ holder_by (is_open past) (newest_with (transactions past) slot)
    → filter (λ (u : Transaction). same_slot u.goal slot) (cond free_now (t ∷ open_transactions past) (open_transactions past)) ≡ holder_by (is_open past) (cond same (Some t) (newest_with (transactions past) slot))
opened past t slot true true is op free rest =
    rw (is, op) (ap (λ l. t ∷ l) (filter_alike _ _ (alike t slot is) (open_transactions past) ∙ filter_none (λ (u : Transaction). same_slot u.goal t.goal) (open_transactions past) free))
opened past t slot true false is op free rest =
    rw (op) (filter_alike _ _ (alike t slot is) (open_transactions past) ∙ filter_none (λ (u : Transaction). same_slot u.goal t.goal) (open_transactions past) free)
opened past t slot false true is op free rest = rw is rest
opened past t slot false false is op free rest = rest

told_more : (past : List Entry) (slot : Slot) (told : Bool) (t : Transaction) → (told ≡ true → is_held past t.goal ≡ false) → holders past slot ≡ holder_by (is_open past) (newest_with (transactions past) slot)
    → filter (λ (u : Transaction). same_slot u.goal slot) (filter (is_open past) (cons_option (if told then Some t else None) (transactions past))) ≡ holder_by (is_open past) (newest_with (cons_option (if told then Some t else None) (transactions past)) slot)
told_more past slot true t free rest = opened past t slot (same_slot t.goal slot) (is_open past t) refl refl (free refl) rest
told_more past slot false t free rest = rest

holders_step : (past : List Entry) (n g m : ℕ) (call : CacheCall) (reply : Reply) (slot : Slot) → reply ≡ answer past g m call → holders past slot ≡ holder_by (is_open past) (newest_with (transactions past) slot)
    → holders (made_of n g m call reply ∷ past) slot ≡ holder_by (is_open (made_of n g m call reply ∷ past)) (newest_with (transactions (made_of n g m call reply ∷ past)) slot)
holders_step past n g m (TxLookup key headers) reply slot is rest =
    told_more past slot (is_told_to_insert reply) (record { number = n; guest = g; goal = goal_of past key headers })
    (λ bit. told_is_free past (is_held past (goal_of past key headers)) (finding past m key headers) (subst (λ r. is_told_to_insert r ≡ true) is bit)) rest
holders_step past n g m call reply slot is rest =
    let e = made_of n g m call reply in
    let out : Transaction → Bool = λ (t : Transaction). ends t.number t.guest e in
    let over : Transaction → Bool = λ (t : Transaction). is_over past t.number t.guest in
    ap (filter (λ (t : Transaction). same_slot t.goal slot)) (filter_both out over (transactions past))
    ∙ filter_same (λ (t : Transaction). same_slot t.goal slot) (λ t. not (out t)) (open_transactions past)
    ∙ ap (filter (λ t. not (out t))) rest
    ∙ left_out out over (newest_with (transactions past) slot)

-- the open transactions with a goal: the newest that ever had it, where it is open, and no other
pub holders_are : (past : List Entry) → IsLegalPast past → (slot : Slot) → holders past slot ≡ holder_by (is_open past) (newest_with (transactions past) slot)
holders_are [] h slot = refl
holders_are (e ∷ past) h slot = holders_step past e.number e.guest e.moment e.call e.reply slot h.0.reply (holders_are past h.1 slot)

any_is : {X : Type 0} (p : X → Bool) (xs : List X) → list_any p xs ≡ not (is_empty (filter p xs))
any_is p [] = refl
any_is p (x ∷ xs) = by_test (p x) (λ h. rw h refl) (λ h. rw h (any_is p xs))

one_is : (test : Transaction → Bool) (o : Option Transaction) → not (is_empty (holder_by test o)) ≡ option_map_or test o false
one_is test None = refl
one_is test (Some t) = by_test (test t) (λ h. rw h refl) (λ h. rw h refl)

-- a goal is held exactly where the newest transaction that ever had it is open
pub held_is : (past : List Entry) → IsLegalPast past → (slot : Slot) → is_held past slot ≡ held_by past slot
held_is past h slot =
    any_is (λ (t : Transaction). same_slot t.goal slot) (open_transactions past)
    ∙ ap (λ l. not (is_empty l)) (holders_are past h slot)
    ∙ one_is (is_open past) (newest_with (transactions past) slot)
