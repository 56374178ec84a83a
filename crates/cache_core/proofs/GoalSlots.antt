-- The goal of a lookup, rule by rule.
use Rattle.std.specs.Prelude.{◌≡◌, ◌<◌, ◌+◌, ◌-◌, ℕ, length, reverse, take, Bool, true, false, cond, ◌&&◌, bytes_eq, List, [], ◌∷◌, Option, Some, None, is_some, option_map, refl}
use Rattle.std.specs.List.{find, cons_option, slice_index_or}
use Rattle.std.specs.Option.{option_map_or}
use Rattle.std.proofs.Common.{arith, sym, ap, ◌∙◌}
use Rattle.std.proofs.lemmas.Bool.{false≢true, and_parts}
use Rattle.std.proofs.lemmas.Option.{same_Some, none-some}
use Rattle.std.proofs.lemmas.Slice.Eq.{slice_eq-Decides, bytes_eq-Decides}
use Rattle.cache_types.specs.declared.calls.Field.{Field}
use Rattle.cache_types.specs.declared.entries.Entry.{Entry}
use Rattle.cache_types.specs.Found.{last_in, first_alive, found, rules_of}
use Rattle.cache_types.specs.Objects.{Insertion, insertions, slot_of, is_alive}
use Rattle.cache_types.specs.Slots.{Slot, slot_for, same_rule, same_variant, same_slot}
use Rattle.cache_types.specs.Transactions.{goal_of, slot_for_new, first_rule}
use Rattle.cache_types.proofs.Lists.{by_test}
use Rattle.std.proofs.lemmas.List.{take_all}
use Rattle.cache_log.proofs.Walks.{reverse-take_more}
use Rattle.cache_index.specs.Told.{object_told}
use Rattle.cache_core.specs.declared.parts.Parts.{Parts}
use Rattle.cache_core.specs.Knows.{Knows}
use Rattle.cache_core.specs.Living.{living, slot_if}
use Rattle.cache_core.proofs.Searching.{here_alive, none_here, under}

-- slots that are the same are equal
slots_decide : (a b : Slot) → same_slot a b ≡ true → a ≡ b
slots_decide a b same =
    let parts = and_parts (bytes_eq a.key b.key && same_rule a.rule b.rule) (same_variant a.variant b.variant) same in
    let first = and_parts (bytes_eq a.key b.key) (same_rule a.rule b.rule) parts.0 in
    let key : a.key ≡ b.key = (bytes_eq-Decides a.key b.key).0 first.0 in
    let rule : a.rule ≡ b.rule = (slice_eq-Decides bytes_eq-Decides a.rule b.rule (same_rule a.rule b.rule) refl).0 first.1 in
    let variant : a.variant ≡ b.variant = (slice_eq-Decides (λ x y. slice_eq-Decides bytes_eq-Decides x y (same_rule x y) refl) a.variant b.variant (same_variant a.variant b.variant) refl).0 parts.1 in
    ap (λ k. record { key = k; rule = a.rule; variant = a.variant }) key
    ∙ ap (λ r. record { key = b.key; rule = r; variant = a.variant }) rule
    ∙ ap (λ v. record { key = b.key; rule = b.rule; variant = v }) variant

-- what passes a test in a list
find_passes : {X : Type 0} (p : X → Bool) (xs : List X) (x : X) → find p xs ≡ Some x → p x ≡ true
find_passes p [] x is = absurd (none-some x is)
find_passes {X} p (y ∷ ys) x is = by_test (p y)
    (λ h. ap p (sym (same_Some y x (sym (ap (λ b. cond b (Some y) (find p ys)) h) ∙ is))) ∙ h)
    (λ h. find_passes p ys x (sym (ap (λ b. cond b (Some y) (find p ys)) h) ∙ is))

some_of : (o : Option Insertion) → is_some (option_map slot_of o) ≡ is_some o
some_of None = refl
some_of (Some m) = refl

some_object : (o : Option Insertion) → is_some (option_map (λ (m : Insertion). m.object) o) ≡ is_some o
some_object None = refl
some_object (Some m) = refl

one_slot : (alive : Bool) (made : Insertion) (slot : Slot) → slot_of made ≡ slot → is_some (option_map (λ (m : Insertion). m.object) (cond alive (Some made) None)) ≡ true → Some slot ≡ option_map slot_of (cond alive (Some made) None)
one_slot true made slot is some = ap Some (sym is)
one_slot false made slot is some = absurd (false≢true some)

-- the slot under a rule whose object is alive
pub alive_there : (past : List Entry) (key : List ℕ) (headers : List Field) (rule : List (List ℕ)) → is_some (option_map (λ (m : Insertion). m.object) (first_alive past key headers (rule ∷ []))) ≡ true → Some (slot_for key rule headers) ≡ option_map slot_of (first_alive past key headers (rule ∷ []))
alive_there past key headers rule some = by (last_in past (slot_for key rule headers)) refl some
  where
    by : (o : Option Insertion) → last_in past (slot_for key rule headers) ≡ o → is_some (option_map (λ (m : Insertion). m.object) (find (λ (m : Insertion). is_alive past m.object) (cons_option o []))) ≡ true → Some (slot_for key rule headers) ≡ option_map slot_of (find (λ (m : Insertion). is_alive past m.object) (cons_option o []))
    by None is some = absurd (false≢true some)
    by (Some made) is some =
        one_slot (is_alive past made.object) made (slot_for key rule headers)
        (slots_decide (slot_of made) (slot_for key rule headers) (find_passes (λ (m : Insertion). same_slot (slot_of m) (slot_for key rule headers)) (insertions past) made is)) some

none_of : (o : Option Insertion) → is_some (option_map (λ (m : Insertion). m.object) o) ≡ false → None ≡ option_map slot_of o
none_of None none = refl
none_of (Some m) none = absurd (false≢true (sym none))

slot_case : (past : List Entry) (key : List ℕ) (headers : List Field) (rule : List (List ℕ)) (object : Option ℕ) → object ≡ option_map (λ (m : Insertion). m.object) (first_alive past key headers (rule ∷ [])) → slot_if (slot_for key rule headers) object ≡ option_map slot_of (first_alive past key headers (rule ∷ []))
slot_case past key headers rule None is = none_of (first_alive past key headers (rule ∷ [])) (sym (ap is_some is))
slot_case past key headers rule (Some o) is = alive_there past key headers rule (sym (ap is_some is))

-- the slot under a rule, where its newest object is alive
pub slot_by : (past : List Entry) (parts : Parts) → Knows parts past → (key : List ℕ) (headers : List Field) (rule : List (List ℕ)) (slot : Slot) (object : Option ℕ) → slot ≡ slot_for key rule headers → object ≡ living parts.objects (object_told (insertions past) (slot_for key rule headers)) → slot_if slot object ≡ option_map slot_of (first_alive past key headers (rule ∷ []))
slot_by past parts knows key headers rule slot object at is =
    ap (λ s. slot_if s object) at ∙ slot_case past key headers rule object (is ∙ under past parts knows key headers rule)

pub here_slot : (past : List Entry) (key : List ℕ) (headers : List Field) (rule : List (List ℕ)) (rules : List (List (List ℕ))) → is_some (option_map slot_of (first_alive past key headers (rule ∷ []))) ≡ true → first_alive past key headers (rule ∷ rules) ≡ first_alive past key headers (rule ∷ [])
here_slot past key headers rule rules some =
    here_alive past key headers rule rules (some_object (first_alive past key headers (rule ∷ [])) ∙ sym (some_of (first_alive past key headers (rule ∷ []))) ∙ some)

pub none_slot : (past : List Entry) (key : List ℕ) (headers : List Field) (rule : List (List ℕ)) (rules : List (List (List ℕ))) → is_some (option_map slot_of (first_alive past key headers (rule ∷ []))) ≡ false → first_alive past key headers (rule ∷ rules) ≡ first_alive past key headers rules
none_slot past key headers rule rules none =
    none_here past key headers rule rules (some_object (first_alive past key headers (rule ∷ [])) ∙ sym (some_of (first_alive past key headers (rule ∷ []))) ∙ none)

-- the slot of the rule at a place, where its object is alive, is what all rules find
pub slot_here : (past : List Entry) (key : List ℕ) (headers : List Field) (rules : List (List (List ℕ))) (i k : ℕ) (rule d : List (List ℕ)) (slot : Option Slot) → k ≡ length rules - 1 - i → i < length rules → rule ≡ slice_index_or rules k d → slot ≡ option_map slot_of (first_alive past key headers (rule ∷ [])) → is_some slot ≡ true
    → first_alive past key headers (reverse (take (length rules - i) rules)) ≡ found past key headers → slot ≡ option_map slot_of (found past key headers)
slot_here past key headers rules i k rule d slot place below at is some all =
    let last : length rules - i ≡ k + 1 = omega (arith, place, below) in
    let more : reverse (take (length rules - i) rules) ≡ rule ∷ reverse (take k rules) =
    ap (λ n. reverse (take n rules)) last ∙ reverse-take_more rules k d (omega (arith, place, below)) ∙ ap (λ r. r ∷ reverse (take k rules)) (sym at)
    in
    is ∙ ap (option_map slot_of) (sym (here_slot past key headers rule (reverse (take k rules)) (sym (ap is_some is) ∙ some)) ∙ ap (first_alive past key headers) (sym more) ∙ all)

goal_case : (o : Option Insertion) (slot other : Slot) → Some slot ≡ option_map slot_of o → slot ≡ option_map_or slot_of o other
goal_case None slot other is = absurd (none-some slot (sym is))
goal_case (Some m) slot other is = same_Some slot (slot_of m) is

-- the goal is the slot of what is found
pub goal_found : (past : List Entry) (key : List ℕ) (headers : List Field) (slot : Slot) → Some slot ≡ option_map slot_of (found past key headers) → slot ≡ goal_of past key headers
goal_found past key headers slot is = goal_case (found past key headers) slot (slot_for_new past key headers) is

new_case : (o : Option Insertion) (other : Slot) → None ≡ option_map slot_of o → other ≡ option_map_or slot_of o other
new_case None other is = refl
new_case (Some m) other is = absurd (none-some (slot_of m) is)

-- where nothing is found, it is the slot of a new object
pub goal_new : (past : List Entry) (key : List ℕ) (headers : List Field) (rules : List (List (List ℕ))) (slot : Slot) → None ≡ option_map slot_of (found past key headers) → rules ≡ rules_of past key → slot ≡ slot_for key (first_rule rules) headers → slot ≡ goal_of past key headers
goal_new past key headers rules slot none is at =
    at ∙ ap (λ r. slot_for key (first_rule r) headers) is ∙ new_case (found past key headers) (slot_for_new past key headers) none

first_last : (rules : List (List (List ℕ))) (n : ℕ) → length rules ≡ n + 1 → first_rule (reverse rules) ≡ slice_index_or rules n []
first_last rules n long =
    let below : n < length rules = omega (arith, long) in
    ap (λ l. first_rule (reverse l)) (sym (take_all (n + 1) rules (omega (arith, long)))) ∙ ap first_rule (reverse-take_more rules n [] below)

-- the newest rule stands last
pub newest_last : (rules : List (List (List ℕ))) → 0 < length rules → slice_index_or rules (length rules - 1) [] ≡ first_rule (reverse rules)
newest_last rules some = sym (first_last rules (length rules - 1) (omega (arith, some)))
