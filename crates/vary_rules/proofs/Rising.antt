-- The names of a rule rise, and they are those that it was made of.
use Rattle.std.proofs.Common.{◌≡◌, ℕ, Bool, true, false, ◌||◌, List, [], ◌∷◌, refl, sym, ◌∙◌, ap, Ordering, Less, Equal, Greater}
use Rattle.std.specs.BTreeSet.{insert_key}
use Rattle.std.specs.List.{list_any}
use Rattle.std.specs.List.Sorted.{IsStrictlySortedBy}
use Rattle.std.specs.Ordering.{nat_cmp, is_lt, match_ordering}
use Rattle.std.specs.Cmp.Lexicographic.{slice_cmp}
use Rattle.std.proofs.lemmas.Bool.{and_from}
use Rattle.std.proofs.lemmas.Map.Keys.{sorted_head, sorted_tail}
use Rattle.std.proofs.lemmas.Map.Lookups.{exact_bytes}
use Rattle.cache_types.specs.Rule.{rises}
use Rattle.vary_rules.specs.Rules.{rule_with}

pub keys_rise : (names : List (List ℕ)) → IsStrictlySortedBy (slice_cmp nat_cmp) names → rises names ≡ true
keys_rise [] ordered = refl
keys_rise (name ∷ []) ordered = refl
keys_rise (name ∷ (next ∷ names)) ordered =
    let first = sorted_head (slice_cmp nat_cmp) name (next ∷ names) ordered in
    let rest = sorted_tail (slice_cmp nat_cmp) name (next ∷ names) ordered in
    and_from (is_lt (slice_cmp nat_cmp name next)) (rises (next ∷ names)) (ap is_lt first.0) (keys_rise (next ∷ names) rest)

swapped : (a b c : Bool) → (a || (b || c)) ≡ (b || (a || c))
swapped true true c = refl
swapped true false c = refl
swapped false b c = refl

regrouped : (a b c : Bool) → (a || (b || c)) ≡ ((b || a) || c)
regrouped true true c = refl
regrouped true false c = refl
regrouped false true c = refl
regrouped false false c = refl

twice : (a b : Bool) → (a || b) ≡ (a || (a || b))
twice true b = refl
twice false b = refl

inserted_any : (p : List ℕ → Bool) (rule : List (List ℕ)) (name : List ℕ) → list_any p (insert_key (slice_cmp nat_cmp) rule name) ≡ (p name || list_any p rule)
inserted_any p [] name = refl
inserted_any p (other ∷ rule) name =
    let with : (order : Ordering) → slice_cmp nat_cmp name other ≡ order
    → list_any p (match_ordering order (name ∷ other ∷ rule) (other ∷ rule) (other ∷ insert_key (slice_cmp nat_cmp) rule name)) ≡ (p name || (p other || list_any p rule)) =
    elim [
      | Less ↦ λ e. refl
      | Equal ↦ λ e. twice (p other) (list_any p rule) ∙ ap (λ (same : List ℕ). p same || (p other || list_any p rule)) (sym (exact_bytes name other e))
      | Greater ↦ λ e. ap (λ (b : Bool). p other || b) (inserted_any p rule name) ∙ swapped (p other) (p name) (list_any p rule)
    ] in with (slice_cmp nat_cmp name other) refl

-- one of the rule's names passes a test where one of those that it was made of does
pub rule_any : (p : List ℕ → Bool) (rule names : List (List ℕ)) → list_any p (rule_with rule names) ≡ (list_any p names || list_any p rule)
rule_any p rule [] = refl
rule_any p rule (name ∷ names) =
    rule_any p (insert_key (slice_cmp nat_cmp) rule name) names
    ∙ ap (λ (b : Bool). list_any p names || b) (inserted_any p rule name)
    ∙ regrouped (list_any p names) (p name) (list_any p rule)
