-- Slots in an order: by their key, then by their rule, then by their variant.
use Rattle.std.specs.Prelude.{◌≡◌, ℕ, List}
use Rattle.std.specs.Cmp.{IsEquivalence, IsTotalOrder, on_equiv, on_total, and_equiv, then_total, both_tied}
use Rattle.std.specs.Cmp.Lexicographic.{slice_cmp, lists_equiv, lists_total, lists_ties, nat_list_eq_equiv, nat_list_cmp_total, texts_ties}
use Rattle.std.specs.declared.cmp.Ordering.{Ordering}
use Rattle.std.specs.Ordering.{nat_cmp, ordering_then, eq_by_cmp}
use Rattle.cache_types.specs.Slots.{Slot, same_slot}

-- lists of bytes: the first that differ decide, and else the lengths
abbrev pub rule_cmp : List (List ℕ) → List (List ℕ) → Ordering
rule_cmp = slice_cmp (slice_cmp nat_cmp)

-- keys decide, then rules, then variants
abbrev pub slot_cmp : Slot → Slot → Ordering
slot_cmp a b = ordering_then (ordering_then (slice_cmp nat_cmp a.key b.key) (rule_cmp a.rule b.rule)) (slice_cmp rule_cmp a.variant b.variant)

pub slots_equiv : IsEquivalence same_slot
slots_equiv =
    and_equiv (and_equiv (on_equiv (λ (s : Slot). s.key) nat_list_eq_equiv) (on_equiv (λ (s : Slot). s.rule) (lists_equiv nat_list_eq_equiv)))
    (on_equiv (λ (s : Slot). s.variant) (lists_equiv (lists_equiv nat_list_eq_equiv)))

pub slots_total : IsTotalOrder slot_cmp
slots_total =
    then_total (then_total (on_total (λ (s : Slot). s.key) nat_list_cmp_total) (on_total (λ (s : Slot). s.rule) (lists_total nat_list_cmp_total)))
    (on_total (λ (s : Slot). s.variant) (lists_total (lists_total nat_list_cmp_total)))

-- slots that compare alike are the same slot
pub slots_tie : (a b : Slot) → same_slot a b ≡ eq_by_cmp slot_cmp a b
slots_tie a b =
    both_tied _ _ _ _ (both_tied _ _ _ _ (texts_ties a.key b.key) (lists_ties (slice_cmp nat_cmp) texts_ties a.rule b.rule))
    (lists_ties rule_cmp (lists_ties (slice_cmp nat_cmp) texts_ties) a.variant b.variant)
