-- One transaction more.
use Rattle.std.specs.Prelude.{◌≡◌, Bool, true, false, cond, List, ◌∷◌, Some, option_map, refl}
use Rattle.std.specs.BTreeMap.{BTreeMap, get, is_at}
use Rattle.std.proofs.Common.{sym, ap, ◌∙◌}
use Rattle.cache_types.specs.Slots.{Slot, same_slot}
use Rattle.cache_types.specs.Transactions.{Transaction}
use Rattle.cache_slots.specs.SlotOrder.{slot_cmp, slots_tie}
use Rattle.cache_waiters.specs.declared.goals.Holder.{Holder}
use Rattle.cache_waiters.specs.Holding.{newest_with}
use Rattle.cache_waiters.specs.Stands.{holder_of}

-- the newest with a goal, where there is one more
newest_more : (t : Transaction) (told : List Transaction) (slot : Slot) → option_map holder_of (newest_with (t ∷ told) slot) ≡ cond (same_slot t.goal slot) (Some (holder_of t)) (option_map holder_of (newest_with told slot))
newest_more t told slot =
    let with : (b : Bool) → option_map holder_of (cond b (Some t) (newest_with told slot)) ≡ cond b (Some (holder_of t)) (option_map holder_of (newest_with told slot)) =
    elim [ true ↦ refl | false ↦ refl ]
    in with (same_slot t.goal slot)

-- the map, told one transaction more
pub newest_told : (old new : BTreeMap Slot Holder) (goal : Slot) (holder : Holder) (t : Transaction) (told : List Transaction) → t.goal ≡ goal → holder_of t ≡ holder
    → ((q : Slot) → get slot_cmp old q ≡ option_map holder_of (newest_with told q)) → ((q : Slot) → get slot_cmp new q ≡ cond (is_at (slot_cmp goal) q) (Some holder) (get slot_cmp old q))
    → (q : Slot) → get slot_cmp new q ≡ option_map holder_of (newest_with (t ∷ told) q)
newest_told old new goal holder t told at is stands updates = λ q.
    updates q ∙ ap (λ s. cond (is_at (slot_cmp s) q) (Some holder) (get slot_cmp old q)) (sym at)
    ∙ ap (λ b. cond b (Some holder) (get slot_cmp old q)) (sym (slots_tie t.goal q))
    ∙ ap (λ h. cond (same_slot t.goal q) (Some h) (get slot_cmp old q)) (sym is)
    ∙ ap (λ o. cond (same_slot t.goal q) (Some (holder_of t)) o) (stands q) ∙ sym (newest_more t told q)
