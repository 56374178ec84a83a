-- One insertion more.
use Rattle.std.specs.Prelude.{◌≡◌, ℕ, Bool, true, false, cond, List, ◌∷◌, filter, map, Some, option_map, refl, bytes_eq}
use Rattle.std.specs.BTreeMap.{is_at}
use Rattle.std.proofs.Common.{sym, ap, ◌∙◌}
use Rattle.cache_types.specs.Slots.{Slot, same_slot}
use Rattle.cache_slots.specs.SlotOrder.{slot_cmp, slots_tie}
use Rattle.cache_types.specs.Objects.{Insertion, slot_of}
use Rattle.cache_types.specs.Found.{put_first, each_once}
use Rattle.cache_index.specs.Told.{rules_told, last_told, object_told}
use Rattle.cache_index.specs.Kept.{rules_at, object_at}
use Rattle.cache_index.specs.Stands.{Stands}
use Rattle.cache_index.specs.declared.index.Index.{Index}

pub rules_told_more : (made : Insertion) (told : List Insertion) (key : List ℕ) → rules_told (made ∷ told) key ≡ cond (bytes_eq made.key key) (put_first made.writing.rule (rules_told told key)) (rules_told told key)
rules_told_more made told key =
    let rest = filter (λ (m : Insertion). bytes_eq m.key key) told in
    let with : (b : Bool) → each_once (map (λ (m : Insertion). m.writing.rule) (cond b (made ∷ rest) rest)) ≡ cond b (put_first made.writing.rule (rules_told told key)) (rules_told told key) =
    elim [ true ↦ refl | false ↦ refl ]
    in with (bytes_eq made.key key)

pub object_told_more : (made : Insertion) (told : List Insertion) (slot : Slot) → object_told (made ∷ told) slot ≡ cond (same_slot (slot_of made) slot) (Some made.object) (object_told told slot)
object_told_more made told slot =
    let with : (b : Bool) → option_map (λ (m : Insertion). m.object) (cond b (Some made) (last_told told slot)) ≡ cond b (Some made.object) (object_told told slot) =
    elim [ true ↦ refl | false ↦ refl ]
    in with (same_slot (slot_of made) slot)

-- the index, told one insertion more
pub stands_more : (old new : Index) (slot : Slot) (object : ℕ) (made : Insertion) (told : List Insertion) → made.object ≡ object → slot_of made ≡ slot → Stands old told
    → ((q : List ℕ) → rules_at new.rules q ≡ cond (bytes_eq slot.key q) (put_first slot.rule (rules_at old.rules q)) (rules_at old.rules q))
    → ((q : Slot) → object_at new.objects q ≡ cond (is_at (slot_cmp slot) q) (Some object) (object_at old.objects q))
    → Stands new (made ∷ told)
stands_more old new slot object made told number at stands rules objects = record {
  rules = λ q. rules q ∙ ap (λ (s : Slot). cond (bytes_eq s.key q) (put_first s.rule (rules_at old.rules q)) (rules_at old.rules q)) (sym at)
      ∙ ap (λ rs. cond (bytes_eq made.key q) (put_first made.writing.rule rs) rs) (stands.rules q) ∙ sym (rules_told_more made told q);
  objects = λ q. objects q ∙ ap (λ (s : Slot). cond (is_at (slot_cmp s) q) (Some object) (object_at old.objects q)) (sym at)
      ∙ ap (λ b. cond b (Some object) (object_at old.objects q)) (sym (slots_tie (slot_of made) q))
      ∙ ap (λ n. cond (same_slot (slot_of made) q) (Some n) (object_at old.objects q)) (sym number)
      ∙ ap (λ o. cond (same_slot (slot_of made) q) (Some made.object) o) (stands.objects q) ∙ sym (object_told_more made told q);
}
