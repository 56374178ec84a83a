-- What the maps of the index show.
use Rattle.std.specs.Prelude.{◌≡◌, ◌<◌, ℕ, List, [], reverse, Option, Some, length, vec_capacity}
use Rattle.std.specs.Global.{Vec}
use Rattle.std.specs.Option.{option_map_or}
use Rattle.std.specs.BTreeMap.{BTreeMap, get}
use Rattle.std.specs.Ordering.{nat_cmp}
use Rattle.std.specs.Cmp.Lexicographic.{slice_cmp}
use Rattle.cache_types.specs.Slots.{Slot}
use Rattle.cache_slots.specs.SlotOrder.{slot_cmp}

abbrev pub RuleMap : Type 0
RuleMap = BTreeMap (List ℕ) (Vec (List (List ℕ)))

-- the newest stands last
abbrev pub rules_in : Option (Vec (List (List ℕ))) → List (List (List ℕ))
rules_in list = option_map_or (λ (v : Vec (List (List ℕ))). reverse v.items) list []

-- the rules of the key, none where it isn't there
abbrev pub rules_at : RuleMap → List ℕ → List (List (List ℕ))
rules_at rules key = rules_in (get (slice_cmp nat_cmp) rules key)

-- the key is there, with room for a rule more
abbrev pub HasRoomAt : RuleMap → List ℕ → Type 0
HasRoomAt rules key =
    (v : Vec (List (List ℕ))) × (get (slice_cmp nat_cmp) rules key ≡ Some v) × (length v.items < vec_capacity v)

abbrev pub object_at : BTreeMap Slot ℕ → Slot → Option ℕ
object_at objects slot = get slot_cmp objects slot
