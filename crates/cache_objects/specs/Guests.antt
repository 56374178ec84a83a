-- The objects of each live guest.
use Rattle.std.specs.Prelude.{◌≡◌, ◌<◌, ℕ, List, Option, Some, option_map, length, vec_capacity}
use Rattle.std.specs.Global.{Vec}
use Rattle.std.specs.BTreeMap.{BTreeMap, get}
use Rattle.std.specs.Ordering.{nat_cmp}

-- a list for each live guest
abbrev pub GuestMap : Type 0
GuestMap = BTreeMap ℕ (Vec ℕ)

-- the objects of the guest, where it is live
abbrev pub list_at : GuestMap → ℕ → Option (List ℕ)
list_at guests guest = option_map (λ (v : Vec ℕ). v.items) (get nat_cmp guests guest)

-- where the guest is live, its list has room for one object more
abbrev pub HasRoomFor : GuestMap → ℕ → Type 0
HasRoomFor guests guest = (v : Vec ℕ) → get nat_cmp guests guest ≡ Some v → length v.items < vec_capacity v
