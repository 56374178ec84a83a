-- Whether an object is alive, by what is held of it.
use Rattle.std.specs.Prelude.{ℕ, Bool, false, ◌&&◌, not, Option, Some, None, if◌then◌else◌}
use Rattle.std.specs.Option.{option_map_or}
use Rattle.cache_types.specs.Slots.{Slot}
use Rattle.cache_objects.specs.declared.standing.Standing.{Standing}
use Rattle.cache_objects.specs.Standings.{ObjectMap, standing_at}

abbrev pub has_life : Standing → Bool
has_life x = not x.abandoned && not x.purged

-- the object, where it is alive
abbrev pub living : ObjectMap → Option ℕ → Option ℕ
living objects None = None
living objects (Some object) = if option_map_or has_life (standing_at objects object) false then Some object else None

-- the slot, where an object is found in it
abbrev pub slot_if : Slot → Option ℕ → Option Slot
slot_if slot None = None
slot_if slot (Some object) = Some slot
