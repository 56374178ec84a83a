-- The parts of a body, and its length where it is known.
use Rattle.std.specs.Prelude.{ℕ, ◌-◌, ◌^◌, Bool, true, false, List, length, min, sum_by, Option, None, Some, if◌then◌else◌}
use Rattle.std.specs.List.{list_all}
use Rattle.edge_body.specs.declared.body.Part.{Part}
use Rattle.edge_body.specs.declared.body.Part.TheVariants.{Own, Rest}

-- the greatest length that is told
abbrev pub most_length : ℕ
most_length = 2 ^ 64 - 1

-- a part's length is known
abbrev pub is_known : Part → Bool
is_known (Own bytes) = true
is_known (Rest hit place None) = false
is_known (Rest hit place (Some length)) = true

-- how long a part is, where that is known: of a hit what it has past the place
abbrev pub part_length : Part → ℕ
part_length (Own bytes) = length bytes
part_length (Rest hit place None) = 0
part_length (Rest hit place (Some length)) = length - place

-- the length of all parts, at most the greatest one that is told
abbrev pub known_length : List Part → Option ℕ
known_length parts = if list_all is_known parts then Some (min (sum_by part_length parts) most_length) else None
