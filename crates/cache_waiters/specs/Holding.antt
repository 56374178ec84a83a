-- The transaction that holds a goal: the newest that ever had it, while it is open.
use Rattle.std.specs.Prelude.{Bool, false, List, [], ◌∷◌, Option, None, Some, if◌then◌else◌}
use Rattle.std.specs.Option.{option_map_or}
use Rattle.std.specs.List.{find}
use Rattle.cache_types.specs.declared.entries.Entry.{Entry}
use Rattle.cache_types.specs.Slots.{Slot, same_slot}
use Rattle.cache_types.specs.Transactions.{Transaction, transactions, is_open}

-- the newest transaction that ever had this goal
abbrev pub newest_with : List Transaction → Slot → Option Transaction
newest_with among slot = find (λ (t : Transaction). same_slot t.goal slot) among

-- it alone, where it passes
abbrev pub holder_by : (Transaction → Bool) → Option Transaction → List Transaction
holder_by test None = []
holder_by test (Some t) = if test t then t ∷ [] else []

-- the newest transaction with this goal is open
abbrev pub held_by : List Entry → Slot → Bool
held_by past slot = option_map_or (is_open past) (newest_with (transactions past) slot) false
