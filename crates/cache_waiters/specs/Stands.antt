-- What goals know: the answers for the transactions told to them.
use Rattle.std.specs.Prelude.{◌≡◌, List, option_map}
use Rattle.std.specs.BTreeMap.{get}
use Rattle.cache_types.specs.Slots.{Slot}
use Rattle.cache_types.specs.Transactions.{Transaction}
use Rattle.cache_slots.specs.SlotOrder.{slot_cmp}
use Rattle.cache_waiters.specs.declared.goals.Goals.{Goals}
use Rattle.cache_waiters.specs.declared.goals.Holder.{Holder}
use Rattle.cache_waiters.specs.Holding.{newest_with}

-- what is kept of a transaction
abbrev pub holder_of : Transaction → Holder
holder_of transaction = record { number = transaction.number; guest = transaction.guest }

-- the goals were told these, the newest first
abbrev pub Stands : Goals → List Transaction → Type 0
Stands goals told = (slot : Slot) → get slot_cmp goals.newest slot ≡ option_map holder_of (newest_with told slot)
