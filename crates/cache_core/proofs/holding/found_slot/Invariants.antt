use Rattle.std.proofs.Common.{◌≡◌, ◌-◌, List, take, reverse, length}
use Rattle.cache_types.specs.declared.entries.Entry.{Entry}
use Rattle.cache_types.specs.Found.{first_alive, found}
use Rattle.cache_core.specs.Knows.{Knows}
use Rattle.cache_core.proofs.holding.found_slot.Given as goal

abbrev pub invariant-loop-i : goal.invariant-loop-i
invariant-loop-i l =
    (past : List Entry) → Knows l.parts past → first_alive past l.key l.headers (reverse (take (length l.rules - l.i) l.rules)) ≡ found past l.key l.headers
