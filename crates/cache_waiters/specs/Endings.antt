-- What ended each lookup, by its number.
use Rattle.std.specs.Prelude.{ℕ, Bool, false, Option}
use Rattle.std.specs.Option.{option_map_or}
use Rattle.std.specs.BTreeMap.{BTreeMap, get}
use Rattle.std.specs.Ordering.{nat_cmp}
use Rattle.cache_waiters.specs.declared.endings.Ending.{Ending}

abbrev pub EndingMap : Type 0
EndingMap = BTreeMap ℕ Ending

abbrev pub ending_at : EndingMap → ℕ → Option Ending
ending_at endings number = get nat_cmp endings number

-- an insertion, an update, a cancel or a close named the lookup
abbrev pub is_over : EndingMap → ℕ → Bool
is_over endings number = option_map_or (λ (e : Ending). e.over) (ending_at endings number) false

-- a close named it
abbrev pub is_closed : EndingMap → ℕ → Bool
is_closed endings number = option_map_or (λ (e : Ending). e.closed) (ending_at endings number) false
