-- Tables of handles: the k-th item, counted from 1, is what the number k names, and nothing once it was taken.
use Rattle.std.specs.Prelude.{◌≡◌, ℕ, ◌-◌, Bool, true, false, List, length, slice_get, slice_set, ◌==◌, Option, None, Some, if◌then◌else◌}
use Rattle.edge_abi.specs.declared.table.AddFault.{AddFault}
use Rattle.edge_abi.specs.declared.table.AddFault.TheVariants.{Full, OutOfMemory}

abbrev pub item_in : {T : Type 0} → Option (Option T) → Option T
item_in None = None
item_in (Some item) = item

-- what a number names
abbrev pub held : {T : Type 0} → List (Option T) → ℕ → Option T
held table number = if number == 0 then None else item_in (slice_get table (number - 1))

-- the table without what a number names
abbrev pub taken : {T : Type 0} → List (Option T) → ℕ → List (Option T)
taken table number = if number == 0 then table else slice_set table (number - 1) None

-- the table where a number, which was given, names this value
abbrev pub with_value : {T : Type 0} → List (Option T) → ℕ → T → List (Option T)
with_value table number value = slice_set table (number - 1) (Some value)

abbrev pub changed_from : {T : Type 0} → Option T → (T → T) → List (Option T) → ℕ → List (Option T)
changed_from None change table number = table
changed_from (Some value) change table number = with_value table number (change value)

-- the table where what a number names is changed
abbrev pub changed : {T : Type 0} → (T → T) → List (Option T) → ℕ → List (Option T)
changed change table number = changed_from (held table number) change table number

-- all numbers were given
abbrev pub is_full : {T : Type 0} → List (Option T) → Bool
is_full table = length table == 65536

-- the value comes back, as full exactly where all numbers were given
abbrev pub IsAddFault : {T : Type 0} → List (Option T) → T → AddFault T → Type 0
IsAddFault table value (Full back) = (back ≡ value) × (is_full table ≡ true)
IsAddFault table value (OutOfMemory back) = (back ≡ value) × (is_full table ≡ false)
