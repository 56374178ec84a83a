-- Values and lists in buffers: what is written where there is room, else the needed size alone.
use Rattle.std.specs.Prelude.{ℕ, suc, ◌+◌, ◌-◌, ◌==◌, ◌++◌, List, [], ◌∷◌, length, take, drop, nat_le, nat_lt, Result, Ok, Err, if◌then◌else◌}
use Rattle.std.specs.List.{flat_map}
use Rattle.wasm_memory.specs.Linear.{Linear}
use Rattle.edge_abi.specs.declared.octets.AbiFault.{AbiFault}
use Rattle.edge_abi.specs.declared.octets.AbiFault.TheVariants.{Inval, BadAlign, BufLen, OutOfMemory}
use Rattle.edge_abi.specs.declared.status.Status.{Status}
use Rattle.edge_abi.specs.declared.status.Status.TheVariants as status
use Rattle.edge_abi.specs.Memory.{put, number_put}

-- a value and, at `count`, its length, where there is room for it
abbrev pub octets_put : Linear → ℕ → ℕ → ℕ → List ℕ → Result Linear AbiFault
octets_put m place room count bytes =
    if nat_le (length bytes) room then Ok (number_put (put m place bytes) count 4 (length bytes)) else Err (BufLen (length bytes))

-- an item of a list with its NUL
abbrev pub ended : List ℕ → List ℕ
ended item = item ++ 0 ∷ []

abbrev pub joined : List (List ℕ) → List ℕ
joined items = flat_map ended items

-- how many of the first items fit
abbrev pub fits : ℕ → List (List ℕ) → ℕ
fits room [] = 0
fits room (item ∷ items) = if nat_lt (length item) room then suc (fits (room - (length item + 1)) items) else 0

-- the number of the next item, or -1 where none is left
abbrev pub next_number : ℕ → ℕ → ℕ → ℕ
next_number cursor written left = if written == left then 18446744073709551615 else cursor + written

-- these items, the number of the next one, and how many bytes were written
abbrev pub items_put : Linear → ℕ → ℕ → ℕ → ℕ → List (List ℕ) → Linear
items_put m place ending count next items =
    number_put (number_put (put m place (joined items)) ending 8 next) count 4 (length (joined items))

-- as many whole items as fit, of those that are left
abbrev pub left_put : Linear → ℕ → ℕ → ℕ → ℕ → ℕ → List (List ℕ) → Result Linear AbiFault
left_put m place room cursor ending count [] = Ok (items_put m place ending count (next_number cursor 0 0) [])
left_put m place room cursor ending count (item ∷ items) =
    if nat_lt (length item) room
    then Ok (items_put m place ending count (next_number cursor (fits room (item ∷ items)) (length (item ∷ items))) (take (fits room (item ∷ items)) (item ∷ items)))
    else Err (BufLen (length item + 1))

-- a list from the item `cursor` on
abbrev pub list_put : Linear → ℕ → ℕ → ℕ → ℕ → ℕ → List (List ℕ) → Result Linear AbiFault
list_put m place room cursor ending count items = left_put m place room cursor ending count (drop cursor items)

-- what a call leaves that changes no table
pub record Plain : Type 0 where
  pub status : Status
  pub memory : Linear

abbrev pub status_of : AbiFault → Status
status_of Inval = status.Inval
status_of BadAlign = status.Badalign
status_of (BufLen needed) = status.Buflen
status_of OutOfMemory = status.Error

-- a refusal changes nothing but a needed size, at the place of the length
abbrev pub kept : ℕ → Linear → AbiFault → Linear
kept count m (BufLen needed) = number_put m count 4 needed
kept count m _ = m

abbrev pub plainly : ℕ → Linear → Result Linear AbiFault → Plain
plainly count m (Ok written) = record { status = status.Ok; memory = written }
plainly count m (Err fault) = record { status = status_of fault; memory = kept count m fault }

abbrev pub buffered : Linear → ℕ → ℕ → ℕ → List ℕ → Plain
buffered m place room count value = plainly count m (octets_put m place room count value)

abbrev pub listed : Linear → ℕ → ℕ → ℕ → ℕ → ℕ → List (List ℕ) → Plain
listed m place room cursor ending count items = plainly count m (list_put m place room cursor ending count items)
