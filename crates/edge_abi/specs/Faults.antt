-- Reading and writing the memory of a guest, and why it is refused.
use Rattle.std.specs.Prelude.{◌≡◌, ℕ, ◌%◌, List, ◌==◌, Result, Ok, Err, if◌then◌else◌}
use Rattle.wasm_memory.specs.Linear.{Linear}
use Rattle.edge_abi.specs.declared.octets.AbiFault.{AbiFault}
use Rattle.edge_abi.specs.declared.octets.AbiFault.TheVariants.{Inval, BadAlign, OutOfMemory}
use Rattle.edge_abi.specs.Memory.{has_range, octets_at, number_put}
use Rattle.edge_abi.specs.Refusals.{and_then}
use Rattle.edge_abi.specs.Buffers.{octets_put, list_put, kept}

-- a range of bytes
abbrev pub octets_room : Linear → ℕ → ℕ → Result (Unit {0}) AbiFault
octets_room m place len = if has_range m place len then Ok tt else Err Inval

-- the place of a number
abbrev pub number_room : Linear → ℕ → ℕ → Result (Unit {0}) AbiFault
number_room m place size = and_then (octets_room m place size) (λ _. if place % size == 0 then Ok tt else Err BadAlign)

abbrev pub octets_read : Linear → ℕ → ℕ → Result (List ℕ) AbiFault
octets_read m place len = and_then (octets_room m place len) (λ _. Ok (octets_at m place len))

abbrev pub number_written : Linear → ℕ → ℕ → ℕ → Result Linear AbiFault
number_written m place size value = and_then (number_room m place size) (λ _. Ok (number_put m place size value))

abbrev pub octets_written : Linear → ℕ → ℕ → ℕ → List ℕ → Result Linear AbiFault
octets_written m place room count bytes =
    and_then (octets_room m place room) (λ _. and_then (number_room m count 4) (λ _. octets_put m place room count bytes))

abbrev pub list_written : Linear → ℕ → ℕ → ℕ → ℕ → ℕ → List (List ℕ) → Result Linear AbiFault
list_written m place room cursor ending count items =
    and_then (octets_room m place room) (λ _.
    and_then (number_room m ending 8) (λ _.
    and_then (number_room m count 4) (λ _. list_put m place room cursor ending count items)))

-- what was read, but for want of memory
abbrev pub Reads : {X : Type 0} → Result X AbiFault → Result X AbiFault → Type 0
Reads meaning (Ok x) = meaning ≡ Ok x
Reads meaning (Err OutOfMemory) = Unit {0}
Reads meaning (Err fault) = meaning ≡ Err fault

-- what was written: with a refusal the needed size alone
abbrev pub Writes : ℕ → Linear → Result Linear AbiFault → Result (Unit {0}) AbiFault → Linear → Type 0
Writes count old meaning (Ok _) new = meaning ≡ Ok new
Writes count old meaning (Err fault) new = (meaning ≡ Err fault) × (new ≡ kept count old fault)
