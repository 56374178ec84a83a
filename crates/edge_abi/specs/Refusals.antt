-- The words of refusal. A row tests in this order: handles from left to right, places from left to right, option bits, texts
-- and numbers, limits and full tables.
use Rattle.std.specs.Prelude.{◌≡◌, ℕ, ◌%◌, Bool, List, ◌==◌, Option, None, Some, Result, Ok, Err, if◌then◌else◌}
use Rattle.wasm_memory.specs.Linear.{Linear}
use Rattle.edge_abi.specs.declared.status.Status.{Status}
use Rattle.edge_abi.specs.declared.status.Status.TheVariants as status
use Rattle.edge_abi.specs.declared.status.Refusal.{Refusal}
use Rattle.edge_abi.specs.declared.status.Refusal.TheVariants.{Told, OutOfMemory}
use Rattle.edge_abi.specs.Memory.{has_range}
use Rattle.edge_abi.specs.Tables.{held}

-- what follows where nothing was refused
abbrev pub and_then : {X Y E : Type 0} → Result X E → (X → Result Y E) → Result Y E
and_then (Err e) next = Err e
and_then (Ok x) next = next x

-- the row is refused with this status unless the test holds
abbrev pub unless : Bool → Status → Result (Unit {0}) Refusal
unless test status = if test then Ok tt else Err (Told status)

-- a range of bytes of the guest
abbrev pub ranged : Linear → ℕ → ℕ → Result (Unit {0}) Refusal
ranged m place len = unless (has_range m place len) status.Inval

-- the place of a number: the bounds first, then the alignment
abbrev pub placed : Linear → ℕ → ℕ → Result (Unit {0}) Refusal
placed m place size = and_then (ranged m place size) (λ _. unless (place % size == 0) status.Badalign)

-- what is there, or the status where it isn't
abbrev pub some_or : {X : Type 0} → Option X → Status → Result X Refusal
some_or None status = Err (Told status)
some_or (Some x) status = Ok x

-- what a handle names
abbrev pub handled : {X : Type 0} → List (Option X) → ℕ → Result X Refusal
handled table number = some_or (held table number) status.Badf

-- what was asked for, but for want of memory
abbrev pub Judges : {X : Type 0} → Result X Refusal → Result X Refusal → Type 0
Judges meaning (Ok x) = meaning ≡ Ok x
Judges meaning (Err (Told status)) = meaning ≡ Err (Told status)
Judges meaning (Err OutOfMemory) = Unit {0}
