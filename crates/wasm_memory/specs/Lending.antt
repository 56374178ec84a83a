-- What a memory ends as, where a part of it is lent.
use Rattle.std.specs.Prelude.{ℕ, List, length, take}
use Rattle.std.specs.Borrow.{Lends, Fml, MutBor, Array, u8}
use Rattle.wasm_memory.specs.Bytes.{written}
use Rattle.wasm_memory.specs.Linear.{Linear, with_bytes}
use Rattle.wasm_memory.specs.contracts.memory.Memory.{the_row}

-- the memory with these bytes from a place on, and none past its end
abbrev pub with_part : Linear → ℕ → List ℕ → Linear
with_part m place bytes = with_bytes m (take (length m.bytes) (written m.bytes place bytes))

-- the part holds what was written last, and all else stays
abbrev pub lends_part : MutBor Linear → ℕ → MutBor (List ℕ) → Fml
lends_part m place part = Lends the_row (Array u8 0) m part (with_part m.now place)
