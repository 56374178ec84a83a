-- The memory of a guest, as calls read and write it.
use Rattle.std.specs.Prelude.{ℕ, Bool, List, length, if◌then◌else◌}
use Rattle.wasm_memory.specs.Bytes.{is_inside, bytes_at, bytes_of, written}
use Rattle.wasm_memory.specs.Linear.{Linear, with_bytes}

-- the range lies within the memory
abbrev pub has_range : Linear → ℕ → ℕ → Bool
has_range m place len = is_inside m.bytes place len

-- the bytes of a range
abbrev pub octets_at : Linear → ℕ → ℕ → List ℕ
octets_at m place len = bytes_at m.bytes place len

-- the memory with these bytes at the place; where there is no room nothing is written
unfoldable pub put : Linear → ℕ → List ℕ → Linear
put m place bytes = if has_range m place (length bytes) then with_bytes m (written m.bytes place bytes) else m

-- the same with a number of so many bytes, the lowest first
unfoldable pub number_put : Linear → ℕ → ℕ → ℕ → Linear
number_put m place size value = put m place (bytes_of size value)
