-- A linear memory (section 4.2.8), and what grows it (section 4.4.4, `memory.grow`).
use Rattle.std.specs.Prelude.{ℕ, ◌+◌, ◌*◌, ◌/◌, nat_le, Bool, List, ◌++◌, length, replicate, Option, Some, None, if◌then◌else◌}

-- its bytes, and how many pages it may have
pub record Linear : Type 0 where
  pub bytes : List ℕ
  pub most : ℕ

-- how many pages of 65,536 bytes it has
abbrev pub pages_of : Linear → ℕ
pages_of m = length m.bytes / 65536

abbrev pub blank : ℕ → ℕ → Linear
blank least most = record { bytes = replicate (65536 * least) 0; most = most }

-- whether it may have so many pages more
abbrev pub may_grow : Linear → ℕ → Bool
may_grow m pages = nat_le (pages_of m + pages) m.most

-- with so many pages of zeros behind it, or as it was
abbrev pub grown : Linear → ℕ → Linear
grown m pages = if may_grow m pages then record m { bytes = m.bytes ++ replicate (65536 * pages) 0 } else m

-- how many pages it had
abbrev pub grown_from : Linear → ℕ → Option ℕ
grown_from m pages = if may_grow m pages then Some (pages_of m) else None

-- the same memory with these bytes
abbrev pub with_bytes : Linear → List ℕ → Linear
with_bytes m bytes = record m { bytes = bytes }
