-- Bytes of a memory, and numbers in bytes, the lowest byte first (section 4.3.1).
use Rattle.std.specs.Prelude.{ℕ, zero, suc, ◌+◌, ◌*◌, ◌/◌, ◌%◌, ◌==◌, ◌||◌, nat_le, Bool, List, [], ◌∷◌, ◌++◌, take, drop, length, slice_set}

-- so many bytes from a place on are there
abbrev pub is_inside : List ℕ → ℕ → ℕ → Bool
is_inside memory place count = nat_le (place + count) (length memory)

-- so many bytes from a place on
abbrev pub bytes_at : List ℕ → ℕ → ℕ → List ℕ
bytes_at memory place count = take count (drop place memory)

-- the memory with other bytes from a place on
abbrev pub written : List ℕ → ℕ → List ℕ → List ℕ
written memory place bytes = take place memory ++ (bytes ++ drop (place + length bytes) memory)

-- the number that bytes are
abbrev pub number_of : List ℕ → ℕ
number_of [] = 0
number_of (b ∷ bs) = b + 256 * number_of bs

-- so many lowest bytes of a number
abbrev pub bytes_of : ℕ → ℕ → List ℕ
bytes_of zero n = []
bytes_of (suc k) n = (n % 256) ∷ bytes_of k (n / 256)

-- how many bytes a load reads or a store writes
abbrev pub is_access : ℕ → Bool
is_access size = size == 1 || (size == 2 || (size == 4 || size == 8))

-- bytes written one after another
abbrev pub set_all : ℕ → List ℕ → List ℕ → List ℕ
set_all place [] memory = memory
set_all place (b ∷ bs) memory = set_all (place + 1) bs (slice_set memory place b)
