-- The vectors of a write: place and length of each, four bytes each, one behind the other.
use Rattle.std.specs.Prelude.{◌≡◌, ℕ, zero, suc, ◌+◌, ◌≤◌, Bool, true, false, ◌&&◌, nat_le, List, [], ◌∷◌, ◌++◌, length, Result, Ok, Err, if◌then◌else◌}
use Rattle.std.specs.List.{list_all, flat_map}
use Rattle.wasm_memory.specs.Bytes.{number_of}
use Rattle.wasm_memory.specs.Linear.{Linear}
use Rattle.edge_abi.specs.declared.status.Status.TheVariants as status
use Rattle.edge_abi.specs.declared.status.Refusal.{Refusal}
use Rattle.edge_abi.specs.declared.status.Refusal.TheVariants.{Told, OutOfMemory}
use Rattle.edge_abi.specs.Memory.{has_range, octets_at}

pub record Vector : Type 0 where
  pub place : ℕ
  pub length : ℕ

-- the number in four bytes
abbrev pub word_at : Linear → ℕ → ℕ
word_at m place = number_of (octets_at m place 4)

-- so many vectors from a place on
abbrev pub vectors : Linear → ℕ → ℕ → List Vector
vectors m place zero = []
vectors m place (suc count) = record { place = word_at m place; length = word_at m (place + 4) } ∷ vectors m (place + 8) count

-- all lie within the memory
abbrev pub are_inside : Linear → List Vector → Bool
are_inside m given = list_all (λ (v : Vector). has_range m v.place v.length) given

-- their bytes, joined
abbrev pub joined : Linear → List Vector → List ℕ
joined m given = flat_map (λ (v : Vector). octets_at m v.place v.length) given

-- vectors within the memory that hold at most 65,536 bytes
abbrev pub is_line : Linear → List Vector → Bool
is_line m given = are_inside m given && nat_le (length (joined m given)) 65536

abbrev pub line_of : Linear → List Vector → Result (List ℕ) Refusal
line_of m given = if is_line m given then Ok (joined m given) else Err (Told status.Inval)

-- a line with one vector's bytes more; inval where the vector lies outside, or the line is too long
abbrev pub TellsMore : Linear → List ℕ → Vector → Result (Unit {0}) Refusal → List ℕ → Type 0
TellsMore m line v (Ok _) more = (has_range m v.place v.length ≡ true) × (more ≡ line ++ octets_at m v.place v.length) × (length more ≤ 65536)
TellsMore m line v (Err (Told said)) more =
    (said ≡ status.Inval) × ((has_range m v.place v.length && nat_le (length line + length (octets_at m v.place v.length)) 65536) ≡ false)
TellsMore m line v (Err OutOfMemory) more = Unit {0}
