-- Pieces and Reads are within the limits of the cache.
use Rattle.std.proofs.Common.{◌≡◌, ℕ, ◌≤◌, true, length, drop, arith, min, max, refl}
use Rattle.std.specs.Prelude.{nat_le}
use Rattle.std.proofs.lemmas.Bool.{le-leb}
use Rattle.std.proofs.lemmas.List.{length-take}
use Rattle.cache_types.specs.Limits.{is_from_to}
use Rattle.wasm_memory.specs.Linear.{Linear}
use Rattle.edge_abi.specs.Memory.{octets_at}

pub piece_short : (m : Linear) (p n : ℕ) → length (octets_at m p (min n 65536)) ≤ 65536
piece_short m p n = omega (arith, length-take (min n 65536) (drop p m.bytes))

pub read_within : (most : ℕ) → is_from_to 1 65536 (max 1 (min most 65536)) ≡ true
read_within most =
    let k : ℕ = max 1 (min most 65536) in
    let low : nat_le 1 k ≡ true = le-leb 1 k (omega arith) in
    let high : nat_le k 65536 ≡ true = le-leb k 65536 (omega arith) in
    rw (low, high) refl
