-- How many bytes a number is written in.
use Rattle.std.proofs.Common.{◌≡◌, ℕ, zero, suc, ◌/◌, refl, ap, length}
use Rattle.wasm_memory.specs.Bytes.{bytes_of}

pub length_bytes : (k n : ℕ) → length (bytes_of k n) ≡ k
length_bytes zero n = refl
length_bytes (suc k) n = ap suc (length_bytes k (n / 256))
