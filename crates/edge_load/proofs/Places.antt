-- A place of 64 bits is one of 68 bits.
use Rattle.std.specs.Prelude.{◌≡◌, ℕ, ◌%◌, ◌^◌, ◌<◌}
use Rattle.std.proofs.Common.{arith}

pub place_same : (place : ℕ) → place < 2 ^ 64 → place % 2 ^ 68 ≡ place
place_same place small = omega arith
