-- A Read asks for no more than the cache gives.
use Rattle.std.proofs.Common.{◌≡◌, true, refl}
use Rattle.cache_types.specs.Limits.{is_from_to}

pub read_within : is_from_to 1 65536 65536 ≡ true
read_within = refl
