use Rattle.std.proofs.Common.{◌≡◌, ℕ, List, take, true}
use Rattle.cache_types.specs.Objects.{has_key}
use Rattle.cache_purge.specs.Keys.{named_at, is_named, IsMore}
use Rattle.cache_purge.proofs.keys.add_all.Given as goal

abbrev pub invariant-loop-i : goal.invariant-loop-i
invariant-loop-i l = IsMore l.fn.keys l.keys × ((key : List ℕ) → has_key (take l.i l.surrogates) key ≡ true → is_named l.object (named_at l.keys key) ≡ true)
