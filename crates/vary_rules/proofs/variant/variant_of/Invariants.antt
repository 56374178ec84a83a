use Rattle.std.proofs.Common.{◌≡◌, take}
use Rattle.cache_types.specs.Slots.{variant_of}
use Rattle.vary_rules.proofs.variant.variant_of.Given as goal

-- the values for the names so far
abbrev pub invariant-loop-name : goal.invariant-loop-name
invariant-loop-name l = l.variant.items ≡ variant_of (take l.name-index l.name-items) l.headers
