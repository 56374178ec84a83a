use Rattle.std.proofs.Common.{◌≡◌, take}
use Rattle.cache_types.specs.Slots.{values_of}
use Rattle.vary_rules.proofs.variant.values_with_name.Given as goal

-- the values among the headers so far
abbrev pub invariant-loop-field : goal.invariant-loop-field
invariant-loop-field l = l.values.items ≡ values_of l.name (take l.field-index l.field-items)
