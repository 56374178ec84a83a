use Rattle.std.specs.Prelude.{◌≡◌, drop}
use Rattle.std.specs.Cmp.Lexicographic.{slice_cmp}
use Rattle.cache_slots.specs.SlotOrder.{rule_cmp}
use Rattle.cache_slots.proofs.variants.variants_cmp.Given as goal

abbrev pub invariant-loop-i : goal.invariant-loop-i
invariant-loop-i l = slice_cmp rule_cmp l.a l.b ≡ slice_cmp rule_cmp (drop l.i l.a) (drop l.i l.b)
