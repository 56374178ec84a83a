use Rattle.std.proofs.Common.{arith, sym, ◌∙◌}
use Rattle.cache_slots.specs.SlotOrder.{rule_cmp}
use Rattle.cache_slots.proofs.Deciding.{lengths-decide}
use Rattle.cache_slots.proofs.variants.variants_cmp.Goals as goal

pub returns : goal.returns
returns c =
    let end = c.min-i-end.ensures in
    c.cmp-2.ensures
    ∙ sym (lengths-decide rule_cmp c.args.a.now c.args.b.now c.loop-i.i (omega (arith, end, c.loop-i.auto.i-end, c.loop-i-test.false)) (omega (arith, end, c.loop-i.auto.i-end, c.loop-i-test.false))
    (λ less. omega (arith, end, less, c.loop-i.auto.i-end, c.loop-i-test.false)))
    ∙ sym c.loop-i.invariant
