use Rattle.std.proofs.Common.{sym, ◌∙◌, ◌-◌, length, refl}
use Rattle.cache_core.proofs.GoalSlots.{slot_here}
use Rattle.cache_core.proofs.holding.found_slot.Goals as goal

pub returns-then-is_some : goal.returns-then-is_some
returns-then-is_some c = λ past knows.
    let rules = c.rules-rules.result.now in
    slot_here past c.args.key.now c.args.headers.now rules c.loop-i.i (length rules - 1 - c.loop-i.i) c.index-rules-rules.result _ c.in_ok-slot.slot refl c.loop-i-test.true c.index-rules-rules.is (c.in_ok-slot.ensures past knows)
    (sym c.is_some.ensures ∙ c.if-is_some.true) (c.loop-i.invariant past knows)
