use Rattle.std.proofs.Common.{reverse, sym, ◌∙◌}
use Rattle.cache_types.specs.Objects.{insertions}
use Rattle.cache_core.proofs.Lookups.{if_ok}
use Rattle.cache_core.proofs.GoalSlots.{goal_found, goal_new}
use Rattle.cache_core.proofs.holding.goal_of.Goals as goal

pub returns-in-Some : goal.returns-in-Some
returns-in-Some c = λ past knows. goal_found past c.args.key.now c.args.headers.now c.in-Some.slot (sym c.in-Some.is ∙ c.in_ok-slot.ensures past knows)

pub returns-in-None : goal.returns-in-None
returns-in-None c =
    if_ok c.slot_for_new.result
    (λ slot is past knows. goal_new past c.args.key.now c.args.headers.now (reverse c.rules.result.now) slot (sym c.in-None.is ∙ c.in_ok-slot.ensures past knows) (c.rules.ensures (insertions past) knows.told) is)
    c.slot_for_new.ensures
