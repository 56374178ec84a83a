use Rattle.std.proofs.Common.{ap, ◌∙◌}
use Rattle.cache_types.specs.Objects.{insertions}
use Rattle.cache_index.specs.Told.{object_told}
use Rattle.cache_core.specs.Living.{living}
use Rattle.cache_core.proofs.GoalSlots.{slot_by}
use Rattle.cache_core.proofs.holding.alive_slot.Goals as goal

pub returns : goal.returns
returns c = λ past knows.
    c.slot_if.ensures
    ∙ slot_by past c.args.parts.now knows c.args.key.now c.args.headers.now c.args.rule.now c.in_ok-slot.slot c.living-object.result c.in_ok-slot.ensures
    (c.living-object.ensures ∙ ap (living c.args.parts.now.objects) (c.object.ensures (insertions past) knows.told ∙ ap (object_told (insertions past)) c.in_ok-slot.ensures))
