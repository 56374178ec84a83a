use Rattle.std.proofs.Common.{ap, ◌∙◌}
use Rattle.cache_types.specs.Objects.{insertions}
use Rattle.cache_index.specs.Told.{object_told}
use Rattle.cache_core.specs.Living.{living}
use Rattle.cache_core.proofs.Searching.{under}
use Rattle.cache_core.proofs.finding.alive_under.Goals as goal

pub returns : goal.returns
returns c = λ past knows.
    c.living.ensures ∙ ap (living c.args.parts.now.objects) (c.object.ensures (insertions past) knows.told ∙ ap (object_told (insertions past)) c.in_ok-slot.ensures)
    ∙ under past c.args.parts.now knows c.args.key.now c.args.headers.now c.args.rule.now
