use Rattle.std.proofs.Common.{ap, ◌∙◌}
use Rattle.cache_types.specs.Transactions.{transactions}
use Rattle.cache_core.specs.Waits.{holds_by}
use Rattle.cache_core.proofs.Standing.{holds_is}
use Rattle.cache_core.proofs.holding.is_held.Goals as goal

pub returns : goal.returns
returns c = λ past legal knows awaits.
    c.holds.ensures ∙ ap (holds_by c.args.waits.now.endings c.args.parts.now.guests) (c.newest.ensures (transactions past) awaits.goals)
    ∙ holds_is past legal c.args.parts.now c.args.waits.now knows awaits c.args.goal.now
