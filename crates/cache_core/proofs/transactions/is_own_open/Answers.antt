use Rattle.std.proofs.Common.{reverse, ◌∙◌}
use Rattle.cache_core.proofs.Standing.{own_open_some, own_open_none}
use Rattle.cache_core.proofs.transactions.is_own_open.Goals as goal

pub returns-in-Some : goal.returns-in-Some
returns-in-Some c =
    c.is_open.ensures
    ∙ own_open_some (reverse c.args.entries.now) c.requires.legal c.args.parts.now c.args.waits.now c.requires.knows c.requires.awaits c.args.guest c.args.tx c.in-Some.entry.now c.in-Some.ensures

pub returns-in-None : goal.returns-in-None
returns-in-None c =
    own_open_none (reverse c.args.entries.now) c.requires.legal c.args.parts.now c.args.waits.now c.requires.knows c.requires.awaits c.args.guest c.args.tx c.in-None.ensures
