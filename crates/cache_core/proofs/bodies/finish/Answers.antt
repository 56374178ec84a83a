use Rattle.std.proofs.Common.{ap, ◌∙◌, reverse}
use Rattle.cache_core.specs.Writes.{finish_by}
use Rattle.cache_core.proofs.Writing.{finish_is}
use Rattle.cache_core.proofs.bodies.finish.Goals as goal

pub returns : goal.returns
returns c = c.finish_by.ensures ∙ ap finish_by c.in_ok-writable.ensures ∙ finish_is (reverse c.args.entries.now) c.args.guest c.args.object
