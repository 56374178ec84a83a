use Rattle.std.proofs.Common.{ap, ◌∙◌, reverse}
use Rattle.cache_core.specs.Writes.{write_by}
use Rattle.cache_core.proofs.Writing.{write_is}
use Rattle.cache_core.proofs.bodies.write.Goals as goal

pub returns : goal.returns
returns c = c.write_by.ensures ∙ ap (write_by c.args.piece.now) c.in_ok-writable.ensures ∙ write_is (reverse c.args.entries.now) c.args.guest c.args.object c.args.piece.now
