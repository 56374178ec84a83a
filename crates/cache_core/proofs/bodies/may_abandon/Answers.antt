use Rattle.std.proofs.Common.{ap, ◌∙◌, reverse}
use Rattle.std.specs.Prelude.{is_some}
use Rattle.cache_core.proofs.Results.{some_copied}
use Rattle.cache_core.proofs.Writing.{abandon_is}
use Rattle.cache_core.proofs.bodies.may_abandon.Goals as goal

pub returns : goal.returns
returns c =
    c.is_some.ensures ∙ some_copied c.in_ok-writable.field-0 ∙ ap is_some c.in_ok-writable.ensures
    ∙ abandon_is (reverse c.args.entries.now) c.args.guest c.args.object
