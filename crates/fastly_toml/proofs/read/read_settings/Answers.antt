use Rattle.std.proofs.Common.{[], refl, sym}
use Rattle.edge_outside.specs.Made.{Made}
use Rattle.fastly_toml.specs.Reading.{bad, good, no_memory}
use Rattle.fastly_toml.proofs.read.read_settings.Goals as goal

pub returns-in-Ok-Ok-clause-works : goal.returns-in-Ok-Ok-clause-works
returns-in-Ok-Ok-clause-works g c =
    let (reads, (made, gives)) = c.read_good.ensures.works in
    (reads, (made, good _ (sym (rw c.in-Ok-Ok.field-0-is at c.in-Ok-Ok.ensures)) gives))

pub returns-in-Ok-Err-clause-works : goal.returns-in-Ok-Err-clause-works
unfolding Made
returns-in-Ok-Err-clause-works g c = ([], (refl, bad _ (sym (rw c.in-Ok-Err.field-0-is at c.in-Ok-Err.ensures)) refl refl))

pub returns-in-Err-clause-works : goal.returns-in-Err-clause-works
unfolding Made
returns-in-Err-clause-works g c = ([], (refl, no_memory refl refl))
