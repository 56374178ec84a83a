use Rattle.std.proofs.Common.{◌∙◌}
use Rattle.wasm_validate.proofs.Truth.{faultless_valid, only_memory}
use Rattle.wasm_validate.proofs.valid.validate.Goals as goal

pub invariant_of-result : goal.invariant_of-result
invariant_of-result c = (c.requires, faultless_valid c.args.whole c.requires c.in-Ok.ensures)

pub returns-in-Ok-clause-valid : goal.returns-in-Ok-clause-valid
returns-in-Ok-clause-valid c = faultless_valid c.args.whole c.requires c.in-Ok.ensures

pub returns-in-Err-clause-only : goal.returns-in-Err-clause-only
returns-in-Err-clause-only c = λ v. c.told_of.ensures ∙ only_memory c.in-Err.halt c.args.whole c.in-Err.ensures v
