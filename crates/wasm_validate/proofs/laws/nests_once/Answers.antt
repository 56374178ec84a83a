use Rattle.wasm_validate.proofs.Once.{nests_once}
use Rattle.wasm_validate.proofs.laws.nests_once.Goals as goal

pub returns : goal.returns
returns c = nests_once
