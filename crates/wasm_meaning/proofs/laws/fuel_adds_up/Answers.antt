use Rattle.wasm_meaning.proofs.Adding.{adds}
use Rattle.wasm_meaning.proofs.laws.fuel_adds_up.Goals as goal

pub returns : goal.returns
returns c = adds
