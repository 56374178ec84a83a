use Rattle.wasm_num.proofs.Signs.{remains}
use Rattle.wasm_num.proofs.laws.remainder_has_the_sign.Goals as goal

pub returns : goal.returns
returns c = remains
