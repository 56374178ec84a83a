use Rattle.wasm_code.proofs.FirstExpressions.{expression_tells}
use Rattle.wasm_code.proofs.laws.expressions_tell_first.Goals as goal

pub returns : goal.returns
returns c = expression_tells
