use Rattle.wasm_reader.proofs.FirstCode.{body_tells, code_tells}
use Rattle.wasm_reader.proofs.FirstModule.{sections_chain}
use Rattle.wasm_reader.proofs.laws.sections_tell_first.Goals as goal

pub returns-clause-bodies : goal.returns-clause-bodies
returns-clause-bodies c = λ params. (body_tells params).tells

pub returns-clause-code : goal.returns-clause-code
returns-clause-code c = λ types functions. (code_tells types functions).tells

pub returns-clause-sections : goal.returns-clause-sections
returns-clause-sections c = sections_chain.tells
