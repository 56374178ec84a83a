use Rattle.wasm_validate.proofs.Agreement.{body_typed, typed_body}
use Rattle.wasm_validate.proofs.laws.checked_as_typed.Goals as goal

pub returns : goal.returns
returns c s body = (body_typed s body, typed_body s body)
