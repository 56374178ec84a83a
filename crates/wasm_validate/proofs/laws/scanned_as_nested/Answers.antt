use Rattle.wasm_validate.proofs.Flat.{scan_body}
use Rattle.wasm_validate.proofs.laws.scanned_as_nested.Goals as goal

pub returns : goal.returns
returns c = scan_body
