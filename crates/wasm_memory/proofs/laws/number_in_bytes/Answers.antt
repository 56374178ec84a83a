use Rattle.wasm_memory.proofs.Writes.{number_of_bytes}
use Rattle.wasm_memory.proofs.laws.number_in_bytes.Goals as goal

pub returns : goal.returns
returns c = number_of_bytes
