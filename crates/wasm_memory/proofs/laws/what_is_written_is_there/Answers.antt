use Rattle.wasm_memory.proofs.Writes.{written_there}
use Rattle.wasm_memory.proofs.laws.what_is_written_is_there.Goals as goal

pub returns : goal.returns
returns c = written_there
