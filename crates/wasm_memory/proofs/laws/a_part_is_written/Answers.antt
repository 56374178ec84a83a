use Rattle.wasm_memory.proofs.Writes.{part_fits}
use Rattle.wasm_memory.proofs.laws.a_part_is_written.Goals as goal

pub returns : goal.returns
returns c = part_fits
