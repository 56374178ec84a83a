use Rattle.wasm_memory.proofs.Writes.{written_below, written_beyond, length_written}
use Rattle.wasm_memory.proofs.laws.only_the_part_changes.Goals as goal

pub returns-clause-below : goal.returns-clause-below
returns-clause-below c = written_below

pub returns-clause-beyond : goal.returns-clause-beyond
returns-clause-beyond c = written_beyond

pub returns-clause-len : goal.returns-clause-len
returns-clause-len c = length_written
