use Rattle.wasm_code.proofs.FirstNumbers.{u32_reads, s32_reads, s64_reads}
use Rattle.wasm_code.proofs.laws.numbers_tell_first.Goals as goal

pub returns-clause-u32 : goal.returns-clause-u32
returns-clause-u32 c = u32_reads.tells

pub returns-clause-s32 : goal.returns-clause-s32
returns-clause-s32 c = s32_reads.tells

pub returns-clause-s64 : goal.returns-clause-s64
returns-clause-s64 c = s64_reads.tells
