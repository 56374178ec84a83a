use Rattle.wasm_code.proofs.FirstExpressions.{value_type_reads}
use Rattle.wasm_reader.proofs.FirstParts.{name_reads, bytes_reads, func_type_reads, limits_reads, table_reads, memory_reads, global_type_reads, import_reads, global_reads, export_reads, start_reads, element_reads, segment_reads}
use Rattle.wasm_reader.proofs.laws.parts_tell_first.Goals as goal

pub returns-clause-names : goal.returns-clause-names
returns-clause-names c = name_reads.tells

pub returns-clause-bytes : goal.returns-clause-bytes
returns-clause-bytes c = bytes_reads.tells

pub returns-clause-value_types : goal.returns-clause-value_types
returns-clause-value_types c = value_type_reads.tells

pub returns-clause-function_types : goal.returns-clause-function_types
returns-clause-function_types c = func_type_reads.tells

pub returns-clause-limits : goal.returns-clause-limits
returns-clause-limits c = λ least most. (limits_reads least most).tells

pub returns-clause-tables : goal.returns-clause-tables
returns-clause-tables c = table_reads.tells

pub returns-clause-memories : goal.returns-clause-memories
returns-clause-memories c = memory_reads.tells

pub returns-clause-global_types : goal.returns-clause-global_types
returns-clause-global_types c = global_type_reads.tells

pub returns-clause-imports : goal.returns-clause-imports
returns-clause-imports c = import_reads.tells

pub returns-clause-globals : goal.returns-clause-globals
returns-clause-globals c = global_reads.tells

pub returns-clause-exports : goal.returns-clause-exports
returns-clause-exports c = export_reads.tells

pub returns-clause-starts : goal.returns-clause-starts
returns-clause-starts c = start_reads.tells

pub returns-clause-elements : goal.returns-clause-elements
returns-clause-elements c = element_reads.tells

pub returns-clause-segments : goal.returns-clause-segments
returns-clause-segments c = segment_reads.tells
