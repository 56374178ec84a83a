use Rattle.wasm_jumps.proofs.Tables.{Continues}
use Rattle.wasm_jumps.proofs.tables_of.Given as goal

abbrev pub invariant-loop-code : goal.invariant-loop-code
invariant-loop-code l = Continues l.codes l.code-index l.tables.items
