use Rattle.wasm_validate.proofs.Sized.{tables_count, memories_count}
use Rattle.wasm_validate.proofs.module.check_module.Goals as goal

pub check_rest-requires-clause-tables_is : goal.check_rest-requires-clause-tables_is
check_rest-requires-clause-tables_is c = tables_count c.args.whole.now c.in_ok-tables.tables c.in_ok-tables.ensures

pub check_rest-requires-clause-memories_is : goal.check_rest-requires-clause-memories_is
check_rest-requires-clause-memories_is c = memories_count c.args.whole.now c.in_ok-memories.memories c.in_ok-memories.ensures
