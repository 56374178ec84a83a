use Rattle.wasm_reader.proofs.ModuleLaws.{found_module, only_module, first_module}
use Rattle.wasm_reader.proofs.module.read_module.Goals as goal

pub returns-clause-found : goal.returns-clause-found
returns-clause-found c = found_module c.args.bytes.now c.read_all.result c.read_all.ensures

pub returns-clause-only : goal.returns-clause-only
returns-clause-only c = only_module c.args.bytes.now c.read_all.result c.read_all.ensures

pub returns-clause-first : goal.returns-clause-first
returns-clause-first c = first_module c.args.bytes.now c.read_all.result c.read_all.ensures
