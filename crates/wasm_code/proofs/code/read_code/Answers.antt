use Rattle.wasm_code.proofs.CodeLaws.{found_code, only_code, first_code}
use Rattle.wasm_code.proofs.code.read_code.Goals as goal

pub returns-clause-found : goal.returns-clause-found
returns-clause-found c = found_code c.args.bytes.now c.args.place c.args.until c.code_from.result c.requires.in_order c.requires.within c.code_from.ensures

pub returns-clause-only : goal.returns-clause-only
returns-clause-only c = only_code c.args.bytes.now c.args.place c.args.until c.code_from.result c.code_from.ensures

pub returns-clause-first : goal.returns-clause-first
returns-clause-first c = first_code c.args.bytes.now c.args.place c.args.until c.code_from.result c.code_from.ensures
