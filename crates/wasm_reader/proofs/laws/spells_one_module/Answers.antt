use Rattle.std.proofs.Common.{sym, ◌∙◌}
use Rattle.wasm_code.proofs.Steps.{ok_is}
use Rattle.wasm_reader.proofs.ExactModule.{module_complete}
use Rattle.wasm_reader.proofs.laws.spells_one_module.Goals as goal

pub returns : goal.returns
returns c = λ bytes m n one other. ok_is m n (sym (module_complete bytes m one) ∙ module_complete bytes n other)
