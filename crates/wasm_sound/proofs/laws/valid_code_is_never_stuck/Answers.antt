use Rattle.wasm_sound.proofs.Lawful.{valid_unstuck}
use Rattle.wasm_sound.proofs.laws.valid_code_is_never_stuck.Goals as goal

pub returns : goal.returns
returns c = valid_unstuck
