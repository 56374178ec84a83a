use Rattle.wasm_sound.proofs.Starting.{starts_unstuck}
use Rattle.wasm_sound.proofs.Lawful.{program_typed, first_state_typed}
use Rattle.wasm_sound.proofs.laws.valid_modules_start_typed.Goals as goal

pub returns-clause-unstuck : goal.returns-clause-unstuck
returns-clause-unstuck c = starts_unstuck

pub returns-clause-program : goal.returns-clause-program
returns-clause-program c = program_typed

pub returns-clause-first : goal.returns-clause-first
returns-clause-first c = first_state_typed
