use Rattle.wasm_sound.proofs.Lawful.{unstuck, goes_on, keeps_world}
use Rattle.wasm_sound.proofs.laws.typed_code_goes_on.Goals as goal

pub returns-clause-unstuck : goal.returns-clause-unstuck
returns-clause-unstuck c = unstuck

pub returns-clause-stands : goal.returns-clause-stands
returns-clause-stands c = goes_on

pub returns-clause-world : goal.returns-clause-world
returns-clause-world c = keeps_world
