use Rattle.module_machine.proofs.Programs.{program_of}
use Rattle.module_machine.proofs.laws.an_image_has_a_program.Goals as goal

pub returns : goal.returns
returns c = λ m image i is. program_of m i is.ready.one_count is.valid is.imports
