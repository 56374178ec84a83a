use Rattle.run_files.specs.Machine.{seen}
use Rattle.run_files.proofs.Machines.{stands_on}
use Rattle.run_files.proofs.machine.StateLineMachine.next.Goals as goal

pub returns-clause-stands : goal.returns-clause-stands
returns-clause-stands c = stands_on (seen c.args.self) c.args.line.now c.next_state.result c.requires.stands c.next_state.ensures
