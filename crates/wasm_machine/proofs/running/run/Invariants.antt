use Rattle.wasm_meaning.specs.Frames.{Program, State}
use Rattle.wasm_machine.specs.Standing.{IsAt}
use Rattle.wasm_machine.proofs.Simulation.{Reached, Free}
use Rattle.wasm_machine.proofs.running.run.Given as goal

abbrev pub invariant-loop : goal.invariant-loop
invariant-loop l = (program : Program) (s : State) → IsAt program l.initial.thread s → Free program l.fuel s → Reached program l.fuel l.left s l.thread
