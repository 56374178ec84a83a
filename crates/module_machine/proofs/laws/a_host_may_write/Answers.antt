use Rattle.std.proofs.Common.{ap}
use Rattle.wasm_meaning.specs.World.{World}
use Rattle.module_machine.proofs.Machines.{written_so}
use Rattle.module_machine.proofs.laws.a_host_may_write.Goals as goal

pub returns-clause-memory : goal.returns-clause-memory
returns-clause-memory c = λ p x s machine h. ap (λ (w : World). w.memory) h.world

pub returns-clause-written : goal.returns-clause-written
returns-clause-written c = written_so
