use Rattle.wasm_machine.proofs.Starting.{started_at}
use Rattle.wasm_machine.proofs.running.start.Goals as goal

pub returns-in-Ok : goal.returns-in-Ok
returns-in-Ok c = λ program f body p known none has. started_at program c.args.thread.now c.begin.new.self c.args.function f body p known none has c.in-Ok.ensures
