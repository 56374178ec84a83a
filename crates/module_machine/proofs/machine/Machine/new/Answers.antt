use Rattle.std.proofs.Common.{◌∙◌, ap}
use Rattle.wasm_meaning.specs.World.{Desk}
use Rattle.wasm_instance.specs.Starting.{seen}
use Rattle.module_machine.proofs.Machines.{starts_so}
use Rattle.module_machine.proofs.machine.Machine.new.Goals as goal

pub returns-in-Ok : goal.returns-in-Ok
returns-in-Ok c = λ m image.
    starts_so m (record { image = c.args.image; thread = c.idle-thread.result; memory = c.in-Ok.begun.memory }) (seen c.in-Ok.begun) image c.in-Ok.ensures
    (ap (λ (d : Desk). record d.world { memory = c.in-Ok.begun.memory }) c.idle-thread.ensures.desk ∙ ap (λ gs. record { globals = gs; memory = c.in-Ok.begun.memory }) c.new-desk.ensures.globals)
