use Rattle.guest_run.proofs.Runs.{heard_lives}
use Rattle.guest_run.proofs.life.hear.Goals as goal

pub returns : goal.returns
returns c = λ cs meaning hearing.
    heard_lives cs meaning c.args.left c.args.under c.args.reply.now c.args.machine.now c.args.tables.now c.goes_on.new.memory c.goes_on.new.tables c.in_ok-step.step c.after_row.result c.take_memory.new.machine c.put_memory.new.self c.after_row.new.machine c.in_ok-memory.memory
    hearing c.in_ok-memory.ensures.memory c.in_ok-step.ensures.row c.in_ok-step.ensures.unlinked c.take_memory.ensures.taken c.put_memory.ensures c.after_row.ensures
