use Rattle.guest_run.proofs.Runs.{row_lives}
use Rattle.guest_run.proofs.life.start_row.Goals as goal

pub returns-clause-lives : goal.returns-clause-lives
returns-clause-lives c = λ cs meaning x is calling.
    row_lives cs meaning c.args.left x c.args.arguments.now c.args.call c.args.machine.now c.args.tables.now c.row.new.memory c.row.new.tables c.in_ok-step.step c.after_row.result c.take_memory.new.machine c.put_memory.new.self c.after_row.new.machine c.in_ok-memory.memory
    is calling c.in_ok-memory.ensures.memory c.in_ok-step.ensures.row c.in_ok-step.ensures.unlinked c.take_memory.ensures.taken c.put_memory.ensures c.after_row.ensures
