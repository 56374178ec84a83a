use Rattle.guest_calls.specs.Rows.{parts_row}
use Rattle.guest_calls.proofs.Among.{goes_parts}
use Rattle.guest_calls.proofs.steps.parts_step.Goals as goal

pub returns-clause-row : goal.returns-clause-row
returns-clause-row c = rw c.of_parts.ensures.step (goes_parts c.args.tables.now (parts_row c.args.call c.args.tables.now.request c.args.words c.args.tables.now.http c.args.memory.now) c.parts_row.new.tables c.parts_row.new.memory c.in_ok-step.step c.in_ok-step.ensures.row)
