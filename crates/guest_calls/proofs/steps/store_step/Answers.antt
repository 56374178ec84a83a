use Rattle.guest_calls.specs.Rows.{with_stores, store_row}
use Rattle.guest_calls.proofs.Among.{goes_done}
use Rattle.guest_calls.proofs.steps.store_step.Goals as goal

pub returns-clause-row : goal.returns-clause-row
returns-clause-row c = goes_done (with_stores c.args.tables.now) (store_row c.args.call c.args.version c.args.words c.args.tables.now.stores c.args.tables.now.settings c.args.memory.now) c.store_row.new.tables c.store_row.new.memory c.in_ok-status.status c.number.result (rw c.get-settings.ensures at c.in_ok-status.ensures) c.number.ensures
