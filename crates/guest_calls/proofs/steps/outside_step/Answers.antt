use Rattle.edge_stores.specs.UnderWays as stores
use Rattle.guest_calls.specs.Rows.{outside_row}
use Rattle.guest_calls.proofs.Among.{goes_stores}
use Rattle.guest_calls.proofs.Links.{unlinked, outside_none}
use Rattle.guest_calls.proofs.steps.outside_step.Goals as goal

pub returns-clause-row : goal.returns-clause-row
returns-clause-row c = rw c.of_stores.ensures.step (goes_stores c.args.tables.now (outside_row c.args.call c.args.words c.args.tables.now.stores c.args.memory.now) c.outside_row.new.tables c.outside_row.new.memory c.in_ok-step.step c.in_ok-step.ensures)

pub returns-clause-unlinked : goal.returns-clause-unlinked
returns-clause-unlinked c = c.of_stores.ensures.unlinked (unlinked stores.resumed (outside_row c.args.call c.args.words c.args.tables.now.stores c.args.memory.now) c.outside_row.new.tables c.outside_row.new.memory c.in_ok-step.step (outside_none c.args.call c.args.words c.args.tables.now.stores c.args.memory.now) c.in_ok-step.ensures)
