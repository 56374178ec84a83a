use Rattle.edge_abi.specs.declared.asked.Step.TheVariants.{Done}
use Rattle.guest_calls.specs.Rows.{wasi_row}
use Rattle.guest_calls.proofs.Among.{goes_stores}
use Rattle.guest_calls.proofs.steps.wasi_step.Goals as goal

pub returns-clause-row : goal.returns-clause-row
returns-clause-row c = goes_stores c.args.tables.now (wasi_row c.args.call c.args.words c.args.tables.now.stores c.args.memory.now) c.wasi_row.new.tables c.wasi_row.new.memory (Done c.in_ok-number.number) c.in_ok-number.ensures
