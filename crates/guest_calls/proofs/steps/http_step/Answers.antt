use Rattle.guest_calls.specs.Rows.{with_http, http_row}
use Rattle.guest_calls.proofs.Among.{goes_done}
use Rattle.guest_calls.proofs.steps.http_step.Goals as goal

pub returns-clause-row : goal.returns-clause-row
returns-clause-row c = goes_done (with_http c.args.tables.now) (http_row c.args.call c.args.words c.args.tables.now.http c.args.memory.now) c.http_row.new.tables c.http_row.new.memory c.in_ok-status.status c.number.result c.in_ok-status.ensures c.number.ensures
