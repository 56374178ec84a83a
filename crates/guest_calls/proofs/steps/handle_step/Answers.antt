use Rattle.cache_calls.specs.Tables.{both}
use Rattle.guest_calls.specs.Rows.{with_cache, handle_row}
use Rattle.guest_calls.proofs.Among.{goes_done}
use Rattle.guest_calls.proofs.steps.handle_step.Goals as goal

pub returns-clause-row : goal.returns-clause-row
returns-clause-row c = goes_done (with_cache c.args.tables.now) (handle_row c.args.call c.args.words (both c.args.tables.now.http c.args.tables.now.cache) c.args.memory.now) (both c.handle_row.new.http c.handle_row.new.tables) c.handle_row.new.memory c.in_ok-status.status c.number.result c.in_ok-status.ensures c.number.ensures
