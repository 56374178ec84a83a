use Rattle.cache_calls.specs.Replies as cache
use Rattle.cache_calls.specs.Tables.{both}
use Rattle.guest_calls.specs.Rows.{with_cache}
use Rattle.guest_calls.proofs.Among.{goes_done}
use Rattle.guest_calls.proofs.heard.cache_heard.Goals as goal

pub returns-clause-row : goal.returns-clause-row
returns-clause-row c = goes_done (with_cache c.args.tables.now) (cache.resumed c.args.under (both c.args.tables.now.http c.args.tables.now.cache) c.args.memory.now c.args.reply.now) (both c.cache_reply.new.http c.cache_reply.new.tables) c.cache_reply.new.memory c.in_ok-status.status c.number.result c.in_ok-status.ensures c.number.ensures
