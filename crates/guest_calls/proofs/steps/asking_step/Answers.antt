use Rattle.cache_calls.specs.Replies as cache
use Rattle.cache_calls.specs.Tables.{both}
use Rattle.guest_calls.specs.Rows.{asking_row}
use Rattle.guest_calls.proofs.Among.{goes_cache}
use Rattle.guest_calls.proofs.Links.{unlinked, asking_none}
use Rattle.guest_calls.proofs.steps.asking_step.Goals as goal

pub returns-clause-row : goal.returns-clause-row
returns-clause-row c = rw c.of_cache.ensures.step (goes_cache c.args.tables.now (asking_row c.args.call c.args.words (both c.args.tables.now.http c.args.tables.now.cache) c.args.memory.now) (both c.asking_row.new.http c.asking_row.new.tables) c.asking_row.new.memory c.in_ok-step.step c.in_ok-step.ensures)

pub returns-clause-unlinked : goal.returns-clause-unlinked
returns-clause-unlinked c = c.of_cache.ensures.unlinked (unlinked cache.resumed (asking_row c.args.call c.args.words (both c.args.tables.now.http c.args.tables.now.cache) c.args.memory.now) (both c.asking_row.new.http c.asking_row.new.tables) c.asking_row.new.memory c.in_ok-step.step (asking_none c.args.call c.args.words (both c.args.tables.now.http c.args.tables.now.cache) c.args.memory.now) c.in_ok-step.ensures)
