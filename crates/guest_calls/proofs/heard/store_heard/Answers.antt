use Rattle.edge_abi.specs.declared.asked.Step.TheVariants.{Done}
use Rattle.edge_stores.specs.UnderWays as stores
use Rattle.guest_calls.proofs.Among.{goes_stores}
use Rattle.guest_calls.proofs.heard.store_heard.Goals as goal

pub returns-clause-row : goal.returns-clause-row
returns-clause-row c = goes_stores c.args.tables.now (stores.resumed c.args.under c.args.tables.now.stores c.args.memory.now c.args.reply.now) c.store_reply-number.new.tables c.store_reply-number.new.memory (Done c.store_reply-number.result) c.store_reply-number.ensures
