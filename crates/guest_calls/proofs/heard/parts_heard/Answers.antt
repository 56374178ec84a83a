use Rattle.body_calls.specs.UnderWays as parts
use Rattle.guest_calls.proofs.Among.{goes_parts}
use Rattle.guest_calls.proofs.heard.parts_heard.Goals as goal

pub returns-clause-row : goal.returns-clause-row
returns-clause-row c = rw c.of_parts.ensures.step (goes_parts c.args.tables.now (parts.resumed c.args.under c.args.tables.now.http c.args.memory.now c.args.reply.now) c.resumed.new.tables c.resumed.new.memory c.in_ok-step.step c.in_ok-step.ensures.row)
