use Rattle.hub_tests.proofs.May.{may_ask, no_end}
use Rattle.hub_tests.proofs.asked.ask_until.Goals as goal

pub call_timed-pass-requires-clause-may : goal.call_timed-pass-requires-clause-may
call_timed-pass-requires-clause-may g c = may_ask c.args.pass c.args.guest c.args.call.now c.requires.guest c.requires.call

pub returns-clause-guest : goal.returns-clause-guest
returns-clause-guest g c = c.call_timed-pass.ensures.guests c.args.guest c.requires.guest (no_end c.args.guest c.args.call.now c.requires.call)
