use Rattle.std.proofs.Common.{sym}
use Rattle.guest_run.proofs.Runs.{strays}
use Rattle.guest_run.proofs.life.called.Goals as goal

pub returns-in-Some-clause-lives : goal.returns-in-Some-clause-lives
returns-in-Some-clause-lives c = λ meaning calling. c.call_on.ensures.lives c.args.calls.now meaning c.args.import (sym c.in-Some.ensures) calling

pub returns-in-None-clause-lives : goal.returns-in-None-clause-lives
returns-in-None-clause-lives c = λ meaning calling.
    rw c.ending.ensures (strays c.args.calls.now meaning c.args.left c.args.import c.args.arguments.now c.args.machine.now c.args.tables.now (sym c.in-None.ensures) calling)
