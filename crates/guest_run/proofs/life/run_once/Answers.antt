use Rattle.std.proofs.Common.{arith}
use Rattle.std.specs.Prelude.{◌<◌}
use Rattle.guest_run.proofs.Runs.{returns, starves, traps, calls_out, less_left}
use Rattle.guest_run.proofs.life.run_once.Goals as goal

pub returns-in-Returned-clause-lives : goal.returns-in-Returned-clause-lives
returns-in-Returned-clause-lives c = λ meaning going.
    c.returned.ensures.lives c.args.calls.now meaning c.args.tables.now (returns c.args.calls.now meaning c.args.left c.args.machine.now c.args.tables.now c.run-stop.new.self c.run-stop.result.1 (rw c.in-Returned.is at c.run-stop.ensures) going)

pub returns-in-OutOfFuel-clause-lives : goal.returns-in-OutOfFuel-clause-lives
returns-in-OutOfFuel-clause-lives c = λ meaning going.
    rw c.ending-in-OutOfFuel.ensures (starves c.args.calls.now meaning c.args.left c.args.machine.now c.args.tables.now c.run-stop.new.self c.run-stop.result.1 (rw c.in-OutOfFuel.is at c.run-stop.ensures) going)

pub returns-in-Trapped-clause-lives : goal.returns-in-Trapped-clause-lives
returns-in-Trapped-clause-lives c = λ meaning going.
    rw (c.ending.ensures, c.trap_number.ensures) (traps c.args.calls.now meaning c.args.left c.args.machine.now c.args.tables.now c.in-Trapped.kind c.run-stop.new.self c.run-stop.result.1 (rw c.in-Trapped.is at c.run-stop.ensures) going)

pub returns-else-left-rest-clause-lives : goal.returns-else-left-rest-clause-lives
returns-else-left-rest-clause-lives c = λ meaning going.
    let less : c.run-stop.result.1 < c.args.left.fuel = omega arith in
    let calling = calls_out c.args.calls.now meaning c.args.left c.args.machine.now c.args.tables.now c.in-HostCall.import c.in-HostCall.arguments c.run-stop.new.self c.run-stop.result.1 less (rw c.in-HostCall.is at c.run-stop.ensures) going in
    c.called.ensures.lives meaning (rw c.items.ensures calling)

pub returns-else-left-rest-clause-less : goal.returns-else-left-rest-clause-less
returns-else-left-rest-clause-less c =
    let less : c.run-stop.result.1 < c.args.left.fuel = omega arith in
    less_left c.called.result _ c.args.left c.called.ensures.left (omega (arith, less))
