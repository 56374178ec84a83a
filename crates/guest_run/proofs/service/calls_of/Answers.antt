use Rattle.std.proofs.Common.{sym, arith}
use Rattle.guest_run.specs.Services.{calls_of}
use Rattle.guest_run.proofs.Calls.{none_before, one_more, one_lacks, none_left}
use Rattle.guest_run.proofs.service.calls_of.Goals as goal

pub loop-hostcall-init : goal.loop-hostcall-init
loop-hostcall-init c = rw c.new-calls.ensures.items (none_before (calls_of c.args.hostcalls.now))

pub loop-hostcall-preserved : goal.loop-hostcall-preserved
loop-hostcall-preserved c =
    rw c.in_ok-push-in-Some.ensures.items
    (one_more c.args.hostcalls.now c.loop-hostcall.calls.items c.loop-hostcall.hostcall-index _ c.in-Some.call c.loop-hostcall.invariant c.loop-hostcall-test.true (sym c.in-Some.ensures))

pub returns-in-None-clause-fault : goal.returns-in-None-clause-fault
returns-in-None-clause-fault c =
    one_lacks c.args.hostcalls.now c.loop-hostcall.calls.items c.loop-hostcall.hostcall-index _ c.loop-hostcall.invariant c.loop-hostcall-test.true (sym c.in-None.ensures)

pub returns-clause-calls : goal.returns-clause-calls
returns-clause-calls c = none_left c.args.hostcalls.now c.loop-hostcall.calls.items c.loop-hostcall.hostcall-index c.loop-hostcall.invariant (omega arith)
