use Rattle.std.proofs.Common.{◌≡◌, drop}
use Rattle.guest_run.specs.Services.{calls_of}
use Rattle.guest_run.proofs.Calls.{with_calls}
use Rattle.guest_run.proofs.service.calls_of.Given as goal

abbrev pub invariant-loop-hostcall : goal.invariant-loop-hostcall
invariant-loop-hostcall l = with_calls l.calls.items (calls_of (drop l.hostcall-index l.hostcalls)) ≡ calls_of l.hostcalls
