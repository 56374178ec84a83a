use Rattle.std.specs.Prelude.{ℕ, List}
use Rattle.std.proofs.Common.{sym, subst}
use Rattle.guest_run.specs.Lives.{IsNext}
use Rattle.guest_run.proofs.Runs.{begins_next}
use Rattle.guest_run.proofs.beginning.begin.Goals as goal

pub returns : goal.returns
returns c = λ meaning h.
    let service = c.args.service.now in
    let next = subst (λ (indices : List ℕ). IsNext service.calls.items meaning service.fuel indices c.args.machine.now c.args.tables.now) (sym c.starts-function.ensures) h in
    let going = begins_next service.calls.items meaning service.fuel c.starts-function.result.0 c.starts-function.result.1 c.args.machine.now c.start.new.self c.args.tables.now next c.in_ok-start.ensures.stands in
    (rw c.as_slice.ensures.value at c.live_on.ensures) meaning going
