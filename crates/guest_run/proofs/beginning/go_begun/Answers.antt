use Rattle.guest_run.proofs.Instances.{begins_in, segment_ends}
use Rattle.guest_run.proofs.Runs.{in_some}
use Rattle.guest_run.proofs.beginning.go_begun.Goals as goal

pub returns-in-Ok-clause-comes_to : goal.returns-in-Ok-clause-comes_to
returns-in-Ok-clause-comes_to c = λ meaning h.
    let g = c.args.guest.now in
    let next = begins_in g.service.now g.tables meaning c.in-Ok.machine h c.in-Ok.ensures in
    rw c.set_machine.ensures (in_some g.service.now.calls.items c.begin-pause.result c.begin-pause.new.machine c.begin-pause.new.tables meaning (c.begin-pause.ensures meaning next))

pub returns-in-Err-Segment-clause-comes_to : goal.returns-in-Err-Segment-clause-comes_to
returns-in-Err-Segment-clause-comes_to c = λ meaning h.
    let g = c.args.guest.now in
    segment_ends g.service.now g.tables meaning h (rw c.in-Err-Segment.field-0-is at c.in-Err-Segment.ensures)
