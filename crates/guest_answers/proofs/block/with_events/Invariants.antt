use Rattle.std.proofs.Common.{◌≡◌, ◌++◌, drop}
use Rattle.guest_answers.specs.Blocks.{behind_events, bytes_of}
use Rattle.guest_answers.proofs.block.with_events.Given as goal

abbrev pub invariant-loop-event : goal.invariant-loop-event
invariant-loop-event l =
    (l.fn.written.text ++ bytes_of l.request.method l.fn.written.answer l.events ≡ l.all.text ++ bytes_of l.request.method l.all.answer (drop l.event-index l.events))
    × (behind_events l.request.method l.fn.written.answer l.events ≡ behind_events l.request.method l.all.answer (drop l.event-index l.events))
