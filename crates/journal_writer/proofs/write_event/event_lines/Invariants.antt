use Rattle.std.proofs.Common.{◌≡◌, ◌++◌, take, map}
use Rattle.edge_words.specs.Words.{text_of}
use Rattle.journal_writer.specs.Journal.{event_text}
use Rattle.journal_writer.proofs.write_event.event_lines.Given as goal

abbrev pub invariant-loop-event : goal.invariant-loop-event
invariant-loop-event l = l.written ≡ l.fn.text ++ text_of (map event_text (take l.event-index l.events))
