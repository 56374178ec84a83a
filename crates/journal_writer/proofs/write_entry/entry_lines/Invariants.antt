use Rattle.std.proofs.Common.{◌≡◌, ◌++◌, take, map}
use Rattle.edge_words.specs.Words.{text_of}
use Rattle.journal_writer.specs.Journal.{entry_text}
use Rattle.journal_writer.proofs.write_entry.entry_lines.Given as goal

abbrev pub invariant-loop-entry : goal.invariant-loop-entry
invariant-loop-entry l = l.written ≡ l.fn.text ++ text_of (map entry_text (take l.entry-index l.entries))
