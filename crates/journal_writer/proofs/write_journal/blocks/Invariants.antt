use Rattle.std.proofs.Common.{◌≡◌, ◌++◌, take}
use Rattle.std.specs.List.{flat_map}
use Rattle.edge_words.specs.Words.{text_of}
use Rattle.journal_writer.specs.Journal.{done_lines}
use Rattle.journal_writer.proofs.write_journal.blocks.Given as goal

abbrev pub invariant-loop-done : goal.invariant-loop-done
invariant-loop-done l = l.written ≡ l.fn.text ++ text_of (flat_map done_lines (take l.done-index l.guests))
