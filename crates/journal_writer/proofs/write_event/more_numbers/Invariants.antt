use Rattle.std.proofs.Common.{◌≡◌, ◌++◌, take, map}
use Rattle.std.specs.Prelude.{decimal}
use Rattle.std.specs.List.{flat_map}
use Rattle.edge_words.specs.Words.{after_comma}
use Rattle.journal_writer.proofs.write_event.more_numbers.Given as goal

abbrev pub invariant-loop-number : goal.invariant-loop-number
invariant-loop-number l = l.written ≡ l.fn.text ++ flat_map after_comma (map decimal (take l.number-index l.numbers))
