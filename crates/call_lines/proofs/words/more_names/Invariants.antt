use Rattle.std.proofs.Common.{◌≡◌, ◌++◌, take}
use Rattle.std.specs.List.{flat_map}
use Rattle.edge_words.specs.Words.{after_comma}
use Rattle.call_lines.proofs.words.more_names.Given as goal

abbrev pub invariant-loop-name : goal.invariant-loop-name
invariant-loop-name l = l.written ≡ l.fn.text ++ flat_map after_comma (take l.name-index l.names)
