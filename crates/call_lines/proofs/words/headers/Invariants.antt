use Rattle.std.proofs.Common.{◌≡◌, ◌++◌, take}
use Rattle.std.specs.List.{flat_map}
use Rattle.edge_words.specs.Words.{spaced}
use Rattle.call_lines.specs.Calls.{heads}
use Rattle.call_lines.proofs.words.headers.Given as goal

abbrev pub invariant-loop-field : goal.invariant-loop-field
invariant-loop-field l = l.written ≡ l.fn.text ++ flat_map spaced (heads (take l.field-index l.fields))
