use Rattle.std.proofs.Common.{◌≡◌, ◌++◌, take, map}
use Rattle.std.specs.List.{flat_map}
use Rattle.edge_words.specs.Words.{hex_word}
use Rattle.edge_words.specs.Words.{after_comma}
use Rattle.call_lines.proofs.words.more_hex.Given as goal

abbrev pub invariant-loop-piece : goal.invariant-loop-piece
invariant-loop-piece l = l.written ≡ l.fn.text ++ flat_map after_comma (map hex_word (take l.piece-index l.pieces))
