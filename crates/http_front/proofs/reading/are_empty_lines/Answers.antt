use Rattle.std.proofs.Common.{true, false, sym, ◌∙◌, ap}
use Rattle.std.specs.List.{list_all}
use Rattle.httparse.specs.Pieces.{is_newline}
use Rattle.http_front.proofs.EmptyLines.{all_then, rest_is}
use Rattle.http_front.proofs.reading.are_empty_lines.Goals as goal

pub returns-then-before : goal.returns-then-before
returns-then-before c =
    c.are_newlines.ensures ∙ ap (list_all is_newline) (rest_is c.args.bytes.now c.args.seen) ∙ all_then c.args.bytes.now c.args.seen true (sym c.if-before.true ∙ c.requires.before)

pub returns-else-before : goal.returns-else-before
returns-else-before c =
    c.if-before.false ∙ all_then c.args.bytes.now c.args.seen false (sym c.if-before.false ∙ c.requires.before)
