use Rattle.std.proofs.Common.{arith}
use Rattle.http_text.proofs.Lines.{long_line, open_line}
use Rattle.http_text.proofs.chunks.next_line.Goals as goal

pub returns-in_default : goal.returns-in_default
returns-in_default c =
    let line = (rw c.in-Ok-Complete.field-0-is at c.in-Ok-Complete.ensures.complete) in
    long_line _ _ _ line.0 line.1 c.if-end-le-MOST_LINE.false

pub returns-in_default-2 : goal.returns-in_default-2
returns-in_default-2 c =
    let none = (rw c.in-Ok-Partial.field-0-is at c.in-Ok-Partial.ensures.partial) in
    open_line _ none (omega arith)
