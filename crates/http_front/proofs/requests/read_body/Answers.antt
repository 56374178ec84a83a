use Rattle.std.proofs.Common.{sym, ◌∙◌}
use Rattle.edge_outside.specs.Reads.{OneRead}
use Rattle.http_front.proofs.Messages.{chunked_told, sized_told}
use Rattle.http_front.proofs.requests.read_body.Goals as goal

pub returns-then-is_chunked : goal.returns-then-is_chunked
returns-then-is_chunked g c =
    chunked_told (OneRead g.S.Source.reads g.S.Source.faults g.S.Source.content) c.args.head.now c.args.source.now c.chunked_body.new.source
    c.args.ahead.now c.chunked_body.new.ahead c.chunked_body.result (sym c.is_chunked.ensures ∙ c.if-is_chunked.true) c.chunked_body.ensures

pub returns : goal.returns
returns g c =
    sized_told (OneRead g.S.Source.reads g.S.Source.faults g.S.Source.content) c.args.head.now c.args.source.now c.sized_body.new.source
    c.args.ahead.now c.sized_body.new.ahead c.sized_body.result (sym c.is_chunked.ensures ∙ c.if-is_chunked.false)
    (rw c.requires.length c.sized_body.ensures)
