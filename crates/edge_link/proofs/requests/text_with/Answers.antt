use Rattle.std.proofs.Common.{◌++◌}
use Rattle.httparse.specs.Ascii.{crlf_bytes}
use Rattle.edge_link.specs.Requests.{request_line, fields_with, lines_of}
use Rattle.edge_link.proofs.SentLines.{three_pieces}
use Rattle.edge_link.proofs.requests.text_with.Goals as goal

pub returns : goal.returns
returns c =
    three_pieces c.message_end.result (request_line c.args.head.now) (lines_of (fields_with c.args.head.now c.args.body.now c.args.host.now))
    (crlf_bytes ++ c.args.body.now) c.new.result c.in_ok-text.text c.in_ok-text-2.text c.new.ensures c.in_ok-text.ensures c.in_ok-text-2.ensures c.message_end.ensures
