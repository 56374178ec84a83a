use Rattle.std.proofs.Common.{◌≡◌, ◌++◌, List, ℕ, sym, subst, codes, IfOk}
use Rattle.http_front.specs.Answers.{header_line}
use Rattle.edge_link.specs.Requests.{kept_fields, length_fields, lines_of}
use Rattle.edge_link.proofs.SentLines.{lines_are_in_order, four_pieces}
use Rattle.edge_link.proofs.requests.sent_headers.Goals as goal

pub returns : goal.returns
returns c =
    let head = c.args.head.now in
    let body = c.args.body.now in
    let host = c.args.host.now in
    subst (λ (u : List ℕ). IfOk c.header-2.result (λ new. new ≡ c.args.text ++ u)) (sym (lines_are_in_order head body host))
    (four_pieces c.header-2.result (header_line (codes "host") host) (lines_of (kept_fields head.fields)) (lines_of (length_fields head.method body))
    (header_line (codes "connection") (codes "close")) c.args.text c.in_ok-text.text c.in_ok-text-2.text c.in_ok-text-3.text
    c.in_ok-text.ensures (rw c.fields.ensures.value at c.in_ok-text-2.ensures) (rw c.method.ensures at c.in_ok-text-3.ensures) c.header-2.ensures)
