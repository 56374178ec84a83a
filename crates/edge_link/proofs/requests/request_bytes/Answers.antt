use Rattle.edge_link.proofs.SentLines.{text_told}
use Rattle.edge_link.proofs.SentBack.{sent_told}
use Rattle.edge_link.proofs.requests.request_bytes.Goals as goal

pub returns-clause-text : goal.returns-clause-text
returns-clause-text c =
    text_told c.from_vec.result c.args.head.now c.into_bytes.result.items c.in_ok-text.text c.args.body.now c.args.authority.now c.host_of-host.result.now
    (rw (c.fields.ensures.value, c.as_bytes.ensures.value) at c.host_of-host.ensures) c.in_ok-text.ensures c.into_bytes.ensures c.from_vec.ensures

pub returns-clause-read_back : goal.returns-clause-read_back
returns-clause-read_back c =
    sent_told c.from_vec.result c.args.head.now c.args.body.now c.args.authority.now (rw c.fields.ensures.value at c.fields.ensures.kept)
    (text_told c.from_vec.result c.args.head.now c.into_bytes.result.items c.in_ok-text.text c.args.body.now c.args.authority.now c.host_of-host.result.now
    (rw (c.fields.ensures.value, c.as_bytes.ensures.value) at c.host_of-host.ensures) c.in_ok-text.ensures c.into_bytes.ensures c.from_vec.ensures)
