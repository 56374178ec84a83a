use Rattle.http_front.proofs.HeadBack.{head_told}
use Rattle.http_front.proofs.writing.answer_head.Goals as goal

pub returns-clause-read_back : goal.returns-clause-read_back
returns-clause-read_back c =
    head_told c.args.request.now c.args.response.now c.args.length c.head_of.result
    (rw c.status.ensures.value at c.status.ensures.kept) (rw c.fields.ensures.value at c.fields.ensures.kept)
    (rw (c.status.ensures.value, c.fields.ensures.value) at c.head_of.ensures)
