use Rattle.std.proofs.Common.{sym, subst, Err}
use Rattle.edge_outside.specs.Reads.{OneRead}
use Rattle.http_front.specs.Gives.{RequestGives}
use Rattle.http_front.proofs.Messages.{uri_rule, fields_rule, head_fails, judge_fails, body_fails, request_made, request_lost}
use Rattle.http_front.proofs.requests.request.Goals as goal

pub returns-in-Err : goal.returns-in-Err
returns-in-Err g c =
    head_fails (OneRead g.S.Source.reads g.S.Source.faults g.S.Source.content) c.args.source.now c.read_head.new.source c.read_head.new.ahead c.in-Err.fault c.in-Err.ensures.gives

pub returns-in-Err-stated_length : goal.returns-in-Err-stated_length
returns-in-Err-stated_length g c =
    judge_fails c.args.source.now c.read_head.new.source c.in-Ok.head c.read_head.new.ahead c.in-Err-stated_length.fault c.in-Ok.ensures.gives c.in-Err-stated_length.ensures.err

pub returns-in-Err-read_body : goal.returns-in-Err-read_body
returns-in-Err-read_body g c =
    subst (λ f. RequestGives (OneRead g.S.Source.reads g.S.Source.faults g.S.Source.content) c.args.source.now (Err f) c.read_body.new.source) (sym c.front_fault.ensures)
    (body_fails {Step = OneRead g.S.Source.reads g.S.Source.faults g.S.Source.content} c.args.source.now c.read_head.new.source c.read_body.new.source c.in-Ok.head
    c.read_head.new.ahead c.read_body.new.ahead c.in-Err-read_body.fault c.in-Ok.ensures.gives c.in-Ok-stated_length.ensures.ok c.in-Err-read_body.ensures)

pub incoming-requires-clause-uri : goal.incoming-requires-clause-uri
incoming-requires-clause-uri g c =
    uri_rule (OneRead g.S.Source.reads g.S.Source.faults g.S.Source.content) c.args.source.now c.read_head.new.source c.in-Ok.head c.read_head.new.ahead c.in-Ok.ensures.gives

pub incoming-requires-clause-fields : goal.incoming-requires-clause-fields
incoming-requires-clause-fields g c =
    fields_rule (OneRead g.S.Source.reads g.S.Source.faults g.S.Source.content) c.args.source.now c.read_head.new.source c.in-Ok.head c.read_head.new.ahead c.in-Ok.ensures.gives

pub returns-in-Ok-incoming : goal.returns-in-Ok-incoming
returns-in-Ok-incoming g c =
    request_made {Step = OneRead g.S.Source.reads g.S.Source.faults g.S.Source.content} c.args.source.now c.read_head.new.source c.read_body.new.source c.in-Ok.head
    c.read_head.new.ahead c.read_body.new.ahead c.in-Ok-read_body.body c.in-Ok-incoming.incoming c.in-Ok.ensures.gives c.in-Ok-stated_length.ensures.ok
    c.in-Ok-read_body.ensures c.in-Ok-incoming.ensures.head c.in-Ok-incoming.ensures.body

pub returns : goal.returns
returns g c =
    request_lost {Step = OneRead g.S.Source.reads g.S.Source.faults g.S.Source.content} c.args.source.now c.read_head.new.source c.read_body.new.source c.in-Ok.head
    c.read_head.new.ahead c.read_body.new.ahead c.in-Ok-read_body.body c.in-Ok.ensures.gives c.in-Ok-stated_length.ensures.ok c.in-Ok-read_body.ensures
