use Rattle.std.proofs.Common.{subst}
use Rattle.std.specs.Prelude.{⊤}
use Rattle.edge_outside.specs.Reads.{OneRead}
use Rattle.http_front.specs.Gives.{RequestGives}
use Rattle.http_front.specs.Requests.{IsUnfinished}
use Rattle.http_front.proofs.Finds.{finds_where_told}
use Rattle.http_front.proofs.Rises.{rose_at}
use Rattle.http_front.proofs.Messages.{ok_told}
use Rattle.http_front.proofs.requests.read_request.Goals as goal

pub returns-clause-ok : goal.returns-clause-ok
returns-clause-ok g c =
    ok_told (OneRead g.S.Source.reads g.S.Source.faults g.S.Source.content) c.args.source.now c.request.new.source c.request.result c.request.ensures

pub returns-clause-bad : goal.returns-clause-bad
returns-clause-bad g c = λ e.
    subst (λ r. RequestGives (OneRead g.S.Source.reads g.S.Source.faults g.S.Source.content) c.args.source.now r c.request.new.source) e c.request.ensures

pub returns-clause-large_head : goal.returns-clause-large_head
returns-clause-large_head g c = λ e.
    subst (λ r. RequestGives (OneRead g.S.Source.reads g.S.Source.faults g.S.Source.content) c.args.source.now r c.request.new.source) e c.request.ensures

pub returns-clause-large : goal.returns-clause-large
returns-clause-large g c = λ e.
    subst (λ r. RequestGives (OneRead g.S.Source.reads g.S.Source.faults g.S.Source.content) c.args.source.now r c.request.new.source) e c.request.ensures

pub returns-clause-unsupported : goal.returns-clause-unsupported
returns-clause-unsupported g c = λ e.
    subst (λ r. RequestGives (OneRead g.S.Source.reads g.S.Source.faults g.S.Source.content) c.args.source.now r c.request.new.source) e c.request.ensures

pub returns-clause-cut : goal.returns-clause-cut
returns-clause-cut g c = λ e.
    subst (λ r. RequestGives (OneRead g.S.Source.reads g.S.Source.faults g.S.Source.content) c.args.source.now r c.request.new.source) e c.request.ensures

pub returns-clause-read_fault : goal.returns-clause-read_fault
returns-clause-read_fault g c = λ e.
    subst (λ r. RequestGives (OneRead g.S.Source.reads g.S.Source.faults g.S.Source.content) c.args.source.now r c.request.new.source) e c.request.ensures

pub returns-clause-memory : goal.returns-clause-memory
returns-clause-memory g c = λ e.
    subst (λ r. RequestGives (OneRead g.S.Source.reads g.S.Source.faults g.S.Source.content) c.args.source.now r c.request.new.source) e c.request.ensures

pub returns-clause-rose : goal.returns-clause-rose
returns-clause-rose g c = λ e.
    rose_at g.S.Source.reads g.S.Source.faults g.S.Source.content IsUnfinished c.args.source.now c.request.new.source (λ known. ⊤)
    (subst (λ r. RequestGives (OneRead g.S.Source.reads g.S.Source.faults g.S.Source.content) c.args.source.now r c.request.new.source) e c.request.ensures)

pub returns-clause-found : goal.returns-clause-found
returns-clause-found g c =
    finds_where_told g.S.Source.reads g.S.Source.faults g.S.Source.content c.args.source.now c.request.new.source c.request.result c.request.ensures
