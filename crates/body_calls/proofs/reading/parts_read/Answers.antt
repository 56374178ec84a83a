use Rattle.std.proofs.lemmas.Result.{IfOk-weaker}
use Rattle.edge_abi.specs.Tables.{held}
use Rattle.edge_http_calls.specs.Bodies.{parts_in}
use Rattle.body_calls.proofs.Steps.{reads_same}
use Rattle.body_calls.proofs.reading.parts_read.Goals as goal

pub returns-clause-row : goal.returns-clause-row
returns-clause-row c =
    IfOk-weaker c.read_parts.result _ _
    (λ step goes.
    reads_same c.args.memory.now c.args.h c.args.b c.args.most c.args.o c.in_ok-left.left (parts_in (held c.args.tables.now.bodies c.args.h)) c.parts_of.new.tables c.args.tables.now step c.read_parts.new.tables c.read_parts.new.memory c.in_ok-left.ensures.copy c.in_ok-left.ensures.kept goes)
    c.read_parts.ensures.row
