use Rattle.std.proofs.Common.{arith}
use Rattle.std.proofs.lemmas.Grind.{common_steps}
use Rattle.edge_outside.specs.Reads.{none}
use Rattle.edge_outside.proofs.ReadRuns.{read_more}
use Rattle.http_text.specs.Bodies.{IsSized, NeverSo}
use Rattle.http_text.proofs.BodyRuns.{few_bytes, sized_read, ended_gives}
use Rattle.http_text.proofs.bodies.sized_body.Goals as goal

pub loop-ahead-init : goal.loop-ahead-init
loop-ahead-init g c = none

pub loop-ahead-preserved : goal.loop-ahead-preserved
loop-ahead-preserved g c =
    read_more c.args.source.now c.args.ahead.now c.loop-ahead.ahead c.fill.new.self c.loop-ahead.source c.fill.new.source c.loop-ahead.invariant
    (few_bytes c.args.length c.loop-ahead.ahead (grind (arith, common_steps)))
    c.in_default.ensures.grows c.in_default.ensures.kept c.in_default.ensures.piece

pub returns-in-Err : goal.returns-in-Err
returns-in-Err g c =
    rw c.ended.ensures
    (ended_gives (IsSized c.args.length) NeverSo NeverSo c.args.source.now c.args.ahead.now c.loop-ahead.ahead c.fill.new.self c.loop-ahead.source c.fill.new.source c.in-Err.fault c.loop-ahead.invariant
    (few_bytes c.args.length c.loop-ahead.ahead (grind (arith, common_steps)))
    c.in-Err.ensures.ended c.in-Err.ensures.failed c.in-Err.ensures.memory)

pub returns : goal.returns
returns g c =
    rw (c.in-Ok.ensures, c.bytes-2.ensures, c.pass.ensures)
    (sized_read c.args.source.now c.args.ahead.now c.loop-ahead.ahead c.args.length c.loop-ahead.source c.requires
    (grind (arith, common_steps)) c.loop-ahead.invariant)
