use Rattle.std.proofs.Common.{◌-◌, length}
use Rattle.edge_outside.specs.Reads.{Reads, OneRead}
use Rattle.http_text.specs.Chunks.{HasNone}
use Rattle.http_text.specs.Bodies.{IsSized}
use Rattle.http_text.proofs.bodies.sized_body.Given as goal

abbrev pub invariant-loop-ahead : goal.invariant-loop-ahead
invariant-loop-ahead g l =
    Reads (OneRead g.S.Source.reads g.S.Source.faults g.S.Source.content) (HasNone (IsSized l.length)) l.fn.source l.fn.ahead l.ahead l.source

abbrev pub decreases-loop-ahead : goal.decreases-loop-ahead
decreases-loop-ahead g l = l.length - length l.ahead
