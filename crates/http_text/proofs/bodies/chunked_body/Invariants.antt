use Rattle.std.proofs.Common.{◌≤◌, ◌+◌, ◌-◌, ◌*◌, length, vec_len}
use Rattle.edge_outside.specs.Reads.{OneRead}
use Rattle.http_text.specs.Fields.{most_body}
use Rattle.http_text.proofs.BodyRuns.{ReadsChunks}
use Rattle.http_text.proofs.bodies.chunked_body.Given as goal

abbrev pub invariant-loop-used : goal.invariant-loop-used
invariant-loop-used g l = record {
  reads : ReadsChunks (OneRead g.S.Source.reads g.S.Source.faults g.S.Source.content) l.fn.source l.fn.ahead l.body.items l.ahead l.source;
  fits : vec_len l.body ≤ most_body;
  few : length l.ahead ≤ 67200000;
}

abbrev pub decreases-loop-used : goal.decreases-loop-used
decreases-loop-used g l = 1027 * (most_body - vec_len l.body) + (67200000 - length l.ahead)
