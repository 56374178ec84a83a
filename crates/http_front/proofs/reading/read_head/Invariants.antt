use Rattle.std.proofs.Common.{◌≡◌, ◌≤◌, ◌-◌, [], length, take}
use Rattle.std.specs.List.{list_all}
use Rattle.edge_outside.specs.Reads.{Reads, OneRead}
use Rattle.httparse.specs.Grammar.{HasNoRequest}
use Rattle.httparse.specs.Pieces.{is_newline}
use Rattle.http_front.specs.Heads.{most_head}
use Rattle.http_front.proofs.reading.read_head.Given as goal

abbrev pub invariant-loop-head : goal.invariant-loop-head
invariant-loop-head g l = record {
  reads : Reads (OneRead g.S.Source.reads g.S.Source.faults g.S.Source.content) HasNoRequest l.fn.source [] l.ahead l.source;
  few : length l.ahead ≤ most_head;
  within : l.seen ≤ length l.ahead;
  seen : HasNoRequest (take l.seen l.ahead);
  empty : l.empty ≡ list_all is_newline (take l.seen l.ahead);
}

abbrev pub decreases-loop-head : goal.decreases-loop-head
decreases-loop-head g l = most_head - length l.ahead
