use Rattle.std.proofs.Common.{◌≡◌, true, length}
use Rattle.edge_http_calls.specs.Tables.{begins_own}
use Rattle.edge_http_calls.specs.Bodies.{own_bytes, own_left}
use Rattle.edge_http_calls.proofs.held.read_off.Given as goal

abbrev pub invariant-loop-part : goal.invariant-loop-part
invariant-loop-part l = record {
  own : begins_own l.body ≡ true;
  bytes : own_bytes l.most l.body ≡ own_bytes l.most l.initial.body;
  left : own_left l.most l.body ≡ own_left l.most l.initial.body;
}

abbrev pub decreases-loop-part : goal.decreases-loop-part
decreases-loop-part l = length l.body
