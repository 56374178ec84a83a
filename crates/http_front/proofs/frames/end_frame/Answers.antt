use Rattle.http_front.proofs.FrameLaws.{framed_whole, framed_cut, fewer_bytes}
use Rattle.http_front.proofs.frames.end_frame.Goals as goal

pub returns-clause-whole : goal.returns-clause-whole
returns-clause-whole c = framed_whole c.args.framing c.end_of.result c.end_of.ensures

pub returns-clause-cut : goal.returns-clause-cut
returns-clause-cut c = framed_cut

pub returns-clause-short : goal.returns-clause-short
returns-clause-short c = fewer_bytes
