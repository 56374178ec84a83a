use Rattle.std.proofs.Common.{◌∙◌, arith}
use Rattle.edge_pending.proofs.Listing.{more}
use Rattle.edge_pending.proofs.handles.words.Goals as goal

pub words-preserved : goal.words-preserved
words-preserved c = record {
  at = omega (arith, c.words.invariant.at, c.words-test.true);
  all = more c.args.memory.now c.words.place c.words.left c.words.handles.items c.push.new.self.items c.word_at.result c.words-test.true c.word_at.ensures c.in_ok-push.ensures.items ∙ c.words.invariant.all;
}
