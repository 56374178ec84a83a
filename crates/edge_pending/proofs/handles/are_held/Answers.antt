use Rattle.std.proofs.Common.{◌∙◌, arith}
use Rattle.edge_pending.proofs.Listing.{held_by, all_step}
use Rattle.edge_pending.proofs.handles.are_held.Goals as goal

pub words-preserved : goal.words-preserved
words-preserved c =
    let names = held_by c.args.table.now c.get.result c.word_at.result _ c.is_none.result c.get.ensures c.word_at.ensures c.is_none.ensures c.if-is_none.false in
    record {
      at = omega (arith, c.words.invariant.at, c.words-test.true);
      all = all_step c.args.table.now c.args.memory.now c.words.place c.words.left c.words-test.true names ∙ c.words.invariant.all;
    }
