use Rattle.std.proofs.Common.{◌+◌, take, arith, sym, subst}
use Rattle.std.proofs.lemmas.Grind.{common_steps}
use Rattle.edge_outside.specs.MemLink.{ChoosesInMemory}
use Rattle.edge_outside.proofs.Tickets.{stays_at, turns_at}
use Rattle.edge_outside.proofs.mem_link.first_ready.Goals as goal
use Rattle.edge_outside.proofs.mem_link.first_ready.Goals.{then-left_of, else-left_of}

pub loop-at-preserved : goal.loop-at-preserved
loop-at-preserved c =
    let xs = c.args.tickets.now in
    elim c.if-left_of.branch [
      | then-left_of w ↦ record {
        inside = omega (arith, w.best-is);
        within = omega (arith, c.loop-at-test.true);
        kept = subst (ChoosesInMemory c.args.replies.now (take (c.loop-at.at + 1) xs)) (sym w.best-is)
            (turns_at c.args.replies.now xs c.loop-at.at c.loop-at.best 0 c.loop-at-test.true c.loop-at.invariant.kept (grind (arith, common_steps)));
      }
      | else-left_of w ↦ record {
        inside = omega (arith, w.best-is, c.loop-at.invariant.inside);
        within = omega (arith, c.loop-at-test.true);
        kept = subst (ChoosesInMemory c.args.replies.now (take (c.loop-at.at + 1) xs)) (sym w.best-is)
            (stays_at c.args.replies.now xs c.loop-at.at c.loop-at.best 0 c.loop-at-test.true c.loop-at.invariant.kept (grind (arith, common_steps)));
      }
    ]
