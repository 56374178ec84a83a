use Rattle.std.proofs.Common.{arith, ap, sym, ◌∙◌, ◌∷◌, [], slice_index}
use Rattle.cache_objects.specs.Standings.{standing_at, left, changed_at}
use Rattle.cache_objects.proofs.Changing.{changed_more, left_twice}
use Rattle.cache_objects.proofs.changes.leave_all.Goals as goal

pub loop-i-preserved : goal.loop-i-preserved
loop-i-preserved c = λ q.
    c.leave.ensures q ∙ ap (changed_at left (slice_index c.args.named.now c.loop-i.i ∷ []) q) (c.loop-i.invariant q)
    ∙ sym (changed_more left left_twice c.args.named.now c.loop-i.i 0 q (standing_at c.args.objects.now q) (omega (arith, c.loop-i-test.true)))
