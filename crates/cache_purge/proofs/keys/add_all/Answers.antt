use Rattle.std.proofs.Common.{ap, ◌∙◌, sym}
use Rattle.cache_purge.specs.Keys.{is_named, named_at}
use Rattle.cache_purge.proofs.Adding.{named_more}
use Rattle.cache_purge.proofs.keys.add_all.Goals as goal

pub loop-i-preserved : goal.loop-i-preserved
loop-i-preserved c = (
  λ key o is. c.add.ensures.more key o (c.loop-i.invariant.0 key o is),
  named_more c.args.surrogates.now c.loop-i.i c.index-surrogates-i.result c.args.object c.loop-i.keys c.add.new.keys c.loop-i-test.true c.loop-i.invariant.1 c.add.ensures.more
      (ap (λ k. is_named c.args.object (named_at c.add.new.keys k)) (sym c.index-surrogates-i.is) ∙ c.in_ok-add.ensures.named),
)
