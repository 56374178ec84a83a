use Rattle.std.proofs.Common.{ap, sym, subst, refl, true}
use Rattle.cache_objects.specs.Standings.{finished}
use Rattle.cache_core.specs.News.{made_in}
use Rattle.cache_core.specs.Object.{Object}
use Rattle.cache_core.proofs.ByNews.{knows_more, tells_change, Tells}
use Rattle.cache_core.proofs.Naming.{NamesNew, no_more}
use Rattle.cache_core.proofs.changing.tell_finished.Goals as goal

pub returns : goal.returns
returns c = λ past e legal begin end news knows.
    knows_more c.args.parts.now c.finish.new.objects c.args.parts.now.bearers past e legal begin end (ap made_in news)
    (subst (Tells c.args.parts.now.objects c.finish.new.objects past e.number) (sym news)
    (λ o k before is h. tells_change c.args.object finished (λ (x : Object). record x { fate = record x.fate { finished = true } }) (λ k x. refl) c.args.parts.now.objects c.finish.new.objects c.finish.ensures o k before h))
    (no_more c.args.parts.now.bearers) (subst (NamesNew c.args.parts.now.bearers) (sym news) tt)
    knows
