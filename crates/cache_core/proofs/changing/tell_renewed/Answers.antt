use Rattle.std.proofs.Common.{ap, sym, subst, ◌∙◌, ◌∷◌, [], ◌≡◌, true, refl}
use Rattle.cache_objects.specs.Standings.{standing_at, changed_at, renewed}
use Rattle.cache_types.specs.Objects.{has_key}
use Rattle.cache_purge.specs.Keys.{named_at}
use Rattle.cache_core.specs.Knows.{is_named}
use Rattle.cache_core.proofs.Results.{always_err}
use Rattle.cache_core.proofs.Makers.{knows_same}
use Rattle.cache_core.specs.News.{made_in}
use Rattle.cache_core.proofs.ByNews.{knows_more, tells_renewed, Tells}
use Rattle.cache_core.proofs.Naming.{NamesNew}
use Rattle.cache_core.proofs.changing.tell_renewed.Goals as goal

pub returns-clause-told : goal.returns-clause-told
returns-clause-told c = λ past e renewal legal begin end news object number terms knows.
    knows_more c.args.parts.now c.renew.new.objects c.add_all.new.keys past e legal begin end (ap made_in news)
    (subst (Tells c.args.parts.now.objects c.renew.new.objects past e.number) (sym news)
    (tells_renewed renewal e.number c.args.parts.now.objects c.renew.new.objects past
    (λ q. c.renew.ensures q ∙ ap (λ o. changed_at (renewed c.args.number) (o ∷ []) q (standing_at c.args.parts.now.objects q)) (sym object)
    ∙ ap (λ n. changed_at (renewed n) (renewal.object ∷ []) q (standing_at c.args.parts.now.objects q)) (sym number))))
    c.add_all.ensures.more
    (subst (NamesNew c.add_all.new.keys) (sym news) (λ key is. subst (λ o. is_named o (named_at c.add_all.new.keys key) ≡ true) (sym object) (c.in_ok-add_all.ensures.named key (ap (λ l. has_key l key) (sym terms) ∙ is))))
    knows

pub returns-in_err-add_all-clause-kept : goal.returns-in_err-add_all-clause-kept
returns-in_err-add_all-clause-kept c =
    always_err c.from_residual.result (λ past knows. knows_same c.args.parts.now (record c.args.parts.now { bearers = c.add_all.new.keys }) past (λ s. s) (λ o some. refl) (λ q. refl) c.add_all.ensures.more knows)
