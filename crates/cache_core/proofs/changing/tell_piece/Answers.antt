use Rattle.std.proofs.Common.{ap, sym, subst, refl, ◌∙◌, ◌++◌, ◌∷◌, []}
use Rattle.cache_objects.specs.Standings.{standing_at, changed_at, extended}
use Rattle.cache_core.specs.News.{made_in}
use Rattle.cache_core.specs.Object.{Object}
use Rattle.cache_core.proofs.Results.{on_ok, on_err}
use Rattle.cache_core.proofs.Makers.{knows_same}
use Rattle.cache_core.proofs.Naming.{NamesNew, no_more}
use Rattle.cache_core.proofs.ByNews.{knows_more, tells_change, Tells}
use Rattle.cache_core.proofs.changing.tell_piece.Goals as goal

pub returns-clause-told : goal.returns-clause-told
returns-clause-told c =
    on_ok c.extend.result
    (λ told past e legal begin end news knows.
    knows_more c.args.parts.now c.extend.new.objects c.args.parts.now.bearers past e legal begin end (ap made_in news)
    (subst (Tells c.args.parts.now.objects c.extend.new.objects past e.number) (sym news)
    (λ o k before is h. tells_change c.args.object (extended c.args.piece.now) (λ (x : Object). record x { fate = record x.fate { written = x.fate.written ++ c.args.piece.now } }) (λ k x. refl) c.args.parts.now.objects c.extend.new.objects
    (λ q. told q ∙ ap (λ b. changed_at (extended b) (c.args.object ∷ []) q (standing_at c.args.parts.now.objects q)) c.in_ok-copy.ensures) o k before h))
    (no_more c.args.parts.now.bearers) (subst (NamesNew c.args.parts.now.bearers) (sym news) tt)
    knows)
    c.extend.ensures.extended

pub returns-clause-kept : goal.returns-clause-kept
returns-clause-kept c =
    on_err c.extend.result (λ same past knows. knows_same c.args.parts.now (record c.args.parts.now { objects = c.extend.new.objects }) past (λ s. s) (λ o some. same o) (λ q. refl) (no_more c.args.parts.now.bearers) knows) c.extend.ensures.unchanged
