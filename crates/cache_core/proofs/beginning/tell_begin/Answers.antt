use Rattle.std.proofs.Common.{refl, ap, sym, ◌∙◌, ◌==◌, if◌then◌else◌, Some, []}
use Rattle.cache_objects.specs.Guests.{list_at}
use Rattle.cache_core.proofs.Results.{on_ok, on_err}
use Rattle.cache_core.proofs.Makers.{knows_begun, knows_same}
use Rattle.cache_core.proofs.Naming.{no_more}
use Rattle.cache_core.proofs.beginning.tell_begin.Goals as goal

pub returns-clause-told : goal.returns-clause-told
returns-clause-told c =
    on_ok c.begin.result
    (λ told past e legal begin number knows.
    knows_begun c.args.parts.now c.begin.new.guests past e legal begin (λ q. told q ∙ ap (λ n. if n == q then Some [] else list_at c.args.parts.now.guests q) (sym number)) knows)
    c.begin.ensures.begun

pub returns-clause-kept : goal.returns-clause-kept
returns-clause-kept c =
    on_err c.begin.result (λ same past knows. knows_same c.args.parts.now _ past (λ s. s) (λ o some. refl) same (no_more c.args.parts.now.bearers) knows) c.begin.ensures.unchanged
