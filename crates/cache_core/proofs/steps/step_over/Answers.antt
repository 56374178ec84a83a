use Rattle.std.proofs.Common.{reverse, sym, subst}
use Rattle.cache_core.specs.Waits.{Awaits}
use Rattle.cache_core.proofs.WaitsMore.{awaits_end}
use Rattle.cache_core.proofs.steps.step_over.Goals as goal

pub returns-then-is_end-clause-awaits : goal.returns-then-is_end-clause-awaits
returns-then-is_end-clause-awaits c =
    subst (λ h. Awaits c.args.waits.now (reverse h)) (sym c.end.ensures.appended) (awaits_end c.args.waits.now c.args.entries.now.items c.args.guest c.args.reading c.requires.awaits)
