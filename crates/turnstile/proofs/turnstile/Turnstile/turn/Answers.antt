use Rattle.std.proofs.Common.{◌≡◌, ◌+◌, IfErr, subst}
use Rattle.turnstile.proofs.Passes.{lost_more}
use Rattle.turnstile.proofs.turnstile.Turnstile.turn.Goals as goal

pub loop-preserved : goal.loop-preserved
loop-preserved g c = let i = c.loop.invariant in (i.0 + 1, lost_more _ _ _ i.0 i.1 (subst (λ r. IfErr r (λ _. c.try_turn-next.result.0 ≡ record c.loop.pass { lost = c.loop.pass.lost + 1 })) c.in-Err.is c.try_turn-next.ensures.busy))
