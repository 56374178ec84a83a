use Rattle.std.proofs.Common.{arith}
use Rattle.turnstile.proofs.Turning.{claims_as}
use Rattle.turnstile.proofs.steps.claim.Goals as goal

pub compare_exchange-requires : goal.compare_exchange-requires
compare_exchange-requires g c =
    let t = c.requires.table in
    let o = c.requires.outside in
    (t.2, omega arith, claims_as _ _ _ _ _ _ _ _ o.0 o.1 o.2)
