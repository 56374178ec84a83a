use Rattle.std.proofs.Common.{arith, ◌∙◌}
use Rattle.turnstile.proofs.Ending.{counts, gives_back, gives_back_idle}
use Rattle.turnstile.proofs.steps.give_back.Goals as goal

pub fetch_add-requires : goal.fetch_add-requires
fetch_add-requires g c =
    let t = c.requires.table in
    (t.2, omega arith, counts _ _ _ _ _ _ _ _ _ c.args.added c.if-added.true c.requires.live.0 c.requires.done)

pub swap-requires : goal.swap-requires
swap-requires g c =
    let t = c.requires.table in
    let f = c.fetch_add.ensures in
    (f.0 ∙ t.2, omega arith, gives_back _ _ _ _ _ _ _ _ c.fetch_add.result _ _ c.args.added c.if-added.true t.1 c.requires.live.0 c.requires.live.1 c.requires.done f.2)

pub swap-requires-else-added : goal.swap-requires-else-added
swap-requires-else-added g c =
    let t = c.requires.table in
    (t.2, omega arith, gives_back_idle _ _ _ _ _ _ _ _ _ c.args.added c.if-added.false t.1 c.requires.live.0 c.requires.done)
