use Rattle.std.proofs.Common.{ap, ◌∙◌, arith}
use Rattle.turnstile.specs.Standing.{Fits}
use Rattle.turnstile.proofs.Handing.{joins, settles_as}
use Rattle.turnstile.proofs.passing.join.Goals as goal

pub join_seat-requires : goal.join_seat-requires
join_seat-requires g c =
    let t = c.requires.table in
    let o = c.requires.outside in
    let other = c.requires.other in
    (t.2, other.0, other.1.0, omega arith, joins g.T.Standing.entries g.T.Standing.first (Fits g.T.Standing.setting g.T.Standing.first g.T.Standing.entries g.T.Standing.sound) g.T.Standing.family c.args.cells.now.key.value _ _ _ _ o.2 other.1.2 other.1.1)

pub load-requires : goal.load-requires
load-requires g c =
    let t = c.requires.table in
    let j = c.join_seat.ensures in
    let live = c.requires.outside.2 in
    let parts = ap (λ m. m.0.parts) j.2 in
    (j.0 ∙ t.2, omega arith, settles_as g.T.Standing.entries g.T.Standing.first (Fits g.T.Standing.setting g.T.Standing.first g.T.Standing.entries g.T.Standing.sound) g.T.Standing.family c.args.cells.now.key.value _ _ _ (ap (λ m. m.1) j.2 ∙ c.requires.outside.0) (omega arith))
