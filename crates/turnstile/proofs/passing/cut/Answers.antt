use Rattle.std.proofs.Common.{arith}
use Rattle.turnstile.specs.Standing.{Fits}
use Rattle.turnstile.proofs.Handing.{splits}
use Rattle.turnstile.proofs.passing.cut.Goals as goal

pub split_seat-requires : goal.split_seat-requires
split_seat-requires g c =
    let t = c.requires.table in
    let o = c.requires.outside in
    let p = c.requires.portion in
    (t.2, omega arith, splits g.T.Standing.entries g.T.Standing.first (Fits g.T.Standing.setting g.T.Standing.first g.T.Standing.entries g.T.Standing.sound) g.T.Standing.family c.args.cells.now.key.value _ _ _ o.1 (omega arith) (omega arith))
