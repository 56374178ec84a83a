use Rattle.std.proofs.Common.{arith, ap, ◌≡◌, ◌+◌, ◌-◌, ◌∙◌, take, drop, length}
use Rattle.cache_bodies.proofs.Pieces.{part_is}
use Rattle.cache_bodies.proofs.part.shared.Goals as goal

pub returns : goal.returns
returns c =
    let x = c.index-pieces-first.result in
    let skip = c.args.place - x.place in
    let so_many : skip + c.args.most - skip ≡ c.args.most = omega arith in
    let long = ap length c.bytes-len.ensures in
    c.in_ok-piece.ensures ∙ ap (λ n. take n (drop skip x.octets)) so_many
    ∙ part_is c.args.pieces.now c.args.first x c.args.place c.args.most c.index-pieces-first.is c.requires (omega (arith, c.if-first-pieces.false)) (omega (arith, c.if-place-piece.false))
    (omega (arith, long, c.if-place-piece.false, c.if-place-piece-2.false, c.if-most-len.false))
