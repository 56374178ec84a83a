use Rattle.std.proofs.Common.{arith, ap, ◌-◌}
use Rattle.cache_bodies.specs.declared.piece.Piece.{Piece}
use Rattle.cache_bodies.proofs.Pieces.{nothing-behind}
use Rattle.cache_bodies.proofs.part.first_at.Goals as goal

pub returns-then-pieces-behind-clause-before : goal.returns-then-pieces-behind-clause-before
returns-then-pieces-behind-clause-before c =
    nothing-behind c.args.pieces.now (c.partition_point-behind.result - 1) c.index-pieces-behind.result c.args.place c.index-pieces-behind.is c.requires
    (omega (arith, c.partition_point-behind.ensures.bound, c.if-behind-eq0.false)) (omega (arith, ap (λ (y : Piece). y.place) c.index-pieces-behind.is, c.if-pieces-behind.true))
