use Rattle.std.proofs.Common.{◌∙◌, sym, subst}
use Rattle.player.specs.May.{MayTake}
use Rattle.schedule_play.proofs.Telling.{over-asks}
use Rattle.schedule_play.proofs.schedule.block_of.Goals as goal

pub unreachable-requires : goal.unreachable-requires
unreachable-requires g c =
    let seat = c.requires.0 in
    let tells = c.requires.1 in
    let plays = tells.sits.holds.plays in
    over-asks g.P.Player.Plays g.P.Player.stopped g.P.Player.ended g.P.Player.MayWant c.args.player.now c.advance.new.self c.args.place seat c.in-Outer._call tells
    c.advance.ensures.ended (c.advance.ensures.stopped seat.program seat.trace plays)
    (sym c.in-Outer.is ∙ c.advance.ensures.turn seat.program seat.trace plays)
    (subst (MayTake seat.trace (g.P.Player.ended c.advance.new.self) (g.P.Player.stopped c.advance.new.self)) c.in-Outer.is (c.advance.ensures.may seat.program seat.trace plays tells.fresh))
