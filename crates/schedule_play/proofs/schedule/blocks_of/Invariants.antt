use Rattle.std.proofs.Common.{◌≡◌, List, length}
use Rattle.schedule_play.specs.Schedule.{Seat}
use Rattle.schedule_play.specs.Sits.{AllMayTell, TellsOn}
use Rattle.schedule_play.proofs.schedule.blocks_of.Given as goal

-- the blocks so far and those of the guests that are left
abbrev pub invariant-loop-i : goal.invariant-loop-i
invariant-loop-i g l = record {
  count : length l.players ≡ length l.fn.players;
  tells : (seats : List Seat) → AllMayTell g.P.Player.Plays g.P.Player.stopped g.P.Player.ended l.fn.players l.places seats → TellsOn g.P.Player.Plays g.P.Player.stopped g.P.Player.ended l.i l.players l.places seats l.blocks.items;
}
