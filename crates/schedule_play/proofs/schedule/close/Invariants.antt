use Rattle.std.proofs.Common.{◌≡◌, List, length}
use Rattle.cache_types.specs.Entries.{newest_first}
use Rattle.schedule_play.specs.Schedule.{Seat}
use Rattle.schedule_play.specs.Sits.{IsSeated, ClosesOn}
use Rattle.schedule_play.proofs.schedule.close.Given as goal

-- closing what is left gives what closing all of them gives
abbrev pub invariant-loop-i : goal.invariant-loop-i
invariant-loop-i g l =
    let history = g.S.OneCache.history in
    record {
      players_count : length l.players ≡ length l.fn.players;
      places_count : length l.places.items ≡ length l.fn.places.items;
      closes : (seats : List Seat) → IsSeated g.P.Player.Plays g.P.Player.stopped g.P.Player.ended (newest_first (history l.fn.cache)) l.fn.players l.fn.places.items seats → ClosesOn g.P.Player.Plays g.P.Player.stopped g.P.Player.ended l.i (newest_first (history l.fn.cache)) seats (newest_first (history l.cache)) l.players l.places.items;
    }
