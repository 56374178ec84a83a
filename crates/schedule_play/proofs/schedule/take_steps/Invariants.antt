use Rattle.std.proofs.Common.{◌≡◌, List, length, drop}
use Rattle.cache_types.specs.Entries.{newest_first}
use Rattle.edge_outside.specs.Made.{Made}
use Rattle.schedule_play.specs.Links.{LinkCall, Asks, answers_in}
use Rattle.schedule_play.specs.Schedule.{Seat}
use Rattle.schedule_play.specs.Sits.{IsAtPlay, RunsOn}
use Rattle.schedule_play.proofs.schedule.take_steps.Given as goal

-- what the steps that are left lead to is what all of them lead to
abbrev pub invariant-loop-step : goal.invariant-loop-step
invariant-loop-step g l =
    let history = g.S.OneCache.history in
    let most = g.S.OneCache.most in
    record {
      most_is : most l.cache ≡ most l.fn.cache;
      players_count : length l.players ≡ length l.fn.players;
      places_count : length l.places.items ≡ length l.fn.places.items;
      runs : (calls : List LinkCall) × Made (Asks g.L.Link.starts g.L.Link.polls g.L.Link.waits g.L.Link.chooses) l.fn.link calls l.link
          × ((seats : List Seat) → IsAtPlay g.P.Player.Plays g.P.Player.stopped g.P.Player.ended (g.L.Link.is_open l.fn.link) (newest_first (history l.fn.cache)) l.fn.players l.fn.places.items seats → RunsOn g.P.Player.Plays g.P.Player.stopped g.P.Player.ended g.P.Player.MayWant (g.L.Link.is_open l.link) (most l.fn.cache) l.steps (drop l.step-index l.steps) (answers_in calls) (newest_first (history l.fn.cache)) seats (newest_first (history l.cache)) l.players l.places.items);
    }
