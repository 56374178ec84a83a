use Rattle.std.proofs.Common.{◌<◌, ◌≤◌, ◌∙◌, length, rules}
use Rattle.cache_types.specs.Entries.{newest_first}
use Rattle.schedule_play.proofs.Running.{closes-more, closes-all}
use Rattle.schedule_play.proofs.schedule.close.Goals as goal

pub loop-i-preserved : goal.loop-i-preserved
loop-i-preserved g c =
    let history = g.S.OneCache.history in
    let within : c.loop-i.i < length c.loop-i.players = search rules in
    record {
      players_count = c.close_at.ensures.same_players ∙ c.loop-i.invariant.players_count;
      places_count = c.close_at.ensures.same_places ∙ c.loop-i.invariant.places_count;
      closes = λ seats seated. let on = c.loop-i.invariant.closes seats seated in
          closes-more g.P.Player.Plays g.P.Player.stopped g.P.Player.ended c.loop-i.i (newest_first (history c.args.cache.now)) (newest_first (history c.loop-i.cache)) (newest_first (history c.close_at.new.cache)) seats c.loop-i.players c.close_at.new.players c.loop-i.places.items c.close_at.new.places.items within on (c.close_at.ensures.closes on.now on.seated);
    }

pub returns-clause-closed : goal.returns-clause-closed
returns-clause-closed g c = λ seats seated.
    let history = g.S.OneCache.history in
    let end : length c.loop-i.players ≤ c.loop-i.i = search rules in
    closes-all g.P.Player.Plays g.P.Player.stopped g.P.Player.ended c.loop-i.i (newest_first (history c.args.cache.now)) (newest_first (history c.loop-i.cache)) seats c.loop-i.players c.loop-i.places.items end (c.loop-i.invariant.closes seats seated)
