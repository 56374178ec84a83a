use Rattle.std.proofs.Common.{List}
use Rattle.std.specs.Prelude.{slice_index_or}
use Rattle.std.proofs.lemmas.List.{get_or_default}
use Rattle.cache_types.specs.Entries.{newest_first}
use Rattle.schedule_play.specs.Schedule.{Seat, seat_at}
use Rattle.schedule_play.proofs.Seating.{may-sit, closes-at}
use Rattle.schedule_play.proofs.schedule.close_at.Goals as goal

pub close_one-requires : goal.close_one-requires
close_one-requires g c =
    let past = newest_first (g.S.OneCache.history c.args.cache.now) in
    let players = c.args.players.now in
    let at = c.args.at in
    let found = c.index-players-at.result in
    let seats : List Seat = c.requires.world.0 in (
      seat_at seats at,
      may-sit g.P.Player.Plays g.P.Player.stopped g.P.Player.ended past players c.args.places.now.items seats at (slice_index_or players at found) c.index_mut-place.result.now c.requires.world.1 c.requires.at (get_or_default players at found (slice_index_or players at found) c.requires.at) c.index_mut-place.ensures.value,
    )

pub returns-clause-closes : goal.returns-clause-closes
returns-clause-closes g c = λ seats seated.
    let past = newest_first (g.S.OneCache.history c.args.cache.now) in
    let players = c.args.players.now in
    let at = c.args.at in
    let found = c.index-players-at.result in
    let may = may-sit g.P.Player.Plays g.P.Player.stopped g.P.Player.ended past players c.args.places.now.items seats at (slice_index_or players at found) c.index_mut-place.result.now seated c.requires.at (get_or_default players at found (slice_index_or players at found) c.requires.at) c.index_mut-place.ensures.value in
    closes-at g.P.Player.Plays g.P.Player.stopped g.P.Player.ended past players c.args.places.now.items seats at found c.index_mut-place.result.now seated c.requires.at (newest_first (g.S.OneCache.history c.close_one.new.cache)) c.close_one.new.player c.close_one.new.place (c.close_one.ensures (seat_at seats at) may)
