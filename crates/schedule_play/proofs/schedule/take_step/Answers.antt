use Rattle.std.proofs.Common.{◌<◌, length, List, sym, subst}
use Rattle.std.specs.Prelude.{slice_index_or}
use Rattle.std.proofs.lemmas.List.{get_or_default}
use Rattle.cache_types.specs.Entries.{newest_first}
use Rattle.schedule_play.specs.Schedule.{Seat, seat_at}
use Rattle.schedule_play.proofs.Seating.{may-play, is-stepped}
use Rattle.schedule_play.proofs.schedule.take_step.Goals as goal

pub turn-requires : goal.turn-requires
turn-requires g c =
    let past = newest_first (g.S.OneCache.history c.args.cache.now) in
    let players = c.args.players.now in
    let at = c.saturating_sub-at.result in
    let found = c.index-players-at.result in
    let within : at < length players = subst (λ at. at < length players) (sym c.saturating_sub-at.ensures) c.requires.player in
    let seats : List Seat = c.requires.world.0 in
    let play = c.requires.world.1 in (
      seat_at seats at,
      may-play g.P.Player.Plays g.P.Player.stopped g.P.Player.ended past players c.args.places.now.items seats at (slice_index_or players at found) c.index_mut-place.result.now play.seated within (g.L.Link.is_open c.args.link.now) play.tickets (get_or_default players at found (slice_index_or players at found) within) c.index_mut-place.ensures.value,
    )

pub returns-clause-step : goal.returns-clause-step
returns-clause-step g c = (
  c.turn.ensures.turn.0,
  c.turn.ensures.turn.1,
  λ seats play.
      let past = newest_first (g.S.OneCache.history c.args.cache.now) in
      let players = c.args.players.now in
      let at = c.saturating_sub-at.result in
      let found = c.index-players-at.result in
      let within : at < length players = subst (λ at. at < length players) (sym c.saturating_sub-at.ensures) c.requires.player in
      let may = may-play g.P.Player.Plays g.P.Player.stopped g.P.Player.ended past players c.args.places.now.items seats at (slice_index_or players at found) c.index_mut-place.result.now play.seated within (g.L.Link.is_open c.args.link.now) play.tickets (get_or_default players at found (slice_index_or players at found) within) c.index_mut-place.ensures.value in
      is-stepped g.P.Player.Plays g.P.Player.stopped g.P.Player.ended past players c.args.places.now.items seats at found c.index_mut-place.result.now play.seated within g.P.Player.MayWant (g.L.Link.is_open c.args.link.now) (g.L.Link.is_open c.turn.new.link) (g.S.OneCache.most c.args.cache.now) c.args.step _ (newest_first (g.S.OneCache.history c.turn.new.cache)) c.turn.new.player c.turn.new.place play.tickets c.saturating_sub-at.ensures (c.turn.ensures.turn.2 (seat_at seats at) may),
)
