use Rattle.std.proofs.Common.{◌+◌, ◌<◌, ◌≤◌, ◌∙◌, length, List, false, sym, subst, arith, rules}
use Rattle.std.proofs.lemmas.List.{length-set}
use Rattle.schedule_play.specs.Schedule.{Seat, seat_at}
use Rattle.schedule_play.specs.Sits.{TellsOn}
use Rattle.schedule_play.proofs.Telling.{tell-count, tells-here, tells-more, tells-all}
use Rattle.schedule_play.proofs.schedule.blocks_of.Goals as goal

pub block_of-requires : goal.block_of-requires
block_of-requires g c =
    let seats : List Seat = c.requires.seats.0 in
    let all = c.requires.seats.1 in
    let count = tell-count g.P.Player.Plays g.P.Player.stopped g.P.Player.ended c.args.players.now c.args.places.now seats all in
    let same = c.loop-i.invariant.count in
    let places = c.requires.places in
    let within : c.loop-i.i < length c.loop-i.players = search rules in
    let on = c.loop-i.invariant.tells seats all in
    (seat_at seats c.loop-i.i, (tells-here g.P.Player.Plays g.P.Player.stopped g.P.Player.ended c.loop-i.players c.args.places.now seats c.loop-i.i c.index-players-i.result (record { guest = 0; over = false }) within (omega (arith, same, places)) (omega (arith, same, count)) on.left).0)

pub loop-i-preserved : goal.loop-i-preserved
loop-i-preserved g c =
    let same = c.loop-i.invariant.count in
    let places = c.requires.places in
    let within : c.loop-i.i < length c.loop-i.players = search rules in
    record {
      count = length-set c.loop-i.players c.loop-i.i c.block_of.new.player ∙ same;
      tells = λ seats all.
          let count = tell-count g.P.Player.Plays g.P.Player.stopped g.P.Player.ended c.args.players.now c.args.places.now seats all in
          let on = c.loop-i.invariant.tells seats all in
          let may = (tells-here g.P.Player.Plays g.P.Player.stopped g.P.Player.ended c.loop-i.players c.args.places.now seats c.loop-i.i c.index-players-i.result (record { guest = 0; over = false }) within (omega (arith, same, places)) (omega (arith, same, count)) on.left).0 in
          subst (TellsOn g.P.Player.Plays g.P.Player.stopped g.P.Player.ended (c.loop-i.i + 1) _ c.args.places.now seats) (sym c.in_ok-push.ensures.items)
          (tells-more g.P.Player.Plays g.P.Player.stopped g.P.Player.ended c.loop-i.i c.loop-i.players c.args.places.now seats c.loop-i.blocks.items c.index-players-i.result c.block_of.new.player (record { guest = 0; over = false }) c.block_of.result within (omega (arith, same, places)) (omega (arith, same, count)) on (c.block_of.ensures (seat_at seats c.loop-i.i) may));
    }

pub returns : goal.returns
returns g c = λ seats all.
    let count = tell-count g.P.Player.Plays g.P.Player.stopped g.P.Player.ended c.args.players.now c.args.places.now seats all in
    let same = c.loop-i.invariant.count in
    let end : length c.loop-i.players ≤ c.loop-i.i = search rules in
    tells-all g.P.Player.Plays g.P.Player.stopped g.P.Player.ended c.loop-i.i c.loop-i.players c.args.places.now seats c.loop-i.blocks.items (omega (arith, end, same, count)) (c.loop-i.invariant.tells seats all)
