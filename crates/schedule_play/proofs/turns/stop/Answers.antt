use Rattle.std.proofs.Common.{◌∙◌, refl}
use Rattle.schedule_play.specs.Schedule.{Seat, stop_seat}
use Rattle.schedule_play.proofs.turns.stop.Goals as goal

pub make_end-requires : goal.make_end-requires
make_end-requires g c =
    let seat : Seat = c.requires.0 in
    let stands = c.requires.1 in (
      stop_seat seat c.args.outcome,
      record {
        holds = record { plays = c.stop.ensures.plays seat.program seat.trace stands.holds.plays; stopped_is = c.stop.ensures.stopped; ended_is = c.stop.ensures.ended ∙ stands.holds.ended_is; guest_is = stands.holds.guest_is };
        was = refl;
        live = stands.live;
      },
    )

pub returns-clause-turn : goal.returns-clause-turn
returns-clause-turn g c = λ seat stands.
    c.make_end.ensures.turn (stop_seat seat c.args.outcome) (record {
      holds = record { plays = c.stop.ensures.plays seat.program seat.trace stands.holds.plays; stopped_is = c.stop.ensures.stopped; ended_is = c.stop.ensures.ended ∙ stands.holds.ended_is; guest_is = stands.holds.guest_is };
      was = refl;
      live = stands.live;
    })
