use Rattle.std.proofs.Common.{◌≡◌, ◌∙◌, [], refl, sym, ap, subst}
use Rattle.std.specs.Prelude.{None}
use Rattle.edge_outside.specs.Made.{made_none}
use Rattle.cache_types.specs.Entries.{newest_first}
use Rattle.player.specs.declared.turn.Turn.TheVariants.{Outer, Over}
use Rattle.player.specs.Plays.{due}
use Rattle.player.specs.May.{MayTake, IsStopAfter}
use Rattle.schedule_play.specs.Links.{Asks}
use Rattle.schedule_play.specs.Schedule.{Seat, due_of}
use Rattle.schedule_play.proofs.Going.{seat_now, is_open, open_is, holds_now, asks_now, try-turn, over-turn, over-already, has-now, turns-now}
use Rattle.schedule_play.proofs.TicketLaws.{same-tickets}
use Rattle.schedule_play.proofs.turns.turn.Goals as goal

pub returns-then-place-clause-turn : goal.returns-then-place-clause-turn
returns-then-place-clause-turn g c =
    let past = newest_first (g.S.OneCache.history c.args.cache.now) in (
      [],
      made_none (Asks g.L.Link.starts g.L.Link.polls g.L.Link.waits g.L.Link.chooses) c.args.link.now,
      λ seat play. record {
        moved = seat;
        sits = play.may_sit.sits;
        tickets = same-tickets (g.L.Link.is_open c.args.link.now) seat play.tickets;
        turn = over-already g.P.Player.MayWant (g.S.OneCache.most c.args.cache.now) c.args.reading past seat (sym play.may_sit.sits.over_is ∙ c.if-place.true);
      },
    )

pub take-requires-clause-seat : goal.take-requires-clause-seat
take-requires-clause-seat g c =
    let seat : Seat = c.requires.0 in
    let play = c.requires.1 in
    let sits = play.may_sit in
    let past = newest_first (g.S.OneCache.history c.args.cache.now) in
    let plays = sits.sits.holds.plays in
    let goes = c.advance.ensures.ended ∙ sits.sits.holds.ended_is in
    let now = g.P.Player.stopped c.advance.new.self in
    let isnt = is_open g.P.Player.Plays g.P.Player.stopped g.P.Player.ended past c.args.player.now c.advance.new.self c.args.place.now seat sits c.if-place.false c.advance.ensures.plays c.advance.ensures.ended in
    let is : Outer c.in-Outer.call ≡ due_of (seat_now seat now) = sym c.in-Outer.is ∙ (c.advance.ensures.turn seat.program seat.trace plays ∙ ap (λ e. due seat.program seat.trace e now) goes) in
    let may : MayTake seat.trace seat.ended now (Outer c.in-Outer.call) = subst (λ e. MayTake seat.trace e now (Outer c.in-Outer.call)) goes (subst (MayTake seat.trace _ now) c.in-Outer.is (c.advance.ensures.may seat.program seat.trace plays sits.stands.fresh)) in (
      seat_now seat now,
      record {
        asking = asks_now g.P.Player.Plays g.P.Player.stopped g.P.Player.ended past c.args.player.now c.advance.new.self c.args.place.now seat sits c.if-place.false c.advance.ensures.plays c.advance.ensures.ended c.in-Outer.call is may;
        tickets = has-now (g.L.Link.is_open c.args.link.now) seat now isnt play.tickets;
      },
    )

pub returns-in-Outer-clause-turn : goal.returns-in-Outer-clause-turn
returns-in-Outer-clause-turn g c = (
  c.take.ensures.turn.0,
  c.take.ensures.turn.1,
  λ seat play.
      let sits = play.may_sit in
      let past = newest_first (g.S.OneCache.history c.args.cache.now) in
      let after = newest_first (g.S.OneCache.history c.take.new.cache) in
      let most = g.S.OneCache.most c.args.cache.now in
      let plays = sits.sits.holds.plays in
      let goes = c.advance.ensures.ended ∙ sits.sits.holds.ended_is in
      let now = g.P.Player.stopped c.advance.new.self in
      let isnt = is_open g.P.Player.Plays g.P.Player.stopped g.P.Player.ended past c.args.player.now c.advance.new.self c.args.place.now seat sits c.if-place.false c.advance.ensures.plays c.advance.ensures.ended in
      let is : Outer c.in-Outer.call ≡ due_of (seat_now seat now) = sym c.in-Outer.is ∙ (c.advance.ensures.turn seat.program seat.trace plays ∙ ap (λ e. due seat.program seat.trace e now) goes) in
      let may : MayTake seat.trace seat.ended now (Outer c.in-Outer.call) = subst (λ e. MayTake seat.trace e now (Outer c.in-Outer.call)) goes (subst (MayTake seat.trace _ now) c.in-Outer.is (c.advance.ensures.may seat.program seat.trace plays sits.stands.fresh)) in
      let asks = asks_now g.P.Player.Plays g.P.Player.stopped g.P.Player.ended past c.args.player.now c.advance.new.self c.args.place.now seat sits c.if-place.false c.advance.ensures.plays c.advance.ensures.ended c.in-Outer.call is may in
      let gives = c.take.ensures.turn.2 (seat_now seat now) (record { asking = asks; tickets = has-now (g.L.Link.is_open c.args.link.now) seat now isnt play.tickets }) in
      let open_seat = open_is g.P.Player.Plays g.P.Player.stopped g.P.Player.ended past c.args.player.now c.advance.new.self c.args.place.now seat sits c.if-place.false c.advance.ensures.plays c.advance.ensures.ended in
      let stop : IsStopAfter (g.P.Player.MayWant seat.program seat.trace) seat.ended None now = subst (λ e. IsStopAfter (g.P.Player.MayWant seat.program seat.trace) e None now) sits.sits.holds.ended_is (subst (λ o. IsStopAfter (g.P.Player.MayWant seat.program seat.trace) (g.P.Player.ended c.args.player.now) o now) (sits.sits.holds.stopped_is ∙ open_seat.stopped) (c.advance.ensures.stopped seat.program seat.trace plays)) in
      record {
        moved = gives.moved;
        sits = record { holds = gives.holds; over_is = gives.over_is };
        tickets = turns-now (g.L.Link.is_open c.args.link.now) (g.L.Link.is_open c.take.new.link) seat now gives.moved isnt gives.tickets;
        turn = try-turn g.P.Player.MayWant most c.args.reading _ past after seat gives.moved c.in-Outer.call open_seat isnt now stop is may gives.turn;
      },
)

pub returns-in-Over-clause-turn : goal.returns-in-Over-clause-turn
returns-in-Over-clause-turn g c = (
  [],
  made_none (Asks g.L.Link.starts g.L.Link.polls g.L.Link.waits g.L.Link.chooses) c.args.link.now,
  λ seat play.
      let sits = play.may_sit in
      let past = newest_first (g.S.OneCache.history c.args.cache.now) in
      let most = g.S.OneCache.most c.args.cache.now in
      let open_are = g.L.Link.is_open c.args.link.now in
      let plays = sits.sits.holds.plays in
      let goes = c.advance.ensures.ended ∙ sits.sits.holds.ended_is in
      let now = g.P.Player.stopped c.advance.new.self in
      let how = c.in-Over._outcome in
      let isnt = is_open g.P.Player.Plays g.P.Player.stopped g.P.Player.ended past c.args.player.now c.advance.new.self c.args.place.now seat sits c.if-place.false c.advance.ensures.plays c.advance.ensures.ended in
      let is : Over how ≡ due_of (seat_now seat now) = sym c.in-Over.is ∙ (c.advance.ensures.turn seat.program seat.trace plays ∙ ap (λ e. due seat.program seat.trace e now) goes) in
      let may : MayTake seat.trace seat.ended now (Over how) = subst (λ e. MayTake seat.trace e now (Over how)) goes (subst (MayTake seat.trace _ now) c.in-Over.is (c.advance.ensures.may seat.program seat.trace plays sits.stands.fresh)) in
      let open_seat = open_is g.P.Player.Plays g.P.Player.stopped g.P.Player.ended past c.args.player.now c.advance.new.self c.args.place.now seat sits c.if-place.false c.advance.ensures.plays c.advance.ensures.ended in
      let stop : IsStopAfter (g.P.Player.MayWant seat.program seat.trace) seat.ended None now = subst (λ e. IsStopAfter (g.P.Player.MayWant seat.program seat.trace) e None now) sits.sits.holds.ended_is (subst (λ o. IsStopAfter (g.P.Player.MayWant seat.program seat.trace) (g.P.Player.ended c.args.player.now) o now) (sits.sits.holds.stopped_is ∙ open_seat.stopped) (c.advance.ensures.stopped seat.program seat.trace plays)) in
      let both = over-turn g.P.Player.MayWant most c.args.reading past past seat (seat_now seat now) open_seat isnt now how stop is may refl refl in
      record {
        moved = seat_now seat now;
        sits = record { holds = holds_now g.P.Player.Plays g.P.Player.stopped g.P.Player.ended past c.args.player.now c.advance.new.self c.args.place.now seat sits c.if-place.false c.advance.ensures.plays c.advance.ensures.ended; over_is = sym both.0 };
        tickets = turns-now open_are open_are seat now (seat_now seat now) isnt (same-tickets open_are (seat_now seat now) (has-now open_are seat now isnt play.tickets));
        turn = both.1;
      },
)
