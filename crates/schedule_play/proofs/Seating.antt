-- Players at the seats of a world, one of which had its turn.
use Rattle.std.specs.Prelude.{◌≡◌, ℕ, ◌-◌, ◌<◌, Bool, List, [], ◌++◌, length, slice_set, refl, Option}
use Rattle.std.specs.List.{slice_index_or}
use Rattle.std.proofs.Common.{arith, ap, subst}
use Rattle.cache_types.specs.declared.entries.Entry.{Entry}
use Rattle.cache_types.specs.declared.outer.Outcome.{Outcome}
use Rattle.script_lines.specs.declared.step.Step.{Step}
use Rattle.player.specs.Plays.{Program, Answered}
use Rattle.schedule_play.specs.declared.place.Place.{Place}
use Rattle.schedule_play.specs.Schedule.{Seat, seat_at, closed_turn, MayTurn}
use Rattle.schedule_play.specs.Tickets.{HaveTickets}
use Rattle.schedule_play.specs.Sits.{MaySit, MayPlay, TurnGives, IsSeated, IsStepped, IsClosed, ClosesAt}
use Rattle.schedule_play.proofs.Sitting.{sit-count, sit-at, sit-set}
use Rattle.schedule_play.proofs.Closings.{ready-closed}
use Rattle.schedule_play.proofs.TicketLaws.{have-set}
use Rattle.schedule_play.proofs.Programs.{programs-set, may_turn-program}
use Rattle.schedule_play.proofs.Worlds.{stands-at, ready-after, ready-may_turn}

module _ {P : Type 0} (Plays : P → Program → List Answered → Type 0) (stopped : P → Option Outcome) (ended : P → Bool) (past : List Entry) (players : List P) (places : List Place) (seats : List Seat) (at : ℕ) (player : P) (place : Place) (seated : IsSeated Plays stopped ended past players places seats) (within : at < length players) where
  in_world : at < length seats
  in_world = let count = sit-count Plays stopped ended players places seats seated.sit in omega (arith, count)

  -- the player at the place may have its turn
  pub may-sit : player ≡ slice_index_or players at player → place ≡ slice_index_or places at place → MaySit Plays stopped ended past player place (seat_at seats at)
  may-sit is there = record {
    sits = sit-at Plays stopped ended players places seats at player place seated.sit within is there;
    legal = seated.ready.legal;
    stands = stands-at past at seats seated.ready.stand in_world;
  }

  pub may-play : (is_open : ℕ → Type 0) → HaveTickets is_open seats → player ≡ slice_index_or players at player → place ≡ slice_index_or places at place → MayPlay Plays stopped ended is_open past player place (seat_at seats at)
  may-play is_open tickets is there = record { may_sit = may-sit is there; tickets = tickets.each at }

  pub is-stepped : (MayWant : Program → List Answered → Type 0) (before later : ℕ → Type 0) (most : ℕ) (step : Step) (heard : List Answered) (after : List Entry) (now : P) (there : Place) → HaveTickets before seats → at ≡ step.player - 1 → TurnGives Plays stopped ended MayWant before later most step.reading heard past (seat_at seats at) after now there → IsStepped Plays stopped ended MayWant later most step heard past seats after (slice_set players at now) (slice_set places at there)
  is-stepped MayWant before later most step heard after now there tickets name gives = record {
    next = slice_set seats at gives.moved;
    at_play = record {
      seated = record {
        sit = sit-set Plays stopped ended players places seats at now there gives.moved seated.sit gives.sits;
        ready = ready-may_turn (record { past = past; seats = seats }) at step.reading seated.ready in_world MayWant most (heard ++ []) [] after gives.moved (gives.turn []);
      };
      tickets = have-set before later seats at gives.moved tickets in_world gives.tickets;
    };
    gives = λ left. record {
      seat = gives.moved;
      turn = subst (λ n. MayTurn MayWant most step.reading (heard ++ left) left past (seat_at seats n) after gives.moved) name (gives.turn left);
      seats = ap (λ n. slice_set seats n gives.moved) name;
    };
    programs = programs-set at seats gives.moved (may_turn-program MayWant most step.reading (heard ++ []) [] past after (seat_at seats at) gives.moved (gives.turn []));
  }

  pub closes-at : (after : List Entry) (now : P) (there : Place) → IsClosed Plays stopped ended after now there (closed_turn past (seat_at seats at)) → ClosesAt Plays stopped ended at past seats after (slice_set players at now) (slice_set places at there)
  closes-at after now there closed = record {
    seated = record {
      sit = sit-set Plays stopped ended players places seats at now there (closed_turn past (seat_at seats at)).seat seated.sit closed.sits;
      ready = ready-after (record { past = past; seats = seats }) at 0 seated.ready in_world (closed_turn past (seat_at seats at)) after (closed_turn past (seat_at seats at)).seat (record { past_is = closed.past_is; seat_is = refl }) (ready-closed (record { past = past; seats = seats }) at seated.ready in_world);
    };
    past_is = closed.past_is;
  }
