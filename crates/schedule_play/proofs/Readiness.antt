-- Every turn leaves guests that may go on.
use Rattle.std.specs.Prelude.{◌≡◌, ◌≢◌, ◌⊎◌, ℕ, ◌<◌, ◌≤◌, Bool, true, false, ◌&&◌, List, ◌∷◌, length, slice_set, ◌==◌, refl, IsTrue, Option, None, Some}
use Rattle.std.proofs.Common.{arith, ap, sym, ◌∙◌, subst, inl, inr}
use Rattle.std.proofs.Math.Bool.{and-false}
use Rattle.std.proofs.lemmas.Bool.{ne_eqb, cases_eq, and_from}
use Rattle.cache_types.specs.declared.entries.Entry.{Entry}
use Rattle.cache_types.specs.declared.outer.Outcome.{Outcome}
use Rattle.cache_types.specs.Entries.{is_end}
use Rattle.cache_types.specs.Limits.{is_within_limits}
use Rattle.cache_types.specs.Legal.{IsNext}
use Rattle.schedule_play.specs.Schedule.{Seat, World, seat_at}
use Rattle.schedule_play.specs.Blocks.{own, told_of, keep_limits}
use Rattle.schedule_play.specs.Ready.{IsGoing, IsGoingOn, IsSeatState, SeatStands, AllDiffer, OneIs, IsReady}
use Rattle.schedule_play.proofs.Guests.{live-stays}
use Rattle.schedule_play.proofs.Seats.{OthersAreNot, KeepsGuest, others-differ, others-fresh, stand-set, stand-set_same, differ-set, differ-set_new, one-here, seated-set}

-- an entry of another guest changes nothing of a seat
pub stand-other : (past : List Entry) (e : Entry) (seat : Seat) → SeatStands past seat → seat.guest ≢ e.guest → SeatStands (e ∷ past) seat
stand-other past e seat stands apart =
    let other : (e.guest == seat.guest) ≡ false = ne_eqb e.guest seat.guest (λ same. apart (sym same)) in
    let same : own past seat.guest ≡ own (e ∷ past) seat.guest = rw other refl in
    let named : seat.guest ≤ length past = stands.named in
    let goes_on : (is_end e.call && e.guest == seat.guest) ≡ false = rw other (and-false (is_end e.call)) in
    let going : IsGoing past seat → IsGoing (e ∷ past) seat = elim [ inl new ↦ inl new | inr live ↦ inr (live-stays past e seat.guest live.0 goes_on, live.1) ] in
    let going_on : (ended : Bool) → IsGoingOn past seat ended → IsGoingOn (e ∷ past) seat ended = elim [ true ↦ λ s. s | false ↦ going ] in
    let state : (stopped : Option Outcome) → IsSeatState past seat stopped → IsSeatState (e ∷ past) seat stopped =
    elim [ None ↦ λ s. (going_on seat.ended s.0, s.1) | Some why ↦ λ s. s ]
    in record {
      named = omega arith;
      answers = stands.answers;
      fresh = stands.fresh;
      tied = stands.tied ∙ ap told_of same;
      state = state seat.stopped stands.state;
    }

-- one more entry of a seat's guest
pub ready-appended : (world : World) (place : ℕ) (e : Entry) (moved : Seat) → IsReady world → place < length world.seats → IsNext world.past e → moved.guest ≡ e.guest → ((seat_at world.seats place).guest ≢ 0) × ((seat_at world.seats place).guest ≡ e.guest) ⊎ ((seat_at world.seats place).guest ≡ 0) × (length world.past < e.guest) → IsTrue (is_within_limits e.call) → SeatStands (e ∷ world.past) moved → IsReady (record { past = e ∷ world.past; seats = slice_set world.seats place moved })
ready-appended world place e moved ready within next guest whose limits stands =
    let others : OthersAreNot e.guest place world.seats = elim whose [
      | inl same ↦ subst (λ g. OthersAreNot g place world.seats) same.1 (others-differ place world.seats ready.differ within same.0)
      | inr new ↦ others-fresh world.past place world.seats e.guest ready.stand new.1
    ] in
    let keeps : KeepsGuest place world.seats moved = elim whose [ inl same ↦ inl (same.1 ∙ sym guest) | inr new ↦ inr new.0 ] in
    record {
      legal = (next, ready.legal);
      limits = and_from (is_within_limits e.call) (keep_limits world.past) limits ready.limits;
      stand = stand-set world.past (e ∷ world.past) e.guest place world.seats moved (stand-other world.past e) ready.stand others stands;
      differ = differ-set place world.seats moved ready.differ (subst (λ g. OthersAreNot g place world.seats) (sym guest) others);
      seated = (subst (λ g. OneIs g (slice_set world.seats place moved)) guest (one-here place world.seats moved within), seated-set world.past place world.seats moved ready.legal ready.seated keeps);
    }

-- a seat that changes without an entry
pub ready-same : (world : World) (place : ℕ) (moved : Seat) → IsReady world → place < length world.seats → moved.guest ≡ (seat_at world.seats place).guest → SeatStands world.past moved → IsReady (record { past = world.past; seats = slice_set world.seats place moved })
ready-same world place moved ready within guest stands =
    let differ : AllDiffer (slice_set world.seats place moved) = elim (cases_eq moved.guest 0) [
      | inl new ↦ differ-set_new place world.seats moved ready.differ new
      | inr began ↦ differ-set place world.seats moved ready.differ (subst (λ g. OthersAreNot g place world.seats) (sym guest) (others-differ place world.seats ready.differ within (λ new. began (guest ∙ new))))
    ] in
    record {
      legal = ready.legal;
      limits = ready.limits;
      stand = stand-set_same world.past place world.seats moved ready.stand stands;
      differ = differ;
      seated = seated-set world.past place world.seats moved ready.legal ready.seated (inl (sym guest));
    }
