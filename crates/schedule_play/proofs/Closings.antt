-- Guests that are closed after the last step.
use Rattle.std.specs.Prelude.{◌≡◌, ℕ, ◌+◌, ◌<◌, Bool, true, false, List, [], ◌∷◌, ◌++◌, length, take, drop, slice_set, refl, if◌then◌else◌}
use Rattle.std.proofs.Common.{ap, sym, ◌∙◌, subst, zero, suc, add-one}
use Rattle.std.proofs.Math.Seq.{take-suc-set, drop-cons}
use Rattle.cache_types.specs.declared.entries.Entry.{Entry}
use Rattle.cache_types.specs.declared.outer.Outcome.TheVariants as outcome
use Rattle.schedule_play.specs.Schedule.{Seat, Moved, World, seat_at, no_seat, unchanged, stopped, is_closed, closed_turn, closed}
use Rattle.schedule_play.specs.Ready.{IsReady, AllOver}
use Rattle.schedule_play.specs.OneResult.{after_turn}
use Rattle.schedule_play.proofs.Going.{open-seat}
use Rattle.schedule_play.proofs.Trying.{stopped-closed}
use Rattle.schedule_play.proofs.Worlds.{stands-at, ready-unchanged, ready-stopped}

pub ready-closed : (world : World) (place : ℕ) → IsReady world → place < length world.seats → IsReady (after_turn world place (closed_turn world.past (seat_at world.seats place)))
ready-closed world place ready within =
    let seat : Seat = seat_at world.seats place in
    let with : (b : Bool) → is_closed seat ≡ b → IsReady (after_turn world place (if b then unchanged world.past seat else stopped world.past seat 0 outcome.Unscheduled)) =
    elim [ true ↦ λ _. ready-unchanged world place 0 ready within | false ↦ λ isnt. ready-stopped world place 0 ready within outcome.Unscheduled tt (open-seat world.past seat (stands-at world.past place world.seats ready.stand within) isnt) ]
    in with (is_closed seat) refl

pub closed-over : (past : List Entry) (seat : Seat) → is_closed (closed_turn past seat).seat ≡ true
closed-over past seat =
    let with : (b : Bool) → is_closed seat ≡ b → is_closed (if b then unchanged past seat else stopped past seat 0 outcome.Unscheduled).seat ≡ true =
    elim [ true ↦ λ over. over | false ↦ λ _. stopped-closed past seat 0 outcome.Unscheduled ]
    in with (is_closed seat) refl

pub over-push : (seats : List Seat) (seat : Seat) → AllOver seats → is_closed seat ≡ true → AllOver (seats ++ seat ∷ [])
over-push [] seat over last = (last, tt)
over-push (first ∷ seats) seat over last = (over.0, over-push seats seat over.1 last)

pub drop-set_before : {A : Type 0} (xs : List A) (place : ℕ) (x : A) → drop (suc place) (slice_set xs place x) ≡ drop (suc place) xs
drop-set_before [] place x = refl
drop-set_before (y ∷ xs) zero x = refl
drop-set_before (y ∷ xs) (suc place) x = drop-set_before xs place x

-- one more guest is closed
pub close-step : (past after : List Entry) (seats next : List Seat) (place : ℕ) → place < length seats → after ≡ (closed_turn past (seat_at seats place)).past → next ≡ slice_set seats place (closed_turn past (seat_at seats place)).seat → closed after (take (place + 1) next) (drop (place + 1) next) ≡ closed past (take place seats) (drop place seats)
close-step past after seats next place within past_is seats_are =
    let turn : Moved = closed_turn past (seat_at seats place) in
    let front : take (place + 1) next ≡ take place seats ++ turn.seat ∷ [] = ap (take (place + 1)) seats_are ∙ rw add-one (take-suc-set seats place turn.seat within) in
    let back : drop (place + 1) next ≡ drop (suc place) seats = ap (drop (place + 1)) seats_are ∙ rw add-one (drop-set_before seats place turn.seat) in
    let rest : drop place seats ≡ seat_at seats place ∷ drop (suc place) seats = drop-cons seats place no_seat within in
    rw (past_is, front, back, rest) refl

-- and is over
pub over-step : (past : List Entry) (seats next : List Seat) (place : ℕ) → place < length seats → next ≡ slice_set seats place (closed_turn past (seat_at seats place)).seat → AllOver (take place seats) → AllOver (take (place + 1) next)
over-step past seats next place within seats_are over =
    let turn : Moved = closed_turn past (seat_at seats place) in
    let front : take (place + 1) next ≡ take place seats ++ turn.seat ∷ [] = ap (take (place + 1)) seats_are ∙ rw add-one (take-suc-set seats place turn.seat within) in
    subst AllOver (sym front) (over-push (take place seats) turn.seat over (closed-over past (seat_at seats place)))
