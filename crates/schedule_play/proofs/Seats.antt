-- Lists of seats, one of which changes.
use Rattle.std.specs.Prelude.{◌≡◌, ◌≢◌, ◌⊎◌, ℕ, ◌<◌, ◌≤◌, List, [], ◌∷◌, length, slice_set, refl}
use Rattle.std.proofs.Common.{arith, sym, ◌∙◌, inl, inr, zero, suc}
use Rattle.std.proofs.lemmas.Bool.{cases_eq}
use Rattle.cache_types.specs.declared.entries.Entry.{Entry}
use Rattle.cache_types.specs.Legal.{IsLegalPast}
use Rattle.schedule_play.specs.Schedule.{Seat, seat_at}
use Rattle.schedule_play.specs.Ready.{SeatStands, AllStand, NoneIs, AllDiffer, OneIs, AllSeated}
use Rattle.schedule_play.proofs.Guests.{entry-guest}

-- none of the other seats has this guest
abbrev pub OthersAreNot : ℕ → ℕ → List Seat → Type 0
OthersAreNot guest place [] = Unit {0}
OthersAreNot guest zero (seat ∷ seats) = NoneIs guest seats
OthersAreNot guest (suc place) (seat ∷ seats) = (seat.guest ≢ guest) × OthersAreNot guest place seats

pub none-at : (guest place : ℕ) (seats : List Seat) → NoneIs guest seats → place < length seats → (seat_at seats place).guest ≢ guest
none-at guest place [] none within = absurd (omega arith)
none-at guest zero (seat ∷ seats) none within = none.0
none-at guest (suc place) (seat ∷ seats) none within = none-at guest place seats none.1 (omega arith)

-- a guest that began has one seat
pub others-differ : (place : ℕ) (seats : List Seat) → AllDiffer seats → place < length seats → (seat_at seats place).guest ≢ 0 → OthersAreNot (seat_at seats place).guest place seats
others-differ place [] differ within began = tt
others-differ zero (seat ∷ seats) differ within began = elim differ.0 [ inl new ↦ absurd (began new) | inr none ↦ none ]
others-differ (suc place) (seat ∷ seats) differ within began =
    let apart : seat.guest ≢ (seat_at seats place).guest =
    elim differ.0 [ inl new ↦ λ same. began (sym same ∙ new) | inr none ↦ λ same. none-at seat.guest place seats none (omega arith) (sym same) ]
    in (apart, others-differ place seats differ.1 (omega arith) began)

-- a new guest has none yet
pub none-fresh : (past : List Entry) (seats : List Seat) (guest : ℕ) → AllStand past seats → length past < guest → NoneIs guest seats
none-fresh past [] guest stand above = tt
none-fresh past (seat ∷ seats) guest stand above =
    let named : seat.guest ≤ length past = stand.0.named in ((λ same. omega arith), none-fresh past seats guest stand.1 above)

pub others-fresh : (past : List Entry) (place : ℕ) (seats : List Seat) (guest : ℕ) → AllStand past seats → length past < guest → OthersAreNot guest place seats
others-fresh past place [] guest stand above = tt
others-fresh past zero (seat ∷ seats) guest stand above = none-fresh past seats guest stand.1 above
others-fresh past (suc place) (seat ∷ seats) guest stand above =
    let named : seat.guest ≤ length past = stand.0.named in ((λ same. omega arith), others-fresh past place seats guest stand.1 above)

-- what stands of each seat, when one changes and the others keep it
pub stand-all : (past after : List Entry) (guest : ℕ) (seats : List Seat) → ((seat : Seat) → SeatStands past seat → seat.guest ≢ guest → SeatStands after seat) → AllStand past seats → NoneIs guest seats → AllStand after seats
stand-all past after guest [] keeps stand none = tt
stand-all past after guest (seat ∷ seats) keeps stand none = (keeps seat stand.0 none.0, stand-all past after guest seats keeps stand.1 none.1)

pub stand-set : (past after : List Entry) (guest place : ℕ) (seats : List Seat) (moved : Seat) → ((seat : Seat) → SeatStands past seat → seat.guest ≢ guest → SeatStands after seat) → AllStand past seats → OthersAreNot guest place seats → SeatStands after moved → AllStand after (slice_set seats place moved)
stand-set past after guest place [] moved keeps stand others now = tt
stand-set past after guest zero (seat ∷ seats) moved keeps stand others now = (now, stand-all past after guest seats keeps stand.1 others)
stand-set past after guest (suc place) (seat ∷ seats) moved keeps stand others now =
    (keeps seat stand.0 others.0, stand-set past after guest place seats moved keeps stand.1 others.1 now)

pub stand-set_same : (past : List Entry) (place : ℕ) (seats : List Seat) (moved : Seat) → AllStand past seats → SeatStands past moved → AllStand past (slice_set seats place moved)
stand-set_same past place [] moved stand now = tt
stand-set_same past zero (seat ∷ seats) moved stand now = (now, stand.1)
stand-set_same past (suc place) (seat ∷ seats) moved stand now = (stand.0, stand-set_same past place seats moved stand.1 now)

pub none-set : (guest place : ℕ) (seats : List Seat) (moved : Seat) → NoneIs guest seats → moved.guest ≢ guest → NoneIs guest (slice_set seats place moved)
none-set guest place [] moved none apart = tt
none-set guest zero (seat ∷ seats) moved none apart = (apart, none.1)
none-set guest (suc place) (seat ∷ seats) moved none apart = (none.0, none-set guest place seats moved none.1 apart)

pub differ-set : (place : ℕ) (seats : List Seat) (moved : Seat) → AllDiffer seats → OthersAreNot moved.guest place seats → AllDiffer (slice_set seats place moved)
differ-set place [] moved differ others = tt
differ-set zero (seat ∷ seats) moved differ others = (inr others, differ.1)
differ-set (suc place) (seat ∷ seats) moved differ others =
    (elim differ.0 [ inl new ↦ inl new | inr none ↦ inr (none-set seat.guest place seats moved none (λ same. others.0 (sym same))) ], differ-set place seats moved differ.1 others.1)

-- a guest that never began is like no other
pub differ-set_new : (place : ℕ) (seats : List Seat) (moved : Seat) → AllDiffer seats → moved.guest ≡ 0 → AllDiffer (slice_set seats place moved)
differ-set_new place [] moved differ new = tt
differ-set_new zero (seat ∷ seats) moved differ new = (inl new, differ.1)
differ-set_new (suc place) (seat ∷ seats) moved differ new = (
  elim differ.0 [
    | inl old ↦ inl old
    | inr none ↦ elim (cases_eq seat.guest 0) [ inl old ↦ inl old | inr began ↦ inr (none-set seat.guest place seats moved none (λ same. began (sym same ∙ new))) ]
  ],
  differ-set_new place seats moved differ.1 new,
)

pub one-here : (place : ℕ) (seats : List Seat) (moved : Seat) → place < length seats → OneIs moved.guest (slice_set seats place moved)
one-here place [] moved within = absurd (omega arith)
one-here zero (seat ∷ seats) moved within = inl refl
one-here (suc place) (seat ∷ seats) moved within = inr (one-here place seats moved (omega arith))

-- the seat at the place keeps its guest, or gets its first one
abbrev pub KeepsGuest : ℕ → List Seat → Seat → Type 0
KeepsGuest place seats moved = ((seat_at seats place).guest ≡ moved.guest) ⊎ ((seat_at seats place).guest ≡ 0)

pub one-set : (guest place : ℕ) (seats : List Seat) (moved : Seat) → OneIs guest seats → guest ≢ 0 → KeepsGuest place seats moved → OneIs guest (slice_set seats place moved)
one-set guest place [] moved one began keeps = one
one-set guest zero (seat ∷ seats) moved one began keeps =
    elim one [
      | inl here ↦ inl (elim keeps [ inl same ↦ sym same ∙ here | inr new ↦ absurd (began (sym here ∙ new)) ])
      | inr there ↦ inr there
    ]
one-set guest (suc place) (seat ∷ seats) moved one began keeps = elim one [ inl here ↦ inl here | inr there ↦ inr (one-set guest place seats moved there began keeps) ]

pub seated-set : (past : List Entry) (place : ℕ) (seats : List Seat) (moved : Seat) → IsLegalPast past → AllSeated past seats → KeepsGuest place seats moved → AllSeated past (slice_set seats place moved)
seated-set [] place seats moved legal seated keeps = tt
seated-set (e ∷ past) place seats moved legal seated keeps =
    let named = entry-guest past e e.call legal.1 legal.0.number legal.0.guest in
    let ge : 1 ≤ e.guest = named.0 in
    (one-set e.guest place seats moved seated.0 (λ new. omega arith) keeps, seated-set past place seats moved legal.1 seated.1 keeps)
