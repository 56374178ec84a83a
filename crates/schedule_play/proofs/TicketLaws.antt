-- What a guest's step does to tickets.
use Rattle.std.specs.Prelude.{◌≡◌, ◌≢◌, ◌⊎◌, ℕ, ◌<◌, Bool, true, false, ◌&&◌, ◌||◌, not, List, [], ◌∷◌, ◌++◌, filter, length, map, slice_set, ◌==◌, refl, IsTrue, Some, is_some, if◌then◌else◌}
use Rattle.std.specs.List.{All, list_all}
use Rattle.std.proofs.Common.{arith, ap, sym, ◌∙◌, subst, inl, inr, zero, suc, eqb-true}
use Rattle.std.proofs.lemmas.Bool.{cases_eq, and_parts}
use Rattle.std.proofs.lemmas.List.Elements.{All-nil, All-cons}
use Rattle.cache_types.specs.declared.calls.CacheCall.{CacheCall}
use Rattle.cache_types.specs.declared.entries.Entry.{Entry}
use Rattle.cache_types.specs.declared.outer.Outcome.{Outcome}
use Rattle.cache_types.specs.declared.outer.Outcome.TheVariants as outcome
use Rattle.cache_types.specs.declared.outer.OuterCall.{OuterCall}
use Rattle.cache_types.specs.declared.outer.OuterCall.TheVariants.{Cache, Now, Start, Poll, WaitFor, AnyOf, Head, Piece, Close, Log}
use Rattle.cache_types.specs.declared.outer.OuterReply.{OuterReply}
use Rattle.cache_types.specs.declared.outer.OuterReply.TheVariants.{Started}
use Rattle.cache_types.specs.Entries.{is_not_yet}
use Rattle.cache_types.specs.Limits.{is_from_to}
use Rattle.cache_types.specs.Step.{entry_after, reply_after, is_full}
use Rattle.player.specs.Plays.{Program, Answered, is_end_call}
use Rattle.player.specs.May.{MayAsk}
use Rattle.player.specs.Tickets.{asks_for, takes, lets_go, with_given, held_after, held_behind, is_among, holds, IsFresh}
use Rattle.schedule_play.specs.Schedule.{Seat, seat_at, new_seat, noted, answered, answered_of, unchanged, is_closed, stopped, tried_cache}
use Rattle.schedule_play.specs.Tickets.{MayAskLink, MovesTickets, Owns, HasTickets, TurnsTickets, HaveTickets}
use Rattle.schedule_play.proofs.Fresh.{held-more, fresh-given}
use Rattle.schedule_play.proofs.Trying.{stopped-closed, not-closed}

-- ---- one more answered call

filter-keeps : (keep : ℕ → Bool) (held : List ℕ) (ticket : ℕ) → is_among (filter keep held) ticket ≡ true → (is_among held ticket ≡ true) × (keep ticket ≡ true)
filter-keeps keep [] ticket is = cc is
filter-keeps keep (other ∷ held) ticket is =
    let later : is_among (filter keep held) ticket ≡ true → ((other == ticket || is_among held ticket) ≡ true) × (keep ticket ≡ true) = λ there.
    let rest = filter-keeps keep held ticket there in
    let with : (b : Bool) → (b || is_among held ticket) ≡ true = elim [ true ↦ refl | false ↦ rest.0 ] in (with (other == ticket), rest.1)
    in
    let first : keep other ≡ true → (b : Bool) → (other == ticket) ≡ b → (b || is_among (filter keep held) ticket) ≡ true → ((other == ticket || is_among held ticket) ≡ true) × (keep ticket ≡ true) = λ kept.
    elim [
      | true ↦ λ same _. (rw same refl, subst (λ n. keep n ≡ true) (eqb-true other ticket same) kept)
      | false ↦ λ _ there. later there
    ]
    in
    let with : (b : Bool) → keep other ≡ b → is_among (if b then other ∷ filter keep held else filter keep held) ticket ≡ true → ((other == ticket || is_among held ticket) ≡ true) × (keep ticket ≡ true) =
    elim [ true ↦ λ kept there. first kept (other == ticket) refl there | false ↦ λ _ there. later there ]
    in with (keep other) refl is

given-among : (reply : OuterReply) (held : List ℕ) (ticket : ℕ) → is_among (with_given reply held) ticket ≡ true → (is_among held ticket ≡ true) ⊎ (reply ≡ Started ticket)
given-among (Started other) held ticket is =
    let with : (b : Bool) → (other == ticket) ≡ b → (b || is_among held ticket) ≡ true → (is_among held ticket ≡ true) ⊎ (Started other ≡ Started ticket) =
    elim [ true ↦ λ same _. inr (ap Started (eqb-true other ticket same)) | false ↦ λ _ there. inl there ]
    in with (other == ticket) refl is
given-among _ held ticket is = inl is

not-false : (b : Bool) → not b ≡ true → b ≡ false
not-false true is = cc is
not-false false is = refl

-- what is held behind one more call was held and isn't let go, or was given
holds-more : (trace : List Answered) (call : OuterCall) (reply : OuterReply) (ticket : ℕ) → holds (trace ++ record { call = call; reply = reply } ∷ []) ticket ≡ true → ((holds trace ticket ≡ true) × (lets_go call reply ticket ≡ false)) ⊎ (reply ≡ Started ticket)
holds-more trace call reply ticket is =
    let a : Answered = record { call = call; reply = reply } in
    let after : is_among (held_after (held_behind [] trace) a) ticket ≡ true = sym (ap (λ (held : List ℕ). is_among held ticket) (held-more [] trace a)) ∙ is in
    elim (given-among reply (filter (λ t. not (lets_go call reply t)) (held_behind [] trace)) ticket after) [
      | inl kept ↦ let parts = filter-keeps (λ t. not (lets_go call reply t)) (held_behind [] trace) ticket kept in inl (parts.0, not-false (lets_go call reply ticket) parts.1)
      | inr given ↦ inr given
    ]

or-false : (a b : Bool) → (a || b) ≡ false → b ≡ false
or-false true b is = cc is
or-false false b is = is

go-false : (asked went : Bool) → asked ≡ false → (asked && went) ≡ false
go-false asked went is = rw is refl

-- ---- turns

pub same-tickets : (is_open : ℕ → Type 0) (seat : Seat) → HasTickets is_open seat → TurnsTickets is_open is_open seat seat
same-tickets is_open seat has = record { keeps = λ ticket stands _. stands; has = has; new = λ ticket owns. inl owns }

-- a guest that is over has none
pub closed-tickets : (before after : ℕ → Type 0) (seat moved : Seat) → is_closed moved ≡ true → ((ticket : ℕ) → before ticket → (Owns seat ticket → ⊥) → after ticket) → TurnsTickets before after seat moved
closed-tickets before after seat moved over keeps = record {
  keeps = keeps;
  has = λ ticket owns. let open_is = owns.0 in cc (over, open_is);
  new = λ ticket owns. let open_is = owns.0 in cc (over, open_is);
}

module _ (before after : ℕ → Type 0) (seat : Seat) (guest : ℕ) (call : OuterCall) (reply : OuterReply) (has : HasTickets before seat) (goes : seat.ended ≡ false) (asks : (ticket : ℕ) → asks_for call ticket ≡ true → Owns seat ticket) (moves : MovesTickets before after call (Some reply)) where
  was-open : is_closed (noted seat guest call reply) ≡ false → is_closed seat ≡ false
  was-open is = not-closed seat goes (or-false (is_end_call (Some call)) (is_some seat.stopped) is)

  -- an answered call
  pub noted-tickets : TurnsTickets before after seat (noted seat guest call reply)
  noted-tickets = record {
    keeps = λ ticket stands others.
        let with : (b : Bool) → asks_for call ticket ≡ b → after ticket =
        elim [ true ↦ λ is. absurd (others (asks ticket is)) | false ↦ λ isnt. moves.stays ticket stands (go-false (asks_for call ticket) (takes reply) isnt) ]
        in with (asks_for call ticket) refl;
    has = λ ticket owns. elim (holds-more seat.trace call reply ticket owns.1) [
      | inl old ↦ moves.stays ticket (has ticket (was-open owns.0, old.0)) old.1
      | inr given ↦ (moves.opens ticket (ap Some given)).0
    ];
    new = λ ticket owns. elim (holds-more seat.trace call reply ticket owns.1) [
      | inl old ↦ inl (was-open owns.0, old.0)
      | inr given ↦ inr (moves.opens ticket (ap Some given)).1
    ];
  }

-- a ticket that the reply gives isn't held yet
pub given-fresh : (before after : ℕ → Type 0) (seat : Seat) (call : OuterCall) (reply : OuterReply) → HasTickets before seat → is_closed seat ≡ false → MovesTickets before after call (Some reply) → IsFresh (held_behind [] seat.trace) reply
given-fresh before after seat call reply has isnt moves = fresh-given reply (held_behind [] seat.trace) (λ ticket given held. (moves.opens ticket (ap Some given)).1 (has ticket (isnt, held)))

pub stopped-tickets : (is_open : ℕ → Type 0) (past : List Entry) (seat : Seat) (reading : ℕ) (why : Outcome) → TurnsTickets is_open is_open seat (stopped past seat reading why).seat
stopped-tickets is_open past seat reading why = closed-tickets is_open is_open seat (stopped past seat reading why).seat (stopped-closed past seat reading why) (λ ticket stands _. stands)

-- a cache call moves no ticket
pub cache-moves : (is_open : ℕ → Type 0) (call : OuterCall) (e : Entry) → MovesTickets is_open is_open call (Some (answered_of e).reply)
cache-moves is_open call e = record { stays = λ ticket stands _. stands; opens = λ ticket is. cc is }

pub cache-tickets : (is_open : ℕ → Type 0) (most : ℕ) (past : List Entry) (seat : Seat) (reading : ℕ) (call : CacheCall) → HasTickets is_open seat → seat.ended ≡ false → TurnsTickets is_open is_open seat (tried_cache most past seat reading call).seat
cache-tickets is_open most past seat reading call has goes =
    let e : Entry = entry_after past seat.guest reading call in
    let full : (b : Bool) → TurnsTickets is_open is_open seat (if b then stopped past seat reading outcome.HistoryFull else answered past seat e).seat =
    elim [ true ↦ stopped-tickets is_open past seat reading outcome.HistoryFull | false ↦ noted-tickets is_open is_open seat e.guest (answered_of e).call (answered_of e).reply has goes (λ ticket is. cc is) (cache-moves is_open (answered_of e).call e) ]
    in
    let with : (b : Bool) → TurnsTickets is_open is_open seat (if b then unchanged past seat else (if is_full past most call then stopped past seat reading outcome.HistoryFull else answered past seat e)).seat =
    elim [ true ↦ same-tickets is_open seat has | false ↦ full (is_full past most call) ]
    in with (is_not_yet (reply_after past seat.guest reading call))

-- ---- what a call asks

all-open : (is_open : ℕ → Type 0) (trace : List Answered) → ((ticket : ℕ) → holds trace ticket ≡ true → is_open ticket) → (tickets : List ℕ) → list_all (holds trace) tickets ≡ true → All is_open tickets
all-open is_open trace each [] all = All-nil is_open
all-open is_open trace each (ticket ∷ tickets) all = let parts = and_parts (holds trace ticket) (list_all (holds trace) tickets) all in All-cons is_open ticket tickets (each ticket parts.0) (all-open is_open trace each tickets parts.1)

module _ (is_open : ℕ → Type 0) (seat : Seat) (isnt : is_closed seat ≡ false) where
  pub may-ask-link : (call : OuterCall) → HasTickets is_open seat → MayAsk seat.trace call → MayAskLink is_open call
  may-ask-link (Start address request) has may = may.1
  may-ask-link (Poll ticket) has may = has ticket (isnt, may.1)
  may-ask-link (WaitFor ticket) has may = has ticket (isnt, may.1)
  may-ask-link (AnyOf tickets) has may =
      let parts = and_parts (is_from_to 1 100 (length tickets)) (list_all (holds seat.trace) tickets) may.1 in
      (parts.0, all-open is_open seat.trace (λ ticket held. has ticket (isnt, held)) tickets parts.1)
  may-ask-link (Cache call) has may = tt
  may-ask-link (Now clock) has may = tt
  may-ask-link (Head bytes) has may = tt
  may-ask-link (Piece bytes) has may = tt
  may-ask-link (Close whole) has may = tt
  may-ask-link (Log endpoint line) has may = tt

  pub asks-own : (call : OuterCall) → MayAsk seat.trace call → (ticket : ℕ) → asks_for call ticket ≡ true → Owns seat ticket
  asks-own (Poll named) may ticket is = (isnt, subst (λ t. IsTrue (holds seat.trace t)) (eqb-true named ticket is) may.1)
  asks-own (WaitFor named) may ticket is = (isnt, subst (λ t. IsTrue (holds seat.trace t)) (eqb-true named ticket is) may.1)
  asks-own (Start address request) may ticket is = cc is
  asks-own (AnyOf tickets) may ticket is = cc is
  asks-own (Cache call) may ticket is = cc is
  asks-own (Now clock) may ticket is = cc is
  asks-own (Head bytes) may ticket is = cc is
  asks-own (Piece bytes) may ticket is = cc is
  asks-own (Close whole) may ticket is = cc is
  asks-own (Log endpoint line) may ticket is = cc is

-- ---- all guests

set-here : (seats : List Seat) (place : ℕ) (moved : Seat) → place < length seats → seat_at (slice_set seats place moved) place ≡ moved
set-here [] place moved within = absurd (omega arith)
set-here (seat ∷ seats) zero moved within = refl
set-here (seat ∷ seats) (suc place) moved within = set-here seats place moved (omega arith)

set-other : (seats : List Seat) (place at : ℕ) (moved : Seat) → at ≢ place → seat_at (slice_set seats place moved) at ≡ seat_at seats at
set-other [] place at moved apart = refl
set-other (seat ∷ seats) zero zero moved apart = absurd (apart refl)
set-other (seat ∷ seats) zero (suc at) moved apart = refl
set-other (seat ∷ seats) (suc place) zero moved apart = refl
set-other (seat ∷ seats) (suc place) (suc at) moved apart = set-other seats place at moved (λ same. apart (ap suc same))

module _ (before after : ℕ → Type 0) (seats : List Seat) (place : ℕ) (moved : Seat) (have : HaveTickets before seats) (within : place < length seats) (turns : TurnsTickets before after (seat_at seats place) moved) where
  others-have : (at : ℕ) → at ≢ place → HasTickets after (seat_at seats at)
  others-have at apart = λ ticket owns. turns.keeps ticket (have.each at ticket owns) (λ mine. have.apart at place ticket apart owns mine)

  mine-alone : (other ticket : ℕ) → other ≢ place → Owns moved ticket → Owns (seat_at seats other) ticket → ⊥
  mine-alone other ticket apart mine others = elim (turns.new ticket mine) [
    | inl old ↦ have.apart other place ticket apart others old
    | inr none ↦ none (have.each other ticket others)
  ]

  -- one guest's step keeps all of them
  pub have-set : HaveTickets after (slice_set seats place moved)
  have-set = record {
    each = λ at. elim (cases_eq at place) [
      | inl here ↦ subst (λ n. HasTickets after (seat_at (slice_set seats place moved) n)) (sym here) (subst (HasTickets after) (sym (set-here seats place moved within)) turns.has)
      | inr apart ↦ subst (HasTickets after) (sym (set-other seats place at moved apart)) (others-have at apart)
    ];
    apart = λ at other ticket differ owns others. elim (cases_eq at place) [
      | inl here ↦
          let away : other ≢ place = λ same. differ (here ∙ sym same) in
          let mine : Owns moved ticket = subst (λ s. Owns s ticket) (set-here seats place moved within) (subst (λ n. Owns (seat_at (slice_set seats place moved) n) ticket) here owns) in
          mine-alone other ticket away mine (subst (λ s. Owns s ticket) (set-other seats place other moved away) others)
      | inr away ↦ elim (cases_eq other place) [
        | inl there ↦
            let mine : Owns moved ticket = subst (λ s. Owns s ticket) (set-here seats place moved within) (subst (λ n. Owns (seat_at (slice_set seats place moved) n) ticket) there others) in
            mine-alone at ticket away mine (subst (λ s. Owns s ticket) (set-other seats place at moved away) owns)
        | inr off ↦ have.apart at other ticket differ (subst (λ s. Owns s ticket) (set-other seats place at moved away) owns) (subst (λ s. Owns s ticket) (set-other seats place other moved off) others)
      ]
    ];
  }

new-trace : (programs : List Program) (at : ℕ) → (seat_at (map new_seat programs) at).trace ≡ []
new-trace [] at = refl
new-trace (program ∷ programs) zero = refl
new-trace (program ∷ programs) (suc at) = new-trace programs at

none-new : (programs : List Program) (at ticket : ℕ) → Owns (seat_at (map new_seat programs) at) ticket → ⊥
none-new programs at ticket owns = let none : holds (seat_at (map new_seat programs) at).trace ticket ≡ false = ap (λ (trace : List Answered). holds trace ticket) (new-trace programs at) in let held = owns.1 in cc (none, held)

-- new guests have none
pub new-have : (is_open : ℕ → Type 0) (programs : List Program) → HaveTickets is_open (map new_seat programs)
new-have is_open programs = record {
  each = λ at ticket owns. absurd (none-new programs at ticket owns);
  apart = λ at other ticket _ owns _. none-new programs at ticket owns;
}
