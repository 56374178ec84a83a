-- A turn of a guest that goes on.
use Rattle.std.specs.Prelude.{◌≡◌, ◌⊎◌, ℕ, Bool, true, false, ◌||◌, List, [], ◌∷◌, ◌++◌, refl, IsTrue, Option, None, Some, is_some}
use Rattle.std.proofs.Common.{ap, sym, ◌∙◌, subst, inl, inr}
use Rattle.cache_types.specs.declared.calls.CacheCall.{CacheCall}
use Rattle.cache_types.specs.declared.calls.CacheCall.TheVariants.{Begin, End}
use Rattle.cache_types.specs.declared.entries.Entry.{Entry}
use Rattle.cache_types.specs.declared.outer.Outcome.{Outcome}
use Rattle.cache_types.specs.declared.outer.Outcome.TheVariants as outcome
use Rattle.cache_types.specs.declared.outer.OuterCall.{OuterCall}
use Rattle.cache_types.specs.declared.outer.OuterCall.TheVariants as outer
use Rattle.cache_types.specs.Entries.{is_begin, is_live}
use Rattle.cache_types.specs.Step.{IsCaller}
use Rattle.player.specs.declared.turn.Turn.{Turn}
use Rattle.player.specs.declared.turn.Turn.TheVariants.{Outer, Over}
use Rattle.cache_types.specs.declared.outer.OuterReply.{OuterReply}
use Rattle.player.specs.Plays.{Program, Answered, due, stopped_due, is_end_call}
use Rattle.player.specs.May.{is_empty, MayTake, MayAsk, IsStopAfter, may_want}
use Rattle.player.specs.Runs.{is_link}
use Rattle.schedule_play.specs.declared.place.Place.{Place}
use Rattle.schedule_play.specs.Schedule.{Seat, AreAfter, is_closed, due_of, makes_end, stopped as stopped_seat, tried, taken, turned, next_answer, is_link_turn, left_after, IsAsked, Goes, Starves, MayTurn}
use Rattle.schedule_play.specs.Ready.{IsGoing, IsGoingOn, IsSeatState, SeatStands}
use Rattle.schedule_play.specs.Tickets.{Owns, HasTickets, TurnsTickets}
use Rattle.schedule_play.specs.Sits.{Holds, EndsLive, MayMake, IsAsking, IsHeard, Went, Lacked, MaySit}
use Rattle.schedule_play.proofs.Others.{tried-same}

-- a guest that isn't over
pub record IsOpen (past : List Entry) (seat : Seat) : Type 0 where
  pub ended : seat.ended ≡ false
  pub stopped : seat.stopped ≡ None
  pub going : IsGoing past seat

open-parts : (ended : Bool) (stopped : Option Outcome) → (ended || is_some stopped) ≡ false → (ended ≡ false) × (stopped ≡ None)
open-parts false None is = (refl, refl)
open-parts false (Some why) is = cc is
open-parts true stopped is = cc is

pub open-seat : (past : List Entry) (seat : Seat) → SeatStands past seat → is_closed seat ≡ false → IsOpen past seat
open-seat past seat stands isnt =
    let parts = open-parts seat.ended seat.stopped isnt in
    let state = subst (IsSeatState past seat) parts.1 stands.state in
    record { ended = parts.0; stopped = parts.1; going = subst (IsGoingOn past seat) parts.0 state.0 }

caller-live : (past : List Entry) (guest : ℕ) (call : CacheCall) → is_begin call ≡ false → is_live past guest ≡ true → IsCaller past guest call
caller-live past guest Begin no_begin live = cc
caller-live past guest _ no_begin live = live

caller-new : (past : List Entry) (guest : ℕ) (call : CacheCall) → is_begin call ≡ true → guest ≡ 0 → IsCaller past guest call
caller-new past guest Begin begins new = new
caller-new past guest _ begins new = cc

-- a call that a player may ask is one that its guest may make
pub may-make : (past : List Entry) (seat : Seat) (call : OuterCall) → IsGoing past seat → MayAsk seat.trace call → MayMake past seat.guest call
may-make past seat (outer.Cache c) going may =
    elim going [
      | inl new ↦ (caller-new past seat.guest c (may.0 ∙ ap is_empty new.1) new.0, may.1)
      | inr live ↦ (caller-live past seat.guest c (may.0 ∙ live.1) live.0, may.1)
    ]
may-make past seat _ going may = tt

pub going-live : (past : List Entry) (seat : Seat) → IsGoing past seat → EndsLive past seat
going-live past seat going begun goes = elim going [ inl new ↦ let empty : is_empty seat.trace ≡ true = ap is_empty new.1 in cc (empty, begun) | inr live ↦ live.0 ]

-- what a stopped guest asks is its End
due-end : (trace : List Answered) (ended : Bool) (why : Outcome) (call : OuterCall) → ended ≡ false → Outer call ≡ stopped_due trace ended why → call ≡ outer.Cache End
due-end [] ended why call goes is = cc is
due-end (begin ∷ trace) true why call goes is = cc goes
due-end (begin ∷ trace) false why call goes is = cc is

stops-end : (next : Program) (trace : List Answered) (ended : Bool) (why : Option Outcome) (call : OuterCall) → ended ≡ false → Outer call ≡ due next trace ended why → is_some why ≡ true → call ≡ outer.Cache End
stops-end next trace ended None call goes is some = cc some
stops-end next trace ended (Some why) call goes is some = due-end trace ended why call goes is

-- the seat of a player that was stopped where it had no memory
abbrev pub seat_now : Seat → Option Outcome → Seat
seat_now seat why = record seat { stopped = why }

turned-goes : (most reading : ℕ) (said : OuterReply) (past : List Entry) (seat : Seat) (call : OuterCall) → is_closed seat ≡ false → due_of seat ≡ Outer call → turned most reading said past seat ≡ tried most past seat reading said call
turned-goes most reading said past seat call isnt is = rw isnt (ap (taken most reading said past seat) is)

-- what is left of the answers
left-goes : (seat : Seat) (trace : List Answered) (call : OuterCall) (heard left : List Answered) (reply : OuterReply) (b : Bool) → is_link call ≡ b → is_closed seat ≡ false → due_of seat ≡ Outer call → IsHeard b trace call reply heard → left ≡ left_after seat (heard ++ left)
left-goes seat trace call heard left reply true link isnt is heard_is = let asks : is_link_turn (due_of seat) ≡ true = ap is_link_turn is ∙ link in rw (isnt, asks, heard_is.0) refl
left-goes seat trace call heard left reply false link isnt is heard_is = let asks : is_link_turn (due_of seat) ≡ false = ap is_link_turn is ∙ link in rw (isnt, asks, heard_is) refl

asked-goes : (trace : List Answered) (call : OuterCall) (heard left : List Answered) (reply : OuterReply) (b : Bool) → is_link call ≡ b → IsHeard b trace call reply heard → IsAsked trace (Outer call) (heard ++ left)
asked-goes trace call heard left reply true link heard_is = λ _. rw heard_is.0 (refl, heard_is.1, heard_is.2)
asked-goes trace call heard left reply false link heard_is = λ asked. cc (link, asked)

tried-goes : (most : ℕ) (past : List Entry) (seat : Seat) (reading : ℕ) (trace : List Answered) (call : OuterCall) (heard left : List Answered) (reply : OuterReply) (b : Bool) → is_link call ≡ b → IsHeard b trace call reply heard → tried most past seat reading reply call ≡ tried most past seat reading (next_answer (heard ++ left)) call
tried-goes most past seat reading trace call heard left reply true link heard_is = rw heard_is.0 refl
tried-goes most past seat reading trace call heard left reply false link heard_is = tried-same most past seat reading reply (next_answer (heard ++ left)) call link

is-link-end : (trace : List Answered) (call : OuterCall) (heard : List Answered) (reply : OuterReply) → call ≡ outer.Cache End → IsHeard (is_link call) trace call reply heard → heard ≡ []
is-link-end trace call heard reply end heard_is = subst (λ b. IsHeard b trace call reply heard) (ap is_link end) heard_is

module _ (MayWant : Program → List Answered → Type 0) (most reading : ℕ) (heard : List Answered) (past after : List Entry) (seat moved : Seat) (call : OuterCall) (open_is : IsOpen past seat) (isnt : is_closed seat ≡ false) where
  goes-now : due_of seat ≡ Outer call → MayTake seat.trace seat.ended seat.stopped (due_of seat) → Went most reading heard past seat call after moved → (left : List Answered) → Goes most reading (heard ++ left) left past seat after moved
  goes-now is may went left = record {
    may = λ _. may;
    asked = λ _. subst (λ t. IsAsked seat.trace t (heard ++ left)) (sym is) (asked-goes seat.trace call heard left went.reply (is_link call) refl went.heard_is);
    left_is = left-goes seat seat.trace call heard left went.reply (is_link call) refl isnt is went.heard_is;
    is = subst (AreAfter after moved) (tried-goes most past seat reading seat.trace call heard left went.reply (is_link call) refl went.heard_is ∙ sym (turned-goes most reading (next_answer (heard ++ left)) past seat call isnt is)) went.is;
  }

  lacks-now : due_of seat ≡ Outer call → Lacked reading heard past seat call after moved → (left : List Answered) → Starves MayWant reading (heard ++ left) left past seat after moved
  lacks-now is lacked left = record {
    open_is = isnt;
    lacks = inr (subst (λ t. IsTrue (may_want t)) (sym is) lacked.short.wants);
    left_is = rw lacked.heard_is refl;
    is = lacked.short.is;
  }

  -- a try is a turn
  pub try-turn : (why : Option Outcome) → IsStopAfter (MayWant seat.program seat.trace) seat.ended None why → Outer call ≡ due_of (seat_now seat why) → MayTake seat.trace seat.ended why (Outer call)
      → Went most reading heard past (seat_now seat why) call after moved ⊎ Lacked reading heard past (seat_now seat why) call after moved
      → (left : List Answered) → MayTurn MayWant most reading (heard ++ left) left past seat after moved
  try-turn None stop is may gives left =
      let same : seat_now seat None ≡ seat = ap (seat_now seat) (sym open_is.stopped) in
      let due_is : due_of seat ≡ Outer call = ap due_of (sym same) ∙ sym is in
      let may_now : MayTake seat.trace seat.ended seat.stopped (due_of seat) = subst (MayTake seat.trace seat.ended seat.stopped) (sym due_is) (subst (λ o. MayTake seat.trace seat.ended o (Outer call)) (sym open_is.stopped) may) in
      elim gives [
        | inl went ↦ inl (goes-now due_is may_now (subst (λ s. Went most reading heard past s call after moved) same went) left)
        | inr short ↦ inr (lacks-now due_is (subst (λ s. Lacked reading heard past s call after moved) same short) left)
      ]
  try-turn (Some why) stop is may gives left =
      let memory : why ≡ outcome.OutOfMemory = stop.2 in
      let end : call ≡ outer.Cache End = stops-end seat.program seat.trace seat.ended (Some why) call open_is.ended is refl in
      elim gives [
        | inl went ↦ inr (record {
          open_is = isnt;
          lacks = inl stop.0;
          left_is = rw (is-link-end seat.trace call heard went.reply end went.heard_is) refl;
          is = subst (AreAfter after moved) (makes why went.reply memory end is) went.is;
        })
        | inr lacked ↦ let closed : is_closed (seat_now seat (Some why)) ≡ true = rw open_is.ended refl in let open_too = lacked.short.open_is in cc (closed, open_too)
      ]
    where
      makes : (why : Outcome) (said : OuterReply) → why ≡ outcome.OutOfMemory → call ≡ outer.Cache End → Outer call ≡ due_of (seat_now seat (Some why)) → tried most past (seat_now seat (Some why)) reading said call ≡ stopped_seat past seat reading outcome.OutOfMemory
      makes why said memory end is =
          ap (tried most past (seat_now seat (Some why)) reading said) end
          ∙ ap (makes_end past (seat_now seat (Some why)) reading) is
          ∙ ap (λ w. stopped_seat past seat reading w) memory

module _ (MayWant : Program → List Answered → Type 0) (most reading : ℕ) (past after : List Entry) (seat moved : Seat) (open_is : IsOpen past seat) (isnt : is_closed seat ≡ false) where
  -- a guest that was stopped before its Begin
  pub over-turn : (why : Option Outcome) (how : Outcome) → IsStopAfter (MayWant seat.program seat.trace) seat.ended None why → Over how ≡ due_of (seat_now seat why) → MayTake seat.trace seat.ended why (Over how) → after ≡ past → moved ≡ seat_now seat why → (is_closed moved ≡ true) × ((left : List Answered) → MayTurn MayWant most reading left left past seat after moved)
  over-turn None how stop is may same here = let over : (seat.ended || false) ≡ true = may in let open_still : (seat.ended || false) ≡ false = rw open_is.ended refl in cc (over, open_still)
  over-turn (Some why) how stop is may same here = (
    ap is_closed here ∙ rw open_is.ended refl,
    λ left. inr (record {
      open_is = isnt;
      lacks = inl stop.0;
      left_is = refl;
      is = record { past_is = same ∙ ap (λ (t : Turn). (makes_end past (seat_now seat (Some why)) reading t).past) is ∙ ap (λ w. (stopped_seat past seat reading w).past) stop.2; seat_is = here ∙ ap (λ (t : Turn). (makes_end past (seat_now seat (Some why)) reading t).seat) is ∙ ap (λ w. (stopped_seat past seat reading w).seat) stop.2 };
    }),
  )

-- a guest that was stopped has no ticket more
owns-now : (seat : Seat) (why : Option Outcome) (ticket : ℕ) → is_closed seat ≡ false → Owns (seat_now seat why) ticket → Owns seat ticket
owns-now seat why ticket isnt owns = (isnt, owns.1)

pub has-now : (is_open : ℕ → Type 0) (seat : Seat) (why : Option Outcome) → is_closed seat ≡ false → HasTickets is_open seat → HasTickets is_open (seat_now seat why)
has-now is_open seat why isnt has = λ ticket owns. has ticket (owns-now seat why ticket isnt owns)

pub turns-now : (before after : ℕ → Type 0) (seat : Seat) (why : Option Outcome) (moved : Seat) → is_closed seat ≡ false → TurnsTickets before after (seat_now seat why) moved → TurnsTickets before after seat moved
turns-now before after seat why moved isnt turns = record {
  keeps = λ ticket stands others. turns.keeps ticket stands (λ owns. others (owns-now seat why ticket isnt owns));
  has = turns.has;
  new = λ ticket owns. elim (turns.new ticket owns) [ inl old ↦ inl (owns-now seat why ticket isnt old) | inr none ↦ inr none ];
}

module _ {P : Type 0} (Plays : P → Program → List Answered → Type 0) (stopped : P → Option Outcome) (ended : P → Bool) (past : List Entry) (player now : P) (place : Place) (seat : Seat) (may_sit : MaySit Plays stopped ended past player place seat) (fresh : place.over ≡ false)
    (plays : (next : Program) (trace : List Answered) → Plays player next trace → Plays now next trace) (same : ended now ≡ ended player) where
  pub is_open : is_closed seat ≡ false
  is_open = sym may_sit.sits.over_is ∙ fresh

  pub open_is : IsOpen past seat
  open_is = open-seat past seat may_sit.stands is_open

  -- the player holds its seat, stopped or not
  pub holds_now : Holds Plays stopped ended now place.guest (seat_now seat (stopped now))
  holds_now = record { plays = plays seat.program seat.trace may_sit.sits.holds.plays; stopped_is = refl; ended_is = same ∙ may_sit.sits.holds.ended_is; guest_is = may_sit.sits.holds.guest_is }

  -- and asks
  pub asks_now : (call : OuterCall) → Outer call ≡ due_of (seat_now seat (stopped now)) → MayTake seat.trace seat.ended (stopped now) (Outer call) → IsAsking Plays stopped ended past now place (seat_now seat (stopped now)) call
  asks_now call is may = record {
    holds = holds_now;
    fresh = fresh;
    goes = open_is.ended;
    may = subst (λ name. MayMake past name call) (sym may_sit.sits.holds.guest_is) (may-make past seat call open_is.going may.1);
    asks = may.1;
    stops = λ some. ap (λ c. is_end_call (Some c)) (stops-end seat.program seat.trace seat.ended (stopped now) call open_is.ended is some);
    live = going-live past seat open_is.going;
  }

-- a guest that is over already
pub over-already : (MayWant : Program → List Answered → Type 0) (most reading : ℕ) (past : List Entry) (seat : Seat) → is_closed seat ≡ true → (left : List Answered) → MayTurn MayWant most reading left left past seat past seat
over-already MayWant most reading past seat over left = inl (record {
  may = λ isnt. cc (over, isnt);
  asked = λ isnt. cc (over, isnt);
  left_is = rw over refl;
  is = rw over (record { past_is = refl; seat_is = refl });
})
