-- Calls that aren't the cache's.
use Rattle.std.specs.Prelude.{◌≡◌, ℕ, Bool, true, false, List, [], refl, IsTrue, Option, None, Some, is_some}
use Rattle.std.proofs.Common.{ap, ◌∙◌, subst}
use Rattle.cache_types.specs.declared.entries.Entry.{Entry}
use Rattle.cache_types.specs.declared.outer.Outcome.TheVariants as outcome
use Rattle.cache_types.specs.declared.outer.OuterCall.{OuterCall}
use Rattle.cache_types.specs.declared.outer.OuterCall.TheVariants.{Cache, Now, Start, Poll, WaitFor, AnyOf, Head, Piece, Close, Log}
use Rattle.cache_types.specs.declared.outer.OuterReply.{OuterReply}
use Rattle.player.specs.Plays.{Program, Answered, is_end_call, with_reply}
use Rattle.player.specs.Runs.{is_link, is_answer}
use Rattle.player.specs.Tickets.{held_behind, IsFresh}
use Rattle.schedule_play.specs.declared.place.Place.{Place}
use Rattle.schedule_play.specs.Blocks.{is_cache}
use Rattle.schedule_play.specs.Links.{calls_of, answers_in}
use Rattle.schedule_play.specs.Schedule.{Seat, AreAfter, noted, is_closed, outer_reply, stopped as stopped_seat, tried}
use Rattle.schedule_play.specs.Sits.{Holds, IsAsking, IsHeard, Went, Lacked}
use Rattle.schedule_play.proofs.Told.{unless-stopped}
use Rattle.schedule_play.proofs.Trying.{not-closed}

-- the step answers it
pub other-tried : (most : ℕ) (past : List Entry) (seat : Seat) (reading : ℕ) (said : OuterReply) (call : OuterCall) → is_cache call ≡ false → AreAfter past (noted seat seat.guest call (outer_reply reading said call)) (tried most past seat reading said call)
other-tried most past seat reading said (Cache call) isnt = cc
other-tried most past seat reading said (Now clock) isnt = record { past_is = refl; seat_is = refl }
other-tried most past seat reading said (Start address request) isnt = record { past_is = refl; seat_is = refl }
other-tried most past seat reading said (Poll ticket) isnt = record { past_is = refl; seat_is = refl }
other-tried most past seat reading said (WaitFor ticket) isnt = record { past_is = refl; seat_is = refl }
other-tried most past seat reading said (AnyOf tickets) isnt = record { past_is = refl; seat_is = refl }
other-tried most past seat reading said (Head bytes) isnt = record { past_is = refl; seat_is = refl }
other-tried most past seat reading said (Piece bytes) isnt = record { past_is = refl; seat_is = refl }
other-tried most past seat reading said (Close whole) isnt = record { past_is = refl; seat_is = refl }
other-tried most past seat reading said (Log endpoint line) isnt = record { past_is = refl; seat_is = refl }

-- what the link would say makes no difference where it isn't asked
pub tried-same : (most : ℕ) (past : List Entry) (seat : Seat) (reading : ℕ) (said other : OuterReply) (call : OuterCall) → is_link call ≡ false → tried most past seat reading said call ≡ tried most past seat reading other call
tried-same most past seat reading said other (Cache call) isnt = refl
tried-same most past seat reading said other (Now clock) isnt = refl
tried-same most past seat reading said other (Start address request) isnt = cc
tried-same most past seat reading said other (Poll ticket) isnt = cc
tried-same most past seat reading said other (WaitFor ticket) isnt = cc
tried-same most past seat reading said other (AnyOf tickets) isnt = cc
tried-same most past seat reading said other (Head bytes) isnt = refl
tried-same most past seat reading said other (Piece bytes) isnt = refl
tried-same most past seat reading said other (Close whole) isnt = refl
tried-same most past seat reading said other (Log endpoint line) isnt = refl

pub no-end : (call : OuterCall) → is_cache call ≡ false → is_end_call (Some call) ≡ false
no-end (Cache call) isnt = cc
no-end _ isnt = refl

pub is-other : (call : OuterCall) → ((c : _) → call ≡ Cache c → ⊥) → is_cache call ≡ false
is-other (Cache call) not = absurd (not call refl)
is-other _ not = refl

-- what is heard behind one call
pub is-heard : (trace : List Answered) (call : OuterCall) (reply : OuterReply) → IsTrue (is_answer call reply) → IsFresh (held_behind [] trace) reply → IsHeard (is_link call) trace call reply (answers_in (calls_of call (Some reply)))
is-heard trace call reply fits new =
    let with : (b : Bool) → is_link call ≡ b → IsHeard b trace call reply (answers_in (calls_of call (Some reply))) =
    elim [ true ↦ λ link. rw link (refl, fits, new) | false ↦ λ isnt. rw isnt refl ]
    in with (is_link call) refl

pub heard-none : (call : OuterCall) → answers_in (calls_of call None) ≡ []
heard-none call =
    let with : (b : Bool) → is_link call ≡ b → answers_in (calls_of call None) ≡ [] = elim [ true ↦ λ link. rw link refl | false ↦ λ isnt. rw isnt refl ] in with (is_link call) refl

module _ {P : Type 0} (Plays : P → Program → List Answered → Type 0) (stopped : P → _) (ended : P → Bool) (past : List Entry) (player : P) (place : Place) (seat : Seat) (call : OuterCall) (isnt : is_cache call ≡ false) (asks : IsAsking Plays stopped ended past player place seat call) where
  pub still-open : is_some seat.stopped ≡ false
  still-open = unless-stopped (is_some seat.stopped) (is_end_call (Some call)) asks.stops (no-end call isnt)

  pub other-open : is_closed seat ≡ false
  other-open = not-closed seat asks.goes still-open

  -- a place behind it
  pub other-over : (reply : OuterReply) → place.over ≡ is_closed (noted seat seat.guest call reply)
  other-over reply = rw (no-end call isnt, still-open) asks.fresh

  pub other-went : (most reading : ℕ) (reply : OuterReply) → reply ≡ outer_reply reading reply call → IsTrue (is_answer call reply) → IsFresh (held_behind [] seat.trace) reply → Went most reading (answers_in (calls_of call (Some reply))) past seat call past (noted seat seat.guest call reply)
  other-went most reading reply own fits new =
      let tried_is = other-tried most past seat reading reply call isnt in
      record {
        reply = reply;
        heard_is = is-heard seat.trace call reply fits new;
        is = record { past_is = tried_is.past_is; seat_is = ap (noted seat seat.guest call) own ∙ tried_is.seat_is };
      }

  -- or memory was short
  pub other-lacked : (reading : ℕ) (after : List Entry) → after ≡ (stopped_seat past seat reading outcome.OutOfMemory).past → Lacked reading (answers_in (calls_of call None)) past seat call after (stopped_seat past seat reading outcome.OutOfMemory).seat
  other-lacked reading after is = record {
    heard_is = heard-none call;
    short = record { open_is = other-open; wants = rw (no-end call isnt) refl; is = record { past_is = is; seat_is = refl } };
  }

module _ {P : Type 0} (Plays : P → Program → List Answered → Type 0) (stopped : P → _) (ended : P → Bool) (player now : P) (guest : ℕ) (seat : Seat) (call : OuterCall) where
  -- a player that was told its answer
  pub heard-other : (reply : OuterReply) (waits : Option OuterCall) → Holds Plays stopped ended player guest seat → waits ≡ Some call
      → ((next : Program) (trace : List Answered) → Plays player next trace → Plays now next (with_reply trace waits reply)) → stopped now ≡ stopped player → ended now ≡ is_end_call waits
      → Holds Plays stopped ended now guest (noted seat seat.guest call reply)
  heard-other reply waits holds asked plays same end = record {
    plays = subst (λ w. Plays now seat.program (with_reply seat.trace w reply)) asked (plays seat.program seat.trace holds.plays);
    stopped_is = same ∙ holds.stopped_is;
    ended_is = end ∙ ap is_end_call asked;
    guest_is = holds.guest_is;
  }
