-- A try, with the tickets and with what the link told.
use Rattle.std.specs.Prelude.{◌≡◌, ℕ, Bool, true, false, List, [], refl, IsTrue, Option, None, Some}
use Rattle.std.proofs.Common.{sym, ◌∙◌, subst, inl, inr}
use Rattle.edge_outside.specs.Made.{Made, made_one, made_none}
use Rattle.cache_types.specs.declared.calls.CacheCall.{CacheCall}
use Rattle.cache_types.specs.declared.entries.Entry.{Entry}
use Rattle.cache_types.specs.declared.outer.Outcome.{Outcome}
use Rattle.cache_types.specs.declared.outer.Outcome.TheVariants as outcome
use Rattle.cache_types.specs.declared.outer.OuterCall.{OuterCall}
use Rattle.cache_types.specs.declared.outer.OuterCall.TheVariants as outer
use Rattle.cache_types.specs.declared.outer.OuterReply.{OuterReply}
use Rattle.cache_types.specs.declared.outer.OuterReply.TheVariants.{LinkFailed}
use Rattle.player.specs.Plays.{Program, Answered}
use Rattle.player.specs.Runs.{is_link, is_answer}
use Rattle.player.specs.Tickets.{asks_for}
use Rattle.schedule_play.specs.declared.place.Place.{Place}
use Rattle.schedule_play.specs.Blocks.{is_cache}
use Rattle.schedule_play.specs.Links.{calls_of, answers_in}
use Rattle.schedule_play.specs.Schedule.{Seat, noted, outer_reply, stopped as stopped_seat}
use Rattle.schedule_play.specs.Tickets.{MovesTickets, Owns, TurnsTickets}
use Rattle.schedule_play.specs.Sits.{Holds, HasMoved, IsTaking, TryGives, TakeGives}
use Rattle.schedule_play.proofs.Others.{other-open, other-over, other-went, other-lacked}
use Rattle.schedule_play.proofs.TicketLaws.{cache-tickets, stopped-tickets, noted-tickets, given-fresh, closed-tickets, asks-own}
use Rattle.schedule_play.proofs.Trying.{stopped-closed}

-- a call that the link answers was made on it, and no other
pub made-of : {L : Type 0} (R : L → OuterCall → Option OuterReply → L → Type 0) (before after : L) (call : OuterCall) (said : Option OuterReply) → (is_link call ≡ true → R before call said after) → (is_link call ≡ false → after ≡ before) → Made R before (calls_of call said) after
made-of R before after call said asked same =
    let with : (b : Bool) → is_link call ≡ b → Made R before (calls_of call said) after =
    elim [ true ↦ λ link. rw link (made_one R before call said after (asked link)) | false ↦ λ isnt. rw isnt (subst (Made R before []) (sym (same isnt)) (made_none R before)) ]
    in with (is_link call) refl

pub no-link : (call : OuterCall) → ((address request : _) → call ≡ outer.Start address request → ⊥) → ((ticket : _) → call ≡ outer.Poll ticket → ⊥) → ((ticket : _) → call ≡ outer.WaitFor ticket → ⊥) → ((tickets : _) → call ≡ outer.AnyOf tickets → ⊥) → is_link call ≡ true → ⊥
no-link (outer.Start address request) start poll wait any is = start address request refl
no-link (outer.Poll ticket) start poll wait any is = poll ticket refl
no-link (outer.WaitFor ticket) start poll wait any is = wait ticket refl
no-link (outer.AnyOf tickets) start poll wait any is = any tickets refl
no-link _ start poll wait any is = cc is

module _ {P : Type 0} (Plays : P → Program → List Answered → Type 0) (stopped : P → Option Outcome) (ended : P → Bool) (before after : ℕ → Type 0) (most reading : ℕ) (past : List Entry) (player now : P) (place there : Place) (seat : Seat) where
  pub cache-takes : (call : CacheCall) (later : List Entry) → IsTaking Plays stopped ended before past player place seat (outer.Cache call) → TryGives Plays stopped ended most reading past seat call later now there → TakeGives Plays stopped ended before before most reading [] past seat (outer.Cache call) later now there
  cache-takes call later taking gives = record {
    moved = gives.moved;
    holds = gives.holds;
    over_is = gives.over_is;
    tickets = elim gives.turn [
      | inl went ↦ subst (TurnsTickets before before seat) (sym went.seat_is) (cache-tickets before most past seat reading call taking.tickets taking.asking.goes)
      | inr short ↦ subst (TurnsTickets before before seat) (sym short.is.seat_is) (stopped-tickets before past seat reading outcome.OutOfMemory)
    ];
    turn = elim gives.turn [
      | inl went ↦ inl (record { reply = LinkFailed; heard_is = refl; is = went })
      | inr short ↦ inr (record { heard_is = refl; short = short })
    ];
  }

  module _ (call : OuterCall) (isnt : is_cache call ≡ false) (taking : IsTaking Plays stopped ended before past player place seat call) where
    other-owns : (ticket : ℕ) → asks_for call ticket ≡ true → Owns seat ticket
    other-owns = asks-own before seat (other-open Plays stopped ended past player place seat call isnt taking.asking) call taking.asking.asks

    -- a call that was answered
    pub other-takes : (reply : OuterReply) → Holds Plays stopped ended now place.guest (noted seat seat.guest call reply) → MovesTickets before after call (Some reply) → reply ≡ outer_reply reading reply call → IsTrue (is_answer call reply)
        → TakeGives Plays stopped ended before after most reading (answers_in (calls_of call (Some reply))) past seat call past now place
    other-takes reply holds moves own fits = record {
      moved = noted seat seat.guest call reply;
      holds = holds;
      over_is = other-over Plays stopped ended past player place seat call isnt taking.asking reply;
      tickets = noted-tickets before after seat seat.guest call reply taking.tickets taking.asking.goes other-owns moves;
      turn = inl (other-went Plays stopped ended past player place seat call isnt taking.asking most reading reply own fits (given-fresh before after seat call reply taking.tickets (other-open Plays stopped ended past player place seat call isnt taking.asking) moves));
    }

    -- one whose answer found no memory
    pub other-short : (later : List Entry) → MovesTickets before after call None → HasMoved Plays stopped ended now there.guest later (stopped_seat past seat reading outcome.OutOfMemory) → there.over ≡ true
        → TakeGives Plays stopped ended before after most reading (answers_in (calls_of call None)) past seat call later now there
    other-short later moves has over = record {
      moved = (stopped_seat past seat reading outcome.OutOfMemory).seat;
      holds = has.holds;
      over_is = over ∙ sym (stopped-closed past seat reading outcome.OutOfMemory);
      tickets = closed-tickets before after seat (stopped_seat past seat reading outcome.OutOfMemory).seat (stopped-closed past seat reading outcome.OutOfMemory)
          (λ ticket stands others. let with : (b : Bool) → asks_for call ticket ≡ b → after ticket = elim [ true ↦ λ is. absurd (others (other-owns ticket is)) | false ↦ λ is. moves.stays ticket stands is ] in with (asks_for call ticket) refl);
      turn = inr (other-lacked Plays stopped ended past player place seat call isnt taking.asking reading later has.past_is);
    }
