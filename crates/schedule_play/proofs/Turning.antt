-- What stands of a seat after its turn.
use Rattle.std.specs.Prelude.{◌≡◌, ◌≢◌, ◌⊎◌, ℕ, ◌+◌, ◌<◌, ◌≤◌, Bool, true, false, not, List, [], ◌∷◌, ◌++◌, length, map, ◌==◌, refl, IsTrue, Some}
use Rattle.std.proofs.Common.{arith, ap, sym, ◌∙◌, subst, inl, inr, eq-eqb, append-nil}
use Rattle.std.proofs.lemmas.List.{reverse-append}
use Rattle.std.proofs.lemmas.List.Folds.{list_all-append}
use Rattle.std.proofs.lemmas.Bool.{and_from}
use Rattle.std.proofs.lemmas.List.Elements.{filter-append}
use Rattle.cache_types.specs.declared.calls.CacheCall.{CacheCall}
use Rattle.cache_types.specs.declared.calls.CacheCall.TheVariants.{Begin, End}
use Rattle.cache_types.specs.declared.entries.Entry.{Entry}
use Rattle.cache_types.specs.declared.outer.Outcome.{Outcome}
use Rattle.cache_types.specs.declared.outer.OuterCall.{OuterCall}
use Rattle.cache_types.specs.declared.outer.OuterCall.TheVariants as outer
use Rattle.cache_types.specs.declared.outer.OuterReply.{OuterReply}
use Rattle.cache_types.specs.Entries.{is_live, is_end, is_not_yet, next_number}
use Rattle.cache_types.specs.Legal.{IsLegalPast, IsNext, IsGuest}
use Rattle.cache_types.specs.Step.{IsCaller, guest_of, entry_after, reply_after}
use Rattle.player.specs.declared.turn.Turn.TheVariants.{Outer}
use Rattle.player.specs.Plays.{Program, Answered, replies_of, is_end_call}
use Rattle.player.specs.May.{is_empty}
use Rattle.player.specs.Runs.{Follows, behind_one, is_answer, are_answers}
use Rattle.schedule_play.specs.Schedule.{Seat, noted, seat_with, answered_of, due_of, stop_seat}
use Rattle.schedule_play.specs.Blocks.{own, told_of, is_cache, cache_calls, IsStop}
use Rattle.schedule_play.specs.Ready.{IsGoing, IsGoingOn, IsSeatState, SeatStands}
use Rattle.schedule_play.proofs.Guests.{own-zero, own-fresh, live-stays, live-begun, not-ended, live-named}
use Rattle.player.specs.Tickets.{held_behind, IsFresh}
use Rattle.schedule_play.proofs.Fresh.{fresh-more}
use Rattle.schedule_play.proofs.Going.{IsOpen}

-- an entry that is answered may follow
pub caller-guest : (past : List Entry) (guest reading : ℕ) (call : CacheCall) → IsCaller past guest call → IsGuest past (entry_after past guest reading call) call
caller-guest past guest reading Begin caller = refl
caller-guest past guest reading _ caller = caller

pub may-follow : (past : List Entry) (guest reading : ℕ) (call : CacheCall) → IsCaller past guest call → is_not_yet (reply_after past guest reading call) ≡ false → IsNext past (entry_after past guest reading call)
may-follow past guest reading call caller answers = record {
  number = refl;
  moment = omega arith;
  guest = caller-guest past guest reading call caller;
  reply = refl;
  answered = ap not answers;
}

-- one more own entry
pub own-more : (past : List Entry) (e : Entry) → own (e ∷ past) e.guest ≡ e ∷ own past e.guest
own-more past e = let same : (e.guest == e.guest) ≡ true = eq-eqb e.guest e.guest refl in rw same refl

pub told_of-more : (e : Entry) (trace : List Entry) → told_of (e ∷ trace) ≡ told_of trace ++ answered_of e ∷ []
told_of-more e trace = reverse-append (answered_of e ∷ []) (map answered_of trace)

-- the guest of a call that may be made had the same entries under its seat's name
pub own-before : (past : List Entry) (guest : ℕ) (call : CacheCall) → IsLegalPast past → IsCaller past guest call → own past (guest_of past guest call) ≡ own past guest
own-before past guest Begin legal caller = own-fresh past (next_number past) legal (omega arith) ∙ sym (ap (own past) caller ∙ own-zero past legal)
own-before past guest _ legal caller = refl

-- whose entry it is: the seat's own guest, or a new one's
pub whose-entry : (past : List Entry) (guest : ℕ) (call : CacheCall) → IsLegalPast past → IsCaller past guest call → (guest ≢ 0) × (guest ≡ guest_of past guest call) ⊎ (guest ≡ 0) × (length past < guest_of past guest call)
whose-entry past guest Begin legal caller = inr (caller, omega arith)
whose-entry past guest _ legal caller = let named = live-named past guest legal caller in let ge : 1 ≤ guest = named.0 in inl ((λ new. omega arith), refl)

pub guest_of-named : (past : List Entry) (guest : ℕ) (call : CacheCall) → IsLegalPast past → IsCaller past guest call → guest_of past guest call ≤ length past + 1
guest_of-named past guest Begin legal caller = omega arith
guest_of-named past guest _ legal caller = let named = live-named past guest legal caller in omega (arith, named.1)

going-live : (past : List Entry) (e : Entry) (guest : ℕ) → is_live past guest ≡ true → is_end e.call ≡ false → is_live (e ∷ past) guest ≡ true
going-live past e guest live goes = live-stays past e guest live (rw goes refl)

pub going-on : (past : List Entry) (guest reading : ℕ) (call : CacheCall) → IsLegalPast past → IsCaller past guest call → is_end call ≡ false → is_live (entry_after past guest reading call ∷ past) (guest_of past guest call) ≡ true
going-on past guest reading Begin legal caller goes =
    live-begun past (entry_after past guest reading Begin) legal refl refl (not-ended past (next_number past) legal (omega arith))
going-on past guest reading call legal caller goes = going-live past (entry_after past guest reading call) guest caller goes

-- a trace with one more call
pub cache-more : (trace : List Answered) (a : Answered) → cache_calls (trace ++ a ∷ []) ≡ cache_calls trace ++ cache_calls (a ∷ [])
cache-more trace a = filter-append _ trace (a ∷ [])

pub empty-more : (trace : List Answered) (a : Answered) → is_empty (trace ++ a ∷ []) ≡ false
empty-more [] a = refl
empty-more (b ∷ trace) a = refl

pub follows-more : (next : Program) (trace : List Answered) (a : Answered) → Follows next trace → next (replies_of trace) ≡ Outer a.call → Follows next (trace ++ a ∷ [])
follows-more next [] a follows is = (is, tt)
follows-more next (b ∷ trace) a follows is = (follows.0, follows-more (behind_one next b.reply) trace a follows.1 is)

-- answers of their kind, and one more
pub answers-more : (trace : List Answered) (a : Answered) → IsTrue (are_answers trace) → IsTrue (is_answer a.call a.reply) → IsTrue (are_answers (trace ++ a ∷ []))
answers-more trace a all one = list_all-append (λ (b : Answered). is_answer b.call b.reply) trace (a ∷ []) ∙ and_from (are_answers trace) (are_answers (a ∷ [])) all (and_from (is_answer a.call a.reply) true one refl)

-- what stands of a seat with one more entry, but for its state
pub noted-stands : (past : List Entry) (seat : Seat) (e : Entry) → SeatStands past seat → e.guest ≤ length past + 1 → own past e.guest ≡ own past seat.guest → IsSeatState (e ∷ past) (seat_with seat e) seat.stopped → SeatStands (e ∷ past) (seat_with seat e)
noted-stands past seat e stands named before state = record {
  named = omega (arith, named);
  answers = answers-more seat.trace (answered_of e) stands.answers refl;
  fresh = fresh-more [] seat.trace (answered_of e) stands.fresh tt;
  tied = cache-more seat.trace (answered_of e) ∙ (ap (λ (l : List Answered). l ++ answered_of e ∷ []) (stands.tied ∙ ap told_of (sym before)) ∙ (sym (told_of-more e (own past e.guest)) ∙ ap told_of (sym (own-more past e))));
  state = state;
}

-- an answered cache call
pub answered-stands : (past : List Entry) (seat : Seat) (reading : ℕ) (call : CacheCall) → IsLegalPast past → SeatStands past seat → IsOpen past seat → due_of seat ≡ Outer (outer.Cache call) → IsCaller past seat.guest call → SeatStands (entry_after past seat.guest reading call ∷ past) (seat_with seat (entry_after past seat.guest reading call))
answered-stands past seat reading call legal stands open_is is caller =
    let e : Entry = entry_after past seat.guest reading call in
    let follows : Follows seat.program seat.trace = (subst (IsSeatState past seat) open_is.stopped stands.state).1 in
    let next : seat.program (replies_of seat.trace) ≡ Outer (outer.Cache call) = rw open_is.stopped at is in
    let more : Follows seat.program (seat.trace ++ answered_of e ∷ []) = follows-more seat.program seat.trace (answered_of e) follows next in
    let goes : (b : Bool) → is_end call ≡ b → IsGoingOn (e ∷ past) (seat_with seat e) b =
    elim [ true ↦ λ end. tt | false ↦ λ no_end. inr (going-on past seat.guest reading call legal caller no_end, empty-more seat.trace (answered_of e)) ]
    in
    noted-stands past seat e stands (guest_of-named past seat.guest call legal caller) (own-before past seat.guest call legal caller)
    (subst (IsSeatState (e ∷ past) (seat_with seat e)) (sym open_is.stopped) (goes (is_end call) refl, more))

-- a seat that was stopped
pub stop-stands : (past : List Entry) (seat : Seat) (why : Outcome) → IsStop why → SeatStands past seat → seat.trace ≡ [] → SeatStands past (stop_seat seat why)
stop-stands past seat why stop stands none = record { named = stands.named; answers = stands.answers; fresh = stands.fresh; tied = stands.tied; state = (stop, inl none, inl none) }

-- and made its End
pub ended-stands : (past : List Entry) (seat : Seat) (reading : ℕ) (why : Outcome) → IsLegalPast past → IsStop why → SeatStands past seat → IsOpen past seat → IsCaller past seat.guest End → SeatStands (entry_after past seat.guest reading End ∷ past) (seat_with (stop_seat seat why) (entry_after past seat.guest reading End))
ended-stands past seat reading why legal stop stands open_is live =
    let e : Entry = entry_after past seat.guest reading End in
    let follows : Follows seat.program seat.trace = (subst (IsSeatState past seat) open_is.stopped stands.state).1 in
    record {
      named = omega (arith, guest_of-named past seat.guest End legal live);
      answers = answers-more seat.trace (answered_of e) stands.answers refl;
      fresh = fresh-more [] seat.trace (answered_of e) stands.fresh tt;
      tied = cache-more seat.trace (answered_of e) ∙ (ap (λ (l : List Answered). l ++ answered_of e ∷ []) stands.tied ∙ (sym (told_of-more e (own past e.guest)) ∙ ap told_of (sym (own-more past e))));
      state = (stop, inr (seat.trace, _, refl, follows), inr refl);
    }

-- a call that isn't the cache's
pub other-stands : (past : List Entry) (seat : Seat) (call : OuterCall) (reply : OuterReply) → SeatStands past seat → IsOpen past seat → due_of seat ≡ Outer call → is_cache call ≡ false → is_end_call (Some call) ≡ false → is_empty seat.trace ≡ false → IsTrue (is_answer call reply) → IsFresh (held_behind [] seat.trace) reply → SeatStands past (noted seat seat.guest call reply)
other-stands past seat call reply stands open_is is isnt no_end begun answers new =
    let follows : Follows seat.program seat.trace = (subst (IsSeatState past seat) open_is.stopped stands.state).1 in
    let next : seat.program (replies_of seat.trace) ≡ Outer call = rw open_is.stopped at is in
    let a : Answered = record { call = call; reply = reply } in
    let nothing : cache_calls (a ∷ []) ≡ [] = rw isnt refl in
    let going : IsGoing past (noted seat seat.guest call reply) = elim open_is.going [
      | inl new ↦ let empty : is_empty seat.trace ≡ true = ap is_empty new.1 in cc (empty, begun)
      | inr live ↦ inr (live.0, empty-more seat.trace a)
    ] in
    let flat : cache_calls seat.trace ++ [] ≡ cache_calls seat.trace = simp append-nil in
    record {
      named = stands.named;
      answers = answers-more seat.trace a stands.answers answers;
      fresh = fresh-more [] seat.trace a stands.fresh new;
      tied = cache-more seat.trace a ∙ (ap (λ (l : List Answered). cache_calls seat.trace ++ l) nothing ∙ (flat ∙ stands.tied));
      state = subst (IsSeatState past (noted seat seat.guest call reply)) (sym open_is.stopped) (subst (IsGoingOn past (noted seat seat.guest call reply)) (sym no_end) going, follows-more seat.program seat.trace a follows next);
    }
