-- What a player holds behind one try.
use Rattle.std.specs.Prelude.{◌≡◌, ℕ, Bool, true, false, not, ◌||◌, List, refl, IsTrue, is_some}
use Rattle.std.proofs.Common.{ap, sym, ◌∙◌, subst, inl, inr}
use Rattle.cache_types.specs.declared.calls.CacheCall.{CacheCall}
use Rattle.cache_types.specs.declared.entries.Entry.{Entry}
use Rattle.cache_types.specs.declared.entries.Stepped.{Stepped}
use Rattle.cache_types.specs.declared.outer.Outcome.TheVariants as outcome
use Rattle.cache_types.specs.declared.outer.OuterCall.TheVariants as outer
use Rattle.cache_types.specs.declared.outer.OuterReply.TheVariants as said
use Rattle.cache_types.specs.Entries.{newest_first, is_not_yet, is_end}
use Rattle.cache_types.specs.Step.{reply_after, stepped, history_after, is_full}
use Rattle.player.specs.Plays.{Program, Answered}
use Rattle.schedule_play.specs.declared.place.Place.{Place}
use Rattle.schedule_play.specs.Schedule.{Seat, AreAfter, noted, named_by, is_closed, stopped as stopped_seat}
use Rattle.schedule_play.specs.Sits.{Holds, HasMoved, IsAsking, TryGives}
use Rattle.schedule_play.proofs.Trying.{waits, answers, end-answered, full-turn, stopped-closed, not-closed}

or-same : (a b : Bool) → (b ≡ true → a ≡ true) → a ≡ (a || b)
or-same true b so = refl
or-same false true so = so refl
or-same false false so = refl

-- a fact that would hold of a stopped guest alone
pub unless-stopped : (b end : Bool) → (b ≡ true → end ≡ true) → end ≡ false → b ≡ false
unless-stopped false end so goes = refl
unless-stopped true end so goes = cc (so refl)

pub not-end : (past : List Entry) (guest reading : ℕ) (call : CacheCall) → is_not_yet (reply_after past guest reading call) ≡ true → (b : Bool) → is_end call ≡ b → is_end call ≡ false
not-end past guest reading call not_yet true is = let answered = end-answered past guest reading call is in cc
not-end past guest reading call not_yet false is = is

module _ {P : Type 0} (Plays : P → Program → List Answered → Type 0) (stopped : P → _) (ended : P → Bool) (most reading : ℕ) (history after : List Entry) (player now : P) (place there : Place) (seat : Seat) (call : CacheCall) (asks : IsAsking Plays stopped ended (newest_first history) player place seat (outer.Cache call)) where
  pub calm : is_end call ≡ false → is_closed seat ≡ false
  calm goes = not-closed seat asks.goes (unless-stopped (is_some seat.stopped) (is_end call) asks.stops goes)

  -- a reply was told
  pub told-gives : (t : Stepped) → t ≡ stepped history place.guest reading call → after ≡ history_after history place.guest reading call → IsTrue (is_not_yet t.reply || not (is_full (newest_first history) most call))
      → (IsTrue (is_not_yet t.reply) → (now ≡ player) × (there ≡ place))
      → (IsTrue (not (is_not_yet t.reply)) → (s : Seat) → Holds Plays stopped ended player place.guest s → Holds Plays stopped ended now there.guest (noted s (named_by s.guest t.number call) (outer.Cache call) (said.Cache t)))
      → (IsTrue (not (is_not_yet t.reply)) → there.over ≡ is_end call)
      → TryGives Plays stopped ended most reading (newest_first history) seat call (newest_first after) now there
  told-gives t told appended room quiet heard over =
      let guest : place.guest ≡ seat.guest = asks.holds.guest_is in
      let is : t ≡ stepped history seat.guest reading call = told ∙ ap (λ name. stepped history name reading call) guest in
      let kept : after ≡ history_after history seat.guest reading call = appended ∙ ap (λ name. history_after history name reading call) guest in
      let with : (b : Bool) → is_not_yet (reply_after (newest_first history) seat.guest reading call) ≡ b → TryGives Plays stopped ended most reading (newest_first history) seat call (newest_first after) now there =
      elim [
        | true ↦ λ not_yet.
            let w = waits most history after seat reading call t is kept room not_yet in
            let same = quiet w.0 in
            let goes : is_end call ≡ false = not-end (newest_first history) seat.guest reading call not_yet (is_end call) refl in
            record {
              moved = seat;
              holds = rw (same.0, same.1) asks.holds;
              over_is = ap (λ (p : Place). p.over) same.1 ∙ (asks.fresh ∙ sym (calm goes));
              turn = inl w.1;
            }
        | false ↦ λ spoke.
            let w = answers most history after seat reading call t is kept room spoke in
            let speaks : IsTrue (not (is_not_yet t.reply)) = ap not w.0 in
            record {
              moved = noted seat (named_by seat.guest t.number call) (outer.Cache call) (said.Cache t);
              holds = heard speaks seat asks.holds;
              over_is = over speaks ∙ or-same (is_end call) (is_some seat.stopped) asks.stops;
              turn = inl w.1;
            }
      ] in with (is_not_yet (reply_after (newest_first history) seat.guest reading call)) refl

  -- the cache was full, or wanted memory
  pub full-gives : (kept : List Entry) → kept ≡ newest_first history → is_full (newest_first history) most call ≡ true → IsTrue (not (is_not_yet (reply_after (newest_first history) place.guest reading call)))
      → HasMoved Plays stopped ended now there.guest (newest_first after) (stopped_seat kept seat reading outcome.HistoryFull) → there.over ≡ true
      → TryGives Plays stopped ended most reading (newest_first history) seat call (newest_first after) now there
  full-gives kept same full speaks has over = record {
    moved = (stopped_seat kept seat reading outcome.HistoryFull).seat;
    holds = has.holds;
    over_is = over ∙ sym (stopped-closed kept seat reading outcome.HistoryFull);
    turn = inl (full-turn most (newest_first history) kept (newest_first after) seat (stopped_seat kept seat reading outcome.HistoryFull).seat reading call same full (rw asks.holds.guest_is at speaks) (record { past_is = has.past_is; seat_is = refl }));
  }

  pub short-gives : (kept : List Entry) → kept ≡ newest_first history → is_end call ≡ false
      → HasMoved Plays stopped ended now there.guest (newest_first after) (stopped_seat kept seat reading outcome.OutOfMemory) → there.over ≡ true
      → TryGives Plays stopped ended most reading (newest_first history) seat call (newest_first after) now there
  short-gives kept same goes has over = record {
    moved = (stopped_seat kept seat reading outcome.OutOfMemory).seat;
    holds = has.holds;
    over_is = over ∙ sym (stopped-closed kept seat reading outcome.OutOfMemory);
    turn = inr (record {
      open_is = calm goes;
      wants = ap not goes;
      is = subst (λ k. AreAfter (newest_first after) (stopped_seat kept seat reading outcome.OutOfMemory).seat (stopped_seat k seat reading outcome.OutOfMemory)) same (record { past_is = has.past_is; seat_is = refl });
    });
  }
