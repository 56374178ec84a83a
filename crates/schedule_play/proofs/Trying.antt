-- One try, from what a step tells.
use Rattle.std.specs.Prelude.{◌≡◌, ℕ, Bool, true, false, not, ◌||◌, List, [], ◌∷◌, ◌++◌, refl, IsTrue, is_some}
use Rattle.std.proofs.Common.{ap, sym, ◌∙◌, subst}
use Rattle.std.proofs.lemmas.Bool.{not-true}
use Rattle.std.proofs.lemmas.List.{reverse-append}
use Rattle.std.specs.Prelude.{reverse}
use Rattle.cache_types.specs.declared.calls.CacheCall.{CacheCall}
use Rattle.cache_types.specs.declared.calls.CacheCall.TheVariants.{Begin, End}
use Rattle.cache_types.specs.declared.entries.Entry.{Entry}
use Rattle.cache_types.specs.declared.entries.Stepped.{Stepped}
use Rattle.cache_types.specs.declared.replies.Reply.TheVariants.{NotYet}
use Rattle.cache_types.specs.declared.outer.Outcome.{Outcome}
use Rattle.cache_types.specs.declared.outer.Outcome.TheVariants as outcome
use Rattle.cache_types.specs.declared.outer.OuterCall.TheVariants as outer
use Rattle.cache_types.specs.declared.outer.OuterReply.TheVariants as said
use Rattle.cache_types.specs.Entries.{newest_first, is_not_yet, is_end, next_number}
use Rattle.cache_types.specs.Step.{guest_of, entry_after, reply_after, stepped, history_after, is_full}
use Rattle.player.specs.declared.turn.Turn.{Turn}
use Rattle.player.specs.declared.turn.Turn.TheVariants.{Outer, Over}
use Rattle.schedule_play.specs.Schedule.{Seat, AreAfter, noted, named_by, is_closed, due_of, makes_end, stop_seat, stopped, tried_cache}

pub reverse-push : {A : Type 0} (xs : List A) (x : A) → reverse (xs ++ x ∷ []) ≡ x ∷ reverse xs
reverse-push xs x = reverse-append xs (x ∷ [])

-- the guest of an entry
pub guest_of-named : (past : List Entry) (guest : ℕ) (call : CacheCall) → guest_of past guest call ≡ named_by guest (next_number past) call
guest_of-named past guest Begin = refl
guest_of-named past guest _ = refl

-- an End is answered
pub end-answered : (past : List Entry) (guest reading : ℕ) (call : CacheCall) → is_end call ≡ true → is_not_yet (reply_after past guest reading call) ≡ false
end-answered past guest reading End is = refl
end-answered past guest reading _ is = cc

module _ (most : ℕ) (history after : List Entry) (seat : Seat) (reading : ℕ) (call : CacheCall) (t : Stepped) (is : t ≡ stepped history seat.guest reading call) (kept : after ≡ history_after history seat.guest reading call) (room : IsTrue (is_not_yet t.reply || not (is_full (newest_first history) most call))) where
  -- a try that is told NotYet
  pub waits : is_not_yet (reply_after (newest_first history) seat.guest reading call) ≡ true → (is_not_yet t.reply ≡ true) × AreAfter (newest_first after) seat (tried_cache most (newest_first history) seat reading call)
  waits not_yet =
      let silent : t ≡ record { number = 0; reply = NotYet } = is ∙ rw not_yet refl in
      let stays : after ≡ history = kept ∙ rw not_yet refl in
      (ap (λ (s : Stepped). is_not_yet s.reply) silent, rw not_yet (record { past_is = ap newest_first stays; seat_is = refl }))

  -- one that is answered
  pub answers : is_not_yet (reply_after (newest_first history) seat.guest reading call) ≡ false → (is_not_yet t.reply ≡ false) × AreAfter (newest_first after) (noted seat (named_by seat.guest t.number call) (outer.Cache call) (said.Cache t)) (tried_cache most (newest_first history) seat reading call)
  answers spoke =
      let past : List Entry = newest_first history in
      let spoken : t ≡ record { number = next_number past; reply = reply_after past seat.guest reading call } = is ∙ rw spoke refl in
      let says : is_not_yet t.reply ≡ false = ap (λ (s : Stepped). is_not_yet s.reply) spoken ∙ spoke in
      let free : is_full past most call ≡ false = not-true (is_full past most call) (rw says at room) in
      let one_more : after ≡ history ++ entry_after past seat.guest reading call ∷ [] = kept ∙ rw spoke refl in
      let shown : noted seat (named_by seat.guest t.number call) (outer.Cache call) (said.Cache t) ≡ noted seat (named_by seat.guest (next_number past) call) (outer.Cache call) (said.Cache (record { number = next_number past; reply = reply_after past seat.guest reading call })) =
      ap (λ (s : Stepped). noted seat (named_by seat.guest s.number call) (outer.Cache call) (said.Cache s)) spoken
      in
      let named : noted seat (named_by seat.guest t.number call) (outer.Cache call) (said.Cache t) ≡ noted seat (guest_of past seat.guest call) (outer.Cache call) (said.Cache (record { number = next_number past; reply = reply_after past seat.guest reading call })) =
      shown ∙ ap (λ guest. noted seat guest (outer.Cache call) (said.Cache (record { number = next_number past; reply = reply_after past seat.guest reading call }))) (sym (guest_of-named past seat.guest call))
      in
      (says, rw (spoke, free) (record { past_is = ap newest_first one_more ∙ reverse-push history (entry_after past seat.guest reading call); seat_is = named }))

-- a stop because the history is full
pub full-turn : (most : ℕ) (past kept after : List Entry) (seat moved : Seat) (reading : ℕ) (call : CacheCall) → kept ≡ past → is_full past most call ≡ true → IsTrue (not (is_not_yet (reply_after past seat.guest reading call))) → AreAfter after moved (stopped kept seat reading outcome.HistoryFull) → AreAfter after moved (tried_cache most past seat reading call)
full-turn most past kept after seat moved reading call same full answered turn =
    let spoke : is_not_yet (reply_after past seat.guest reading call) ≡ false = not-true (is_not_yet (reply_after past seat.guest reading call)) answered in
    rw (spoke, full) (subst (λ entries. AreAfter after moved (stopped entries seat reading outcome.HistoryFull)) same turn)

or-true : (b : Bool) → (b || true) ≡ true
or-true true = refl
or-true false = refl

-- a guest that was stopped is over
pub stopped-closed : (past : List Entry) (seat : Seat) (reading : ℕ) (ended : Outcome) → is_closed (stopped past seat reading ended).seat ≡ true
stopped-closed past seat reading ended =
    let with : (due : Turn) → is_closed (makes_end past (stop_seat seat ended) reading due).seat ≡ true = elim [ Outer call ↦ refl | Over how ↦ or-true seat.ended ]
    in with (due_of (stop_seat seat ended))

-- a seat that goes on and wasn't stopped isn't over
pub not-closed : (seat : Seat) → seat.ended ≡ false → is_some seat.stopped ≡ false → is_closed seat ≡ false
not-closed seat goes on = rw (goes, on) refl
