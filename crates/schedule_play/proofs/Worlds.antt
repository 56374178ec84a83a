-- Every step of a schedule leaves guests that may go on.
use Rattle.std.specs.Prelude.{◌≡◌, ℕ, ◌<◌, Bool, true, false, List, [], ◌∷◌, length, slice_set, refl, IsTrue, if◌then◌else◌}
use Rattle.std.proofs.Common.{arith, ap, sym, subst, inl, inr, zero, suc}
use Rattle.cache_types.specs.declared.calls.CacheCall.{CacheCall}
use Rattle.cache_types.specs.declared.calls.CacheCall.TheVariants.{End}
use Rattle.cache_types.specs.declared.entries.Entry.{Entry}
use Rattle.cache_types.specs.declared.outer.Outcome.{Outcome}
use Rattle.cache_types.specs.declared.outer.Outcome.TheVariants as outcome
use Rattle.cache_types.specs.declared.outer.OuterCall.{OuterCall}
use Rattle.cache_types.specs.declared.outer.OuterCall.TheVariants as outer
use Rattle.cache_types.specs.Entries.{is_live, is_not_yet}
use Rattle.cache_types.specs.Limits.{is_within_limits}
use Rattle.cache_types.specs.Step.{IsCaller, entry_after, reply_after, is_full}
use Rattle.player.specs.declared.turn.Turn.{Turn}
use Rattle.player.specs.declared.turn.Turn.TheVariants.{Outer, Over}
use Rattle.cache_types.specs.declared.outer.OuterReply.{OuterReply}
use Rattle.player.specs.Plays.{Program, Answered, stopped_due}
use Rattle.player.specs.May.{is_empty, MayTake, MayAsk}
use Rattle.player.specs.Runs.{is_link, is_answer}
use Rattle.player.specs.Tickets.{held_behind, IsFresh}
use Rattle.schedule_play.specs.Schedule.{Seat, Moved, AreAfter, World, seat_at, seat_with, noted, unchanged, answered, stop_seat, makes_end, stopped, outer_reply, tried, tried_cache, taken, turned, due_of, is_closed, MayGo, next_answer, IsAnswerTo, IsAsked, MayTurn}
use Rattle.schedule_play.specs.Blocks.{is_cache, IsStop}
use Rattle.schedule_play.specs.OneResult.{after_turn}
use Rattle.schedule_play.specs.Ready.{SeatStands, AllStand, IsReady}
use Rattle.schedule_play.proofs.Going.{IsOpen, open-seat, may-make}
use Rattle.schedule_play.proofs.Others.{no-end}
use Rattle.schedule_play.proofs.Readiness.{ready-appended, ready-same}
use Rattle.schedule_play.proofs.Turning.{may-follow, whose-entry, answered-stands, stop-stands, ended-stands, other-stands}

-- the seat at a place stands
pub stands-at : (past : List Entry) (place : ℕ) (seats : List Seat) → AllStand past seats → place < length seats → SeatStands past (seat_at seats place)
stands-at past place [] stand within = absurd (omega arith)
stands-at past zero (seat ∷ seats) stand within = stand.0
stands-at past (suc place) (seat ∷ seats) stand within = stands-at past place seats stand.1 (omega arith)

-- an outcome that stops comes to one of two turns: an End, or nothing
stopping : (trace : List Answered) (ended : Bool) (why : Outcome) → ended ≡ false → (is_empty trace ≡ true → stopped_due trace ended why ≡ Over why) × (is_empty trace ≡ false → stopped_due trace ended why ≡ Outer (outer.Cache End))
stopping [] ended why goes = ((λ _. refl), λ isnt. cc)
stopping (begin ∷ trace) true why goes = cc
stopping (begin ∷ trace) false why goes = ((λ isnt. cc), λ _. refl)

module _ (world : World) (place reading : ℕ) (ready : IsReady world) (within : place < length world.seats) where
  abbrev pub seat : Seat
  seat = seat_at world.seats place

  stands : SeatStands world.past seat
  stands = stands-at world.past place world.seats ready.stand within

  pub ready-unchanged : IsReady (after_turn world place (unchanged world.past seat))
  ready-unchanged = ready-same world place seat ready within refl stands

  pub ready-answered : (call : CacheCall) → IsOpen world.past seat → due_of seat ≡ Outer (outer.Cache call) → IsCaller world.past seat.guest call → IsTrue (is_within_limits call) → is_not_yet (reply_after world.past seat.guest reading call) ≡ false → IsReady (after_turn world place (answered world.past seat (entry_after world.past seat.guest reading call)))
  ready-answered call open_is is caller limits answers =
      let e : Entry = entry_after world.past seat.guest reading call in
      ready-appended world place e (seat_with seat e) ready within (may-follow world.past seat.guest reading call caller answers) refl
      (whose-entry world.past seat.guest call ready.legal caller) limits (answered-stands world.past seat reading call ready.legal stands open_is is caller)

  pub ready-stopped : (why : Outcome) → IsStop why → IsOpen world.past seat → IsReady (after_turn world place (stopped world.past seat reading why))
  ready-stopped why stop open_is =
      let two = stopping seat.trace seat.ended why open_is.ended in
      let e : Entry = entry_after world.past seat.guest reading End in
      let over : seat.trace ≡ [] → is_empty seat.trace ≡ true → IsReady (after_turn world place (stopped world.past seat reading why)) = λ none empty.
      subst (λ (t : Turn). IsReady (after_turn world place (makes_end world.past (stop_seat seat why) reading t))) (sym (two.0 empty)) (ready-same world place (stop_seat seat why) ready within refl (stop-stands world.past seat why stop stands none))
      in
      let ends : IsTrue (is_live world.past seat.guest) → is_empty seat.trace ≡ false → IsReady (after_turn world place (stopped world.past seat reading why)) = λ live begun.
      subst (λ (t : Turn). IsReady (after_turn world place (makes_end world.past (stop_seat seat why) reading t))) (sym (two.1 begun))
      (ready-appended world place e (seat_with (stop_seat seat why) e) ready within (may-follow world.past seat.guest reading End live refl) refl
      (whose-entry world.past seat.guest End ready.legal live) refl (ended-stands world.past seat reading why ready.legal stop stands open_is live))
      in
      elim open_is.going [ inl new ↦ over new.1 (ap is_empty new.1) | inr live ↦ ends live.0 live.1 ]

  pub ready-cache : (most : ℕ) (call : CacheCall) → IsOpen world.past seat → due_of seat ≡ Outer (outer.Cache call) → IsCaller world.past seat.guest call → IsTrue (is_within_limits call) → IsReady (after_turn world place (tried_cache most world.past seat reading call))
  ready-cache most call open_is is caller limits =
      let room : is_not_yet (reply_after world.past seat.guest reading call) ≡ false → (b : Bool) → is_full world.past most call ≡ b → IsReady (after_turn world place (if b then stopped world.past seat reading outcome.HistoryFull else answered world.past seat (entry_after world.past seat.guest reading call))) = λ answers.
      elim [ true ↦ λ _. ready-stopped outcome.HistoryFull tt open_is | false ↦ λ _. ready-answered call open_is is caller limits answers ]
      in
      let with : (b : Bool) → is_not_yet (reply_after world.past seat.guest reading call) ≡ b → IsReady (after_turn world place (if b then unchanged world.past seat else (if is_full world.past most call then stopped world.past seat reading outcome.HistoryFull else answered world.past seat (entry_after world.past seat.guest reading call)))) =
      elim [ true ↦ λ _. ready-unchanged | false ↦ λ answers. room answers (is_full world.past most call) refl ]
      in with (is_not_yet (reply_after world.past seat.guest reading call)) refl

  ready-other : (said : OuterReply) (call : OuterCall) → IsOpen world.past seat → due_of seat ≡ Outer call → is_cache call ≡ false → is_empty seat.trace ≡ false → IsTrue (is_answer call (outer_reply reading said call)) → IsFresh (held_behind [] seat.trace) (outer_reply reading said call) → IsReady (after_turn world place (record { past = world.past; seat = noted seat seat.guest call (outer_reply reading said call) }))
  ready-other said call open_is is isnt begun answers new = ready-same world place (noted seat seat.guest call (outer_reply reading said call)) ready within refl (other-stands world.past seat call (outer_reply reading said call) stands open_is is isnt (no-end call isnt) begun answers new)

  pub ready-tried : (most : ℕ) (said : OuterReply) (call : OuterCall) → IsOpen world.past seat → due_of seat ≡ Outer call → MayAsk seat.trace call → (is_link call ≡ true → IsTrue (is_answer call said) × IsFresh (held_behind [] seat.trace) said) → IsReady (after_turn world place (tried most world.past seat reading said call))
  ready-tried most said (outer.Cache call) open_is is may fits = let makes = may-make world.past seat (outer.Cache call) open_is.going may in ready-cache most call open_is is makes.0 makes.1
  ready-tried most said (outer.Start address request) open_is is may fits = ready-other said (outer.Start address request) open_is is refl may.0 (fits refl).0 (fits refl).1
  ready-tried most said (outer.Poll ticket) open_is is may fits = ready-other said (outer.Poll ticket) open_is is refl may.0 (fits refl).0 (fits refl).1
  ready-tried most said (outer.WaitFor ticket) open_is is may fits = ready-other said (outer.WaitFor ticket) open_is is refl may.0 (fits refl).0 (fits refl).1
  ready-tried most said (outer.AnyOf tickets) open_is is may fits = ready-other said (outer.AnyOf tickets) open_is is refl may.0 (fits refl).0 (fits refl).1
  ready-tried most said (outer.Now clock) open_is is may fits = ready-other said (outer.Now clock) open_is is refl may refl tt
  ready-tried most said (outer.Head bytes) open_is is may fits = ready-other said (outer.Head bytes) open_is is refl may refl tt
  ready-tried most said (outer.Piece bytes) open_is is may fits = ready-other said (outer.Piece bytes) open_is is refl may refl tt
  ready-tried most said (outer.Close whole) open_is is may fits = ready-other said (outer.Close whole) open_is is refl may refl tt
  ready-tried most said (outer.Log endpoint line) open_is is may fits = ready-other said (outer.Log endpoint line) open_is is refl may refl tt

  asked-fits : (call : OuterCall) (answers : List Answered) → (is_link call ≡ true → IsAnswerTo seat.trace call answers) → is_link call ≡ true → IsTrue (is_answer call (next_answer answers)) × IsFresh (held_behind [] seat.trace) (next_answer answers)
  asked-fits call [] asked link = absurd (asked link)
  asked-fits call (a ∷ answers) asked link = ((asked link).1, (asked link).2)

  ready-taken : (most : ℕ) (answers : List Answered) (due : Turn) → IsOpen world.past seat → due_of seat ≡ due → MayTake seat.trace seat.ended seat.stopped due → IsAsked seat.trace due answers → IsReady (after_turn world place (taken most reading (next_answer answers) world.past seat due))
  ready-taken most answers (Outer call) open_is is may asked = ready-tried most (next_answer answers) call open_is is may.1 (asked-fits call answers asked)
  ready-taken most answers (Over how) open_is is may asked = ready-unchanged

  pub ready-turned : (most : ℕ) (answers : List Answered) → MayGo seat → (is_closed seat ≡ false → IsAsked seat.trace (due_of seat) answers) → IsReady (after_turn world place (turned most reading (next_answer answers) world.past seat))
  ready-turned most answers may asked =
      let with : (b : Bool) → is_closed seat ≡ b → IsReady (after_turn world place (if b then unchanged world.past seat else taken most reading (next_answer answers) world.past seat (due_of seat))) =
      elim [ true ↦ λ _. ready-unchanged | false ↦ λ isnt. ready-taken most answers (due_of seat) (open-seat world.past seat stands isnt) refl (may isnt) (asked isnt) ]
      in with (is_closed seat) refl

  -- the same of what a turn may lead to
  pub ready-after : (turn : Moved) (past : List Entry) (moved : Seat) → AreAfter past moved turn → IsReady (after_turn world place turn) → IsReady (record { past = past; seats = slice_set world.seats place moved })
  ready-after turn past moved after is =
      let with_past = subst (λ p. IsReady (record { past = p; seats = slice_set world.seats place turn.seat })) (sym after.past_is) is in
      subst (λ s. IsReady (record { past = past; seats = slice_set world.seats place s })) (sym after.seat_is) with_past

  pub ready-may_turn : (MayWant : Program → List Answered → Type 0) (most : ℕ) (answers left : List Answered) (past : List Entry) (moved : Seat) → MayTurn MayWant most reading answers left world.past seat past moved → IsReady (record { past = past; seats = slice_set world.seats place moved })
  ready-may_turn MayWant most answers left past moved turn =
      elim turn [
        | inl went ↦ ready-after (turned most reading (next_answer answers) world.past seat) past moved went.is (ready-turned most answers went.may went.asked)
        | inr short ↦ ready-after (stopped world.past seat reading outcome.OutOfMemory) past moved short.is (ready-stopped outcome.OutOfMemory tt (open-seat world.past seat stands short.open_is))
      ]
