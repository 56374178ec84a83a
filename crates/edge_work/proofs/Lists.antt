-- Readings, frames and writes, with more behind them.
use Rattle.std.proofs.Common.{◌≡◌, ◌⊎◌, inl, inr, ℕ, ◌<◌, ◌≤◌, nat_lt, Bool, true, false, true≢false, List, [], ◌∷◌, ◌++◌, map, Contains, Option, refl, sym, ap, ◌∙◌, subst, arith}
use Rattle.std.proofs.lemmas.Bool.Decides.{nat_tests}
use Rattle.std.proofs.lemmas.Grind.{flat_map-append}
use Rattle.std.proofs.lemmas.List.{append-nil, map-append}
use Rattle.std.proofs.lemmas.List.Elements.{Contains-append_left, Contains-append_right, Contains-append_cases, Contains-push, All-contains, All-cons, All-nil}
use Rattle.cache_types.specs.declared.calls.CacheCall.{CacheCall}
use Rattle.cache_types.specs.declared.outer.OuterCall.{OuterCall}
use Rattle.cache_types.specs.declared.outer.OuterCall.TheVariants as call
use Rattle.edge_outside.specs.Clock.{ClockContent, IsReading, AreReadings}
use Rattle.edge_outside.specs.Faults.{Rose, last_count}
use Rattle.edge_outside.specs.Made.{Made, made_then}
use Rattle.player.specs.Plays.{Answered}
use Rattle.guest_answers.specs.declared.answer.Answer.{Answer}
use Rattle.guest_answers.specs.declared.answer.Answer.TheVariants.{Headless, Headed, Closed}
use Rattle.guest_answers.specs.Wire.{after_call, frame, answer_from, answer_behind, frames_from, frames, is_headless}
use Rattle.edge_work.specs.Sent.{written, all_written, Stays}
use Rattle.edge_work.specs.Outside.{last_of, told_by, told_in, AreAmong}

-- readings
pub readings_both : {C : Type 0} (reads : C → ℕ → C → Type 0) (content : C → Option ClockContent) (before : C) (xs : List ℕ) (between : C) (ys : List ℕ) (after : C) → AreReadings reads content before xs between → AreReadings reads content between ys after → AreReadings reads content before (xs ++ ys) after
readings_both reads content before xs between ys after first second =
    subst (λ calls. Made (IsReading reads content) before calls after) (sym (map-append (λ r. (tt, r)) xs ys))
    (made_then (IsReading reads content) before (map (λ r. (tt, r)) xs) between (map (λ r. (tt, r)) ys) after first second)

pub last_both : (first : ℕ) (xs ys : List ℕ) → last_of first (xs ++ ys) ≡ last_of (last_of first xs) ys
last_both first [] ys = refl
last_both first (x ∷ xs) ys = last_both x xs ys

pub last_push : (first : ℕ) (xs : List ℕ) (r : ℕ) → last_of first (xs ++ r ∷ []) ≡ r
last_push first [] r = refl
last_push first (x ∷ xs) r = last_push x xs r

pub last_among : (first : ℕ) (xs : List ℕ) → Contains (first ∷ xs) (last_of first xs)
last_among first [] = Contains-push [] first
last_among first (x ∷ xs) = Contains-append_right (first ∷ []) (x ∷ xs) (last_of x xs) (last_among x xs)

-- readings of one call behind those before it
pub among : (first last : ℕ) (old new : List ℕ) → Contains (first ∷ old) last → (r : ℕ) → Contains (last ∷ new) r → Contains (first ∷ (old ++ new)) r
among first last old new at r has = by (Contains-append_cases (last ∷ []) new r has)
  where
    by : Contains (last ∷ []) r ⊎ Contains new r → Contains (first ∷ (old ++ new)) r
    by (inl here) = subst (Contains (first ∷ (old ++ new))) (All-contains (λ x. last ≡ x) (last ∷ []) r (All-cons (λ x. last ≡ x) last [] refl (All-nil (λ x. last ≡ x))) here) (Contains-append_left (first ∷ old) new last at)
    by (inr there) = Contains-append_right (first ∷ old) new r there

-- some among more
among_behind : (xs all more : List ℕ) → AreAmong xs more → AreAmong xs (all ++ more)
among_behind [] all more h = tt
among_behind (x ∷ xs) [] more h = h
among_behind (x ∷ xs) (y ∷ all) more h = inr (among_behind (x ∷ xs) all more h)

pub among_both : (xs ys all more : List ℕ) → AreAmong xs all → AreAmong ys more → AreAmong (xs ++ ys) (all ++ more)
among_both [] ys all more h k = among_behind ys all more k
among_both (x ∷ xs) ys [] more h k = absurd h
among_both (x ∷ xs) ys (y ∷ all) more (inl h) k = inl (h.0, among_both xs ys all more h.1 k)
among_both (x ∷ xs) ys (y ∷ all) more (inr h) k = inr (among_both (x ∷ xs) ys all more h k)

pub told_push : (trace : List Answered) (a : Answered) → told_in (trace ++ a ∷ []) ≡ told_in trace ++ told_by a.reply
told_push trace a = flat_map-append (λ (b : Answered). told_by b.reply) trace (a ∷ []) ∙ ap (λ (l : List ℕ). told_in trace ++ l) (append-nil (told_by a.reply))

-- frames
pub answer_push : (method : List ℕ) (answer : Answer) (trace : List Answered) (a : Answered) → answer_from method answer (trace ++ a ∷ []) ≡ after_call method (answer_from method answer trace) a.call
answer_push method answer [] a = refl
answer_push method answer (b ∷ trace) a = answer_push method (after_call method answer b.call) trace a

frames_push : (method : List ℕ) (answer : Answer) (trace : List Answered) (a : Answered) → frames_from method answer (trace ++ a ∷ []) ≡ frames_from method answer trace ++ frame (answer_from method answer trace) a.call ∷ []
frames_push method answer [] a = refl
frames_push method answer (b ∷ trace) a = ap (λ (l : List (List ℕ)). frame answer b.call ∷ l) (frames_push method (after_call method answer b.call) trace a)

pub written_push : (method : List ℕ) (trace : List Answered) (a : Answered) → all_written (frames method (trace ++ a ∷ [])) ≡ all_written (frames method trace) ++ written (frame (answer_behind method trace) a.call)
written_push method trace a =
    let one = frame (answer_behind method trace) a.call in
    ap all_written (frames_push method Headless trace a) ∙ (flat_map-append written (frames method trace) (one ∷ []) ∙ ap (λ l. all_written (frames method trace) ++ l) (append-nil (written one)))

-- where there is no head yet behind a call, there was none before it, and nothing was written
pub quiet_call : (method : List ℕ) (answer : Answer) (c : OuterCall) → is_headless (after_call method answer c) ≡ true → (is_headless answer ≡ true) × (frame answer c ≡ [])
quiet_call method Headless (call.Head bytes) is = absurd (true≢false (sym is))
quiet_call method Headless c is = (refl, refl)
quiet_call method (Headed framing) (call.Close whole) is = absurd (true≢false (sym is))
quiet_call method (Headed framing) c is = absurd (true≢false (sym is))
quiet_call method Closed c is = absurd (true≢false (sym is))

pub frame_of_cache : (answer : Answer) (d : CacheCall) → frame answer (call.Cache d) ≡ []
frame_of_cache Headless d = refl
frame_of_cache (Headed framing) d = refl
frame_of_cache Closed d = refl

-- counts
pub stays : (a b : ℕ) → b ≡ a → Stays a b
stays a b same = (omega arith, λ h. omega arith)

pub stays_on : (a b c : ℕ) → Stays a b → Stays b c → Stays a c
stays_on a b c s t = let p = s.0 in let q = t.0 in (omega arith, λ h. t.1 (s.1 h))

pub rose_on : (a b c : ℕ) → Rose a b → Stays b c → Rose a c
rose_on a b c (inl less) s = let p = s.0 in inl (omega arith)
rose_on a b c (inr at) s = let p = s.1 (let q = at.1 in omega arith) in let q = s.0 in let r = at.1 in inr (at.0, omega arith)

pub rose_from : (a b c : ℕ) → Stays a b → Rose b c → Rose a c
rose_from a b c s (inl less) = let p = s.0 in inl (omega arith)
rose_from a b c s (inr at) = by (nat_lt a last_count) refl
  where
    by : (x : Bool) → nat_lt a last_count ≡ x → Rose a c
    by true is = let p : a < last_count = grind (arith, nat_tests) in let q = at.1 in inl (omega arith)
    by false is = let p : last_count ≤ a = grind (arith, nat_tests) in let q = at.0 in let r = s.0 in inr (omega arith, at.1)
