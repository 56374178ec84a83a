-- Guests of a legal history: each is named by the number of an entry, and its own entries tell whether it is live.
use Rattle.std.proofs.Common.{◌≡◌, ℕ, ◌+◌, ◌<◌, ◌≤◌, Bool, true, false, ◌==◌, cond, ◌&&◌, not, List, [], ◌∷◌, length, All, IsTrue, Option, None, Some, if◌then◌else◌, ◌||◌, true≢false, refl, sym, ap, ◌∙◌, subst, arith}
use Rattle.std.specs.List.{list_any, cons_option, AllByRecursion, filter}
use mathlib.Core.List.{reverse_aux}
use Rattle.std.specs.Cmp.Derive.{both_true}
use Rattle.std.proofs.lemmas.Bool.{and_parts}
use Rattle.std.proofs.lemmas.Bool.Decides.{nat_tests}
use Rattle.std.proofs.lemmas.List.Elements.{All-from_recursion}
use Rattle.std.proofs.lemmas.List.Sorted.{IsPermutation-reverse, All-permutation}
use Rattle.std.proofs.lemmas.List.{reverse-reverse, length-reverse}
use Rattle.cache_types.specs.Step.{IsCaller, MayCall}
use Rattle.cache_hub.specs.Calls.{own_of}
use Rattle.cache_types.proofs.Openings.{guests_began}
use Rattle.cache_types.specs.declared.calls.CacheCall.{CacheCall}
use Rattle.cache_types.specs.declared.calls.CacheCall.TheVariants.{Begin}
use Rattle.cache_types.specs.declared.entries.Entry.{Entry}
use Rattle.cache_types.specs.Entries.{begun, begun_by, is_begin, is_end, has_ended, is_live, newest_first}
use Rattle.cache_types.specs.Legal.{IsLegalPast, IsLegal}

-- a guest that began has no greater number than there are entries
begun_one : (n g k : ℕ) (call : CacheCall) (bs : List ℕ) → n ≡ k + 1 → (list_any (λ b. b == g) bs ≡ true → g ≤ k) → list_any (λ b. b == g) (cons_option (if is_begin call then Some n else None) bs) ≡ true → g ≤ k + 1
begun_one n g k Begin bs is older began = either (n == g) refl began
  where
    either : (b : Bool) → (n == g) ≡ b → (b || list_any (λ b. b == g) bs) ≡ true → g ≤ k + 1
    either true same h = let p : n ≡ g = grind (arith, nat_tests) in omega arith
    either false other h = let p = older h in omega arith
begun_one n g k call bs is older began = let p = older began in omega arith

pub begun_bound : (past : List Entry) → IsLegalPast past → (g : ℕ) → list_any (λ b. b == g) (begun past) ≡ true → g ≤ length past
begun_bound [] h g began = absurd (true≢false (sym began))
begun_bound (e ∷ past) h g began = let p = begun_one e.number g (length past) e.call (begun past) h.0.number (begun_bound past h.1 g) began in omega arith

-- so has every guest of an entry, since each began
bounds : (k : ℕ) (past rest : List Entry) → ((g : ℕ) → list_any (λ b. b == g) (begun past) ≡ true → g ≤ k) → AllByRecursion (λ (x : Entry). list_any (λ b. b == x.guest) (begun past) ≡ true) rest → AllByRecursion (λ (x : Entry). x.guest < 1 + k) rest
bounds k past [] f h = tt
bounds k past (x ∷ rest) f h = ((let p = f x.guest h.0 in omega arith), bounds k past rest f h.1)

-- a guest is named by the number of an entry
pub guests_older : (history : List Entry) → IsLegal history → All (λ (e : Entry). e.guest < 1 + length history) history
guests_older history legal =
    let past = newest_first history in
    let all : All (λ (e : Entry). e.guest < 1 + length past) past = All-from_recursion (λ (e : Entry). e.guest < 1 + length past) past (bounds (length past) past past (begun_bound past legal) (guests_began past legal)) in
    subst (λ (n : ℕ). All (λ (e : Entry). e.guest < 1 + n) history) (length-reverse history)
    (subst (All (λ (e : Entry). e.guest < 1 + length past)) (reverse-reverse history) (All-permutation (λ (e : Entry). e.guest < 1 + length past) past (newest_first past) (IsPermutation-reverse past) all))

-- a filter of a reversed list
filter_turn : (p : Entry → Bool) (xs ys : List Entry) → reverse_aux (filter p xs) (filter p ys) ≡ filter p (reverse_aux xs ys)
filter_turn p [] ys = refl
filter_turn p (x ∷ xs) ys = step (p x) ∙ filter_turn p xs (x ∷ ys)
  where
    step : (b : Bool) → reverse_aux (cond b (x ∷ filter p xs) (filter p xs)) (filter p ys) ≡ reverse_aux (filter p xs) (cond b (x ∷ filter p ys) (filter p ys))
    step true = refl
    step false = refl

-- the own entries of a reversed list
pub own_reverse : (g : ℕ) (xs : List Entry) → newest_first (own_of g xs) ≡ own_of g (newest_first xs)
own_reverse g xs = filter_turn (λ (e : Entry). e.guest == g) xs []

-- the guest is one of these
abbrev pub has_begun : ℕ → List ℕ → Bool
has_begun g bs = list_any (λ b. b == g) bs

more_begun : (g : ℕ) (o : Option ℕ) (xs ys : List ℕ) → (has_begun g xs ≡ true → has_begun g ys ≡ true) → has_begun g (cons_option o xs) ≡ true → has_begun g (cons_option o ys) ≡ true
more_begun g None xs ys f h = f h
more_begun g (Some n) xs ys f h = step (n == g) h
  where
    step : (c : Bool) → (c || has_begun g xs) ≡ true → (c || has_begun g ys) ≡ true
    step true h = refl
    step false h = f h

pub or_begun : (g : ℕ) (o : Option ℕ) (xs : List ℕ) → has_begun g xs ≡ true → has_begun g (cons_option o xs) ≡ true
or_begun g None xs h = h
or_begun g (Some n) xs h = step (n == g)
  where
    step : (c : Bool) → (c || has_begun g xs) ≡ true
    step true = refl
    step false = h

-- who began among its own entries began
live_begun : (g : ℕ) (past : List Entry) → has_begun g (begun (own_of g past)) ≡ true → has_begun g (begun past) ≡ true
live_begun g [] h = h
live_begun g (e ∷ past) h = step (live_begun g past) (e.guest == g) h
  where
    step : (has_begun g (begun (own_of g past)) ≡ true → has_begun g (begun past) ≡ true) → (b : Bool) → has_begun g (begun (cond b (e ∷ own_of g past) (own_of g past))) ≡ true → has_begun g (cons_option (begun_by e) (begun past)) ≡ true
    step older true h = more_begun g (begun_by e) (begun (own_of g past)) (begun past) older h
    step older false h = or_begun g (begun_by e) (begun past) (older h)

-- a guest ends by an entry of its own
pub ended_own : (g : ℕ) (past : List Entry) → has_ended (own_of g past) g ≡ has_ended past g
ended_own g [] = refl
ended_own g (e ∷ past) = step (ended_own g past) (e.guest == g) refl
  where
    no : (a : Bool) → (a && false) ≡ false
    no true = refl
    no false = refl

    step : has_ended (own_of g past) g ≡ has_ended past g → (b : Bool) → (e.guest == g) ≡ b → has_ended (cond b (e ∷ own_of g past) (own_of g past)) g ≡ ((is_end e.call && (e.guest == g)) || has_ended past g)
    step older true is = ap (λ z. (is_end e.call && (e.guest == g)) || z) older
    step older false is = older ∙ ap (λ z. z || has_ended past g) (sym (ap (λ z. is_end e.call && z) is ∙ no (is_end e.call)))

-- a guest that is live among its own entries is live
live_among : (g : ℕ) (history : List Entry) → IsTrue (is_live (newest_first (own_of g history)) g) → IsTrue (is_live (newest_first history) g)
live_among g history live =
    let past = newest_first history in
    let here : is_live (own_of g past) g ≡ true = subst (λ (l : List Entry). is_live l g ≡ true) (own_reverse g history) live in
    let parts = and_parts (list_any (λ b. b == g) (begun (own_of g past))) (not (has_ended (own_of g past) g)) here in
    both_true (live_begun g past parts.0) (ap not (sym (ended_own g past)) ∙ parts.1)

caller_among : (history : List Entry) (g : ℕ) (call : CacheCall) → IsCaller (newest_first (own_of g history)) g call → IsCaller (newest_first history) g call
caller_among history g Begin h = h
caller_among history g call h = live_among g history h

-- what its own entries allow a guest, the whole history allows
pub may_among : (history : List Entry) (g : ℕ) (call : CacheCall) → MayCall (own_of g history) g call → MayCall history g call
may_among history g call may = record { caller = caller_among history g call may.caller; limits = may.limits }
