-- A guest that ended has no later entries, and guest 0 has none. `past` has the newest entry first.
use Rattle.std.proofs.Common.{◌≡◌, ◌≢◌, ℕ, Bool, true, false, true≢false, cond, not, ◌&&◌, ◌||◌, ◌==◌, if◌then◌else◌, List, [], ◌∷◌, ◌++◌, None, Some, refl, sym, ap, ◌∙◌, subst, arith, ne_eqb}
use Rattle.std.specs.List.{list_any, cons_option, AllByRecursion}
use mathlib.Core.List.{IsPrefix}
use Rattle.std.proofs.lemmas.Bool.{and_parts, or_right}
use Rattle.std.proofs.lemmas.Bool.Decides.{nat_tests}
use Rattle.std.proofs.lemmas.List.{reverse-append, reverse-reverse}
use Rattle.cache_types.specs.declared.calls.CacheCall.{CacheCall}
use Rattle.cache_types.specs.declared.calls.CacheCall.TheVariants.{Begin}
use Rattle.cache_types.specs.declared.entries.Entry.{Entry}
use Rattle.cache_types.specs.Entries.{newest_first, begun, is_begin, is_end, has_ended, next_number}
use Rattle.cache_types.specs.Legal.{IsGuest, IsLegalPast, IsLegal}
use Rattle.cache_types.proofs.Openings.{guests_began}
use Rattle.cache_hub.specs.Calls.{own_of}
use Rattle.cache_hub.proofs.Guests.{begun_bound, own_reverse}

abbrev has_begun : List Entry → ℕ → Bool
has_begun past guest = list_any (λ b. b == guest) (begun past)

ended_more : (past more : List Entry) (g : ℕ) → has_ended past g ≡ true → has_ended (more ++ past) g ≡ true
ended_more past [] g h = h
ended_more past (e ∷ more) g h = or_right (is_end e.call && (e.guest == g)) (has_ended (more ++ past) g) (ended_more past more g h)

ended_began : (past rest : List Entry) (g : ℕ) → AllByRecursion (λ (x : Entry). has_begun past x.guest ≡ true) rest → has_ended rest g ≡ true → has_begun past g ≡ true
ended_began past [] g all h = absurd (true≢false (sym h))
ended_began past (x ∷ rest) g all h = step (ended_began past rest g all.1) (x.guest == g) refl (is_end x.call) h
  where
    step : (has_ended rest g ≡ true → has_begun past g ≡ true) → (b : Bool) → (x.guest == g) ≡ b → (a : Bool) → ((a && (x.guest == g)) || has_ended rest g) ≡ true → has_begun past g ≡ true
    step older true same a h = let p : x.guest ≡ g = grind (arith, nat_tests) in subst (λ n. has_begun past n ≡ true) p all.0
    step older false other true h = older (subst (λ b. (b || has_ended rest g) ≡ true) other h)
    step older false other false h = older h

next_other : (past : List Entry) (e : Entry) (call : CacheCall) (g : ℕ) → IsGuest past e call → e.number ≡ next_number past → IsLegalPast past → has_ended past g ≡ true → e.guest ≢ g
next_other past e Begin g guest number legal ended same =
    let p = begun_bound past legal g (ended_began past past g (guests_began past legal) ended) in
    absurd (omega (arith, guest, number, same))
next_other past e call g guest number legal ended same =
    let gone = (and_parts (has_begun past e.guest) (not (has_ended past e.guest)) guest).1 in
    let is : has_ended past e.guest ≡ true = subst (λ n. has_ended past n ≡ true) (sym same) ended in
    absurd (true≢false (sym gone ∙ ap not is))

still_own : (past more : List Entry) (g : ℕ) → IsLegalPast (more ++ past) → has_ended past g ≡ true → own_of g (more ++ past) ≡ own_of g past
still_own past [] g legal ended = refl
still_own past (e ∷ more) g legal ended =
    let other : e.guest ≢ g = next_other (more ++ past) e e.call g legal.0.guest legal.0.number legal.1 (ended_more past more g ended) in
    let no : (e.guest == g) ≡ false = ne_eqb e.guest g other in
    ap (λ b. cond b (e ∷ own_of g (more ++ past)) (own_of g (more ++ past))) no ∙ still_own past more g legal.1 ended

zero_begun : (past : List Entry) → IsLegalPast past → has_begun past 0 ≡ true → ⊥
zero_begun [] legal h = true≢false (sym h)
zero_begun (e ∷ past) legal h = step e.number e.call legal.0.number (zero_begun past legal.1) h
  where
    step : (n : ℕ) (call : CacheCall) → n ≡ next_number past → (has_begun past 0 ≡ true → ⊥) → list_any (λ b. b == 0) (cons_option (if is_begin call then Some n else None) (begun past)) ≡ true → ⊥
    step n Begin is older h = by (n == 0) refl h
      where
        by : (b : Bool) → (n == 0) ≡ b → (b || has_begun past 0) ≡ true → ⊥
        by true same h = let p : n ≡ 0 = grind (arith, nat_tests) in absurd (omega (arith, is, p))
        by false other h = older h
    step n call is older h = older h

zero_guest : (past : List Entry) (e : Entry) (call : CacheCall) → IsGuest past e call → e.number ≡ next_number past → IsLegalPast past → e.guest ≢ 0
zero_guest past e Begin guest number legal same = absurd (omega (arith, guest, number, same))
zero_guest past e call guest number legal same =
    zero_begun past legal (subst (λ n. has_begun past n ≡ true) same (and_parts (has_begun past e.guest) (not (has_ended past e.guest)) guest).0)

no_guest : (past : List Entry) → IsLegalPast past → own_of 0 past ≡ []
no_guest [] legal = refl
no_guest (e ∷ past) legal =
    let no : (e.guest == 0) ≡ false = ne_eqb e.guest 0 (zero_guest past e e.call legal.0.guest legal.0.number legal.1) in
    ap (λ b. cond b (e ∷ own_of 0 past) (own_of 0 past)) no ∙ no_guest past legal.1

-- the same of histories in their order
pub ended_whole : (seen history : List Entry) (g : ℕ) → IsLegal history → IsPrefix seen history → has_ended (newest_first seen) g ≡ true → own_of g history ≡ own_of g seen
ended_whole seen history g legal longer ended =
    let past = newest_first seen in
    let more = newest_first longer.0 in
    let all : newest_first history ≡ more ++ past = ap newest_first (sym longer.1) ∙ reverse-append seen longer.0 in
    let same : own_of g (newest_first history) ≡ own_of g past = ap (own_of g) all ∙ still_own past more g (subst IsLegalPast all legal) ended in
    let turned : newest_first (own_of g history) ≡ newest_first (own_of g seen) = own_reverse g history ∙ (same ∙ sym (own_reverse g seen)) in
    sym (reverse-reverse (own_of g history)) ∙ (ap newest_first turned ∙ reverse-reverse (own_of g seen))

pub zero_none : (history : List Entry) → IsLegal history → own_of 0 history ≡ []
zero_none history legal =
    let turned : newest_first (own_of 0 history) ≡ [] = own_reverse 0 history ∙ no_guest (newest_first history) legal in
    sym (reverse-reverse (own_of 0 history)) ∙ ap newest_first turned
