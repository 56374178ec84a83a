-- In a legal history the entry with a number stands where the number says.
use Rattle.std.specs.Prelude.{◌≡◌, ℕ, ◌+◌, ◌-◌, ◌<◌, cond, ◌==◌, List, [], ◌∷◌, ◌++◌, length, reverse, Some, None, refl}
use Rattle.std.specs.List.{slice_get}
use Rattle.std.proofs.Common.{arith, zero, suc, sym, ap, ◌∙◌, eqb-true, eq-eqb, ne_eqb}
use Rattle.std.proofs.lemmas.List.{reverse-append, reverse-reverse, length-reverse}
use Rattle.cache_types.specs.declared.entries.Entry.{Entry}
use Rattle.cache_types.specs.Entries.{entry_at}
use Rattle.cache_types.specs.Legal.{IsLegalPast}
use Rattle.cache_types.proofs.Lists.{by_test}
use Rattle.std.proofs.lemmas.Bool.{eqb-false}

same_test : (a b c d : ℕ) → (a ≡ b → c ≡ d) → (c ≡ d → a ≡ b) → (a == b) ≡ (c == d)
same_test a b c d there back =
    by_test (a == b)
    (λ h. h ∙ sym (eq-eqb c d (there (eqb-true a b h))))
    (λ h. h ∙ sym (ne_eqb c d (λ e. eqb-false a b h (back e))))

get_push : {A : Type 0} (xs : List A) (x : A) (k : ℕ) → slice_get (xs ++ x ∷ []) k ≡ cond (length xs == k) (Some x) (slice_get xs k)
get_push [] x zero = refl
get_push [] x (suc k) = rw (ne_eqb 0 (suc k) (λ h. omega (arith, h))) refl
get_push (y ∷ ys) x zero = rw (ne_eqb (length (y ∷ ys)) 0 (λ h. omega (arith, h))) refl
get_push (y ∷ ys) x (suc k) =
    get_push ys x k
    ∙ ap (λ b. cond b (Some x) (slice_get ys k)) (same_test (length ys) k (length (y ∷ ys)) (suc k) (λ h. omega (arith, h)) (λ h. omega (arith, h)))

pub entry_index : (past : List Entry) → IsLegalPast past → (k : ℕ) → entry_at past (k + 1) ≡ slice_get (reverse past) k
entry_index [] h k = refl
entry_index (e ∷ past) h k =
    let number = h.0.number in
    let long = length-reverse past in
    ap (λ o. cond (e.number == k + 1) (Some e) o) (entry_index past h.1 k)
    ∙ ap (λ b. cond b (Some e) (slice_get (reverse past) k)) (same_test e.number (k + 1) (length (reverse past)) k (λ s. omega (arith, number, long, s)) (λ s. omega (arith, number, long, s)))
    ∙ sym (get_push (reverse past) e k) ∙ sym (ap (λ l. slice_get l k) (reverse-append (e ∷ []) past))

-- no entry has the number 0
pub none_at_zero : (past : List Entry) → IsLegalPast past → entry_at past 0 ≡ None
none_at_zero [] h = refl
none_at_zero (e ∷ past) h = rw (ne_eqb e.number 0 (λ s. omega (arith, h.0.number, s))) (none_at_zero past h.1)

pub entry_place : (entries : List Entry) → IsLegalPast (reverse entries) → (number : ℕ) → 0 < number → slice_get entries (number - 1) ≡ entry_at (reverse entries) number
entry_place entries h number more =
    let back : number - 1 + 1 ≡ number = omega (arith, more) in
    ap (λ l. slice_get l (number - 1)) (sym (reverse-reverse entries)) ∙ sym (entry_index (reverse entries) h (number - 1)) ∙ ap (entry_at (reverse entries)) back
