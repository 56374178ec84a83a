-- The insertion that is found is the one of its object.
use Rattle.std.specs.Prelude.{◌≡◌, ℕ, ◌<◌, ◌≤◌, Bool, true, false, cond, ◌==◌, List, [], ◌∷◌, length, Option, Some, None}
use Rattle.std.specs.List.{cons_option, find, filter_map}
use Rattle.std.proofs.Common.{arith, ap, ◌∙◌, subst, eq-eqb, ne_eqb}
use Rattle.std.proofs.lemmas.Option.{same_Some, none-some}
use Rattle.cache_types.specs.declared.calls.Field.{Field}
use Rattle.cache_types.specs.declared.entries.Entry.{Entry}
use Rattle.cache_types.specs.Slots.{slot_for, same_slot}
use Rattle.cache_types.specs.Objects.{Insertion, insertion_of, insertion_at, insertions, slot_of, is_alive}
use Rattle.cache_types.specs.Found.{rules_of, last_in, first_alive, found}
use Rattle.cache_types.specs.Legal.{IsLegalPast}
use Rattle.cache_core.specs.Object.{Holds}
use Rattle.cache_core.proofs.Born.{find_holds, insertions_below, insertion_number}

newest_or_older : (p : Insertion → Bool) (n : ℕ) (o : Option Insertion) (rest : List Insertion) (made : Insertion) → Holds (λ (m : Insertion). m.object ≡ n) o → (find p rest ≡ Some made → find (λ (m : Insertion). m.object == made.object) rest ≡ Some made) → (find p rest ≡ Some made → made.object < n) → find p (cons_option o rest) ≡ Some made → find (λ (m : Insertion). m.object == made.object) (cons_option o rest) ≡ Some made
newest_or_older p n None rest made number older below is = older is
newest_or_older p n (Some m) rest made number older below is = by (p m) is
  where
    by : (b : Bool) → cond b (Some m) (find p rest) ≡ Some made → cond (m.object == made.object) (Some m) (find (λ (m : Insertion). m.object == made.object) rest) ≡ Some made
    by true e = ap (λ b. cond b (Some m) (find (λ (m : Insertion). m.object == made.object) rest)) (eq-eqb m.object made.object (ap (λ (x : Insertion). x.object) (same_Some m made e))) ∙ e
    by false e =
        let under = below e in
        ap (λ b. cond b (Some m) (find (λ (m : Insertion). m.object == made.object) rest)) (ne_eqb m.object made.object (λ same. omega (arith, same, under, number))) ∙ older e

pub found_insertion : (past : List Entry) → IsLegalPast past → (p : Insertion → Bool) (made : Insertion) → find p (insertions past) ≡ Some made → insertion_at past made.object ≡ Some made
found_insertion [] legal p made is = absurd (none-some made is)
found_insertion (e ∷ past) legal p made is =
    newest_or_older p e.number (insertion_of past e) (insertions past) made (insertion_number past e.number e.guest e.moment e.call e.reply) (found_insertion past legal.1 p made)
    (λ was. let below : made.object ≤ length past = subst (Holds (λ (m : Insertion). m.object ≤ length past)) was (find_holds _ p (insertions past) (insertions_below past legal.1)) in omega (arith, below, legal.0.number))
    is

first_of : (past : List Entry) (o : Option Insertion) (rest : List Insertion) (made : Insertion) (P : Type 0) → find (λ (m : Insertion). is_alive past m.object) (cons_option o rest) ≡ Some made → (o ≡ Some made → P) → (find (λ (m : Insertion). is_alive past m.object) rest ≡ Some made → P) → P
first_of past None rest made P is here there = there is
first_of past (Some m) rest made P is here there = by (is_alive past m.object) is
  where
    by : (b : Bool) → cond b (Some m) (find (λ (m : Insertion). is_alive past m.object) rest) ≡ Some made → P
    by true e = here e
    by false e = there e

first_found : (past : List Entry) → IsLegalPast past → (key : List ℕ) (headers : List Field) (rules : List (List (List ℕ))) (made : Insertion) → first_alive past key headers rules ≡ Some made → insertion_at past made.object ≡ Some made
first_found past legal key headers [] made is = absurd (none-some made is)
first_found past legal key headers (rule ∷ rules) made is =
    first_of past (last_in past (slot_for key rule headers)) (filter_map (λ r. last_in past (slot_for key r headers)) rules) made (insertion_at past made.object ≡ Some made) is
    (found_insertion past legal (λ (m : Insertion). same_slot (slot_of m) (slot_for key rule headers)) made)
    (first_found past legal key headers rules made)

-- what a lookup finds is the insertion of its object
pub found_is : (past : List Entry) → IsLegalPast past → (key : List ℕ) (headers : List Field) (made : Insertion) → found past key headers ≡ Some made → insertion_at past made.object ≡ Some made
found_is past legal key headers made is = first_found past legal key headers (rules_of past key) made is
