-- What stands at the next number is of no object.
use Rattle.std.specs.Prelude.{◌≡◌, ℕ, true, false, cond, ◌==◌, List, Some, is_some}
use Rattle.std.specs.BTreeMap.{is_at}
use Rattle.std.specs.Ordering.{nat_cmp}
use Rattle.std.specs.Cmp.{unsigned_ties}
use Rattle.std.proofs.Common.{arith, sym, ap, ◌∙◌, eqb-true}
use Rattle.std.proofs.lemmas.Bool.{false≢true}
use Rattle.cache_types.specs.declared.entries.Entry.{Entry}
use Rattle.cache_types.specs.Entries.{next_number}
use Rattle.cache_types.specs.Objects.{insertion_at, last_renewal, insertions}
use Rattle.cache_types.specs.Legal.{IsLegalPast}
use Rattle.cache_types.proofs.Lists.{by_test}
use Rattle.cache_index.specs.Stands.{Stands}
use Rattle.cache_objects.specs.declared.standing.Standing.{Standing}
use Rattle.cache_objects.specs.Standings.{standing_at}
use Rattle.cache_objects.specs.Guests.{list_at}
use Rattle.cache_purge.specs.Keys.{IsMore}
use Rattle.cache_core.specs.declared.parts.Parts.{Parts}
use Rattle.cache_core.specs.Object.{fate_of, object_at}
use Rattle.cache_core.specs.Knows.{Knows}
use Rattle.cache_core.proofs.Born.{not_made}
use Rattle.cache_core.proofs.Makers.{knows_same, no_object}

pub at_is : (n k : ℕ) → is_at (nat_cmp n) k ≡ (n == k)
at_is n k = sym (unsigned_ties n k)

-- no object has the next number
pub other_number : (past : List Entry) → IsLegalPast past → (n o : ℕ) → n ≡ next_number past → is_some (object_at past o) ≡ true → n == o ≡ false
other_number past legal n o number some =
    by_test (n == o)
    (λ same. absurd (false≢true (sym (ap is_some (no_object (insertion_at past o) (last_renewal past o) (fate_of past o) (not_made past legal o (omega (arith, number, eqb-true n o same))))) ∙ some)))
    (λ other. other)

-- the parts with something at the next number
pub knows_junk : (old new : Parts) (past : List Entry) (n : ℕ) (x : Standing) → (Stands old.index (insertions past) → Stands new.index (insertions past)) → ((q : ℕ) → standing_at new.objects q ≡ cond (is_at (nat_cmp n) q) (Some x) (standing_at old.objects q)) → ((q : ℕ) → list_at new.guests q ≡ list_at old.guests q) → IsMore old.bearers new.bearers → IsLegalPast past → n ≡ next_number past → Knows old past → Knows new past
knows_junk old new past n x stands objects guests more legal number knows =
    knows_same old new past stands
    (λ o some. objects o ∙ ap (λ b. cond b (Some x) (standing_at old.objects o)) (at_is n o ∙ other_number past legal n o number some))
    guests more knows
