-- A read that failed is counted, whatever reads were made before it.
use Rattle.std.proofs.Common.{ℕ, ◌≤◌, List, [], refl, arith, Result, Err, Option, inl, inr}
use Rattle.std.proofs.lemmas.Bool.{cases_lt}
use Rattle.edge_outside.specs.declared.fault.Failed.{Failed}
use Rattle.edge_outside.specs.Faults.{Rose, last_count}
use Rattle.edge_outside.specs.Source.{SourceContent}
use Rattle.edge_outside.specs.Reads.{OneRead, Reads, none, more, failed}
use Rattle.http_front.specs.Gives.{StopsAt}

-- a count doesn't fall over reads
later : {S : Type 0} (reads : S → ℕ → Result (List ℕ) Failed → S → Type 0) (count : S → ℕ) (told : S → Option SourceContent) (Open : List ℕ → Type 0)
    (old : S) (had known : List ℕ) (new : S) → Reads (OneRead reads count told) Open old had known new → count old ≤ count new
later reads count told Open old had _ _ none = omega arith
later reads count told Open old had _ _ (more known piece mid new r o some step) =
    omega (arith, later reads count told Open old had known mid r, step.faults.later)

rose_later : (a b c : ℕ) → a ≤ b → Rose b c → Rose a c
rose_later a b c first (inl up) = inl (omega (arith, first, up))
rose_later a b c first (inr (stays, last)) =
    elim (cases_lt a last_count) [
      | inl below ↦ inl (omega (arith, below, last))
      | inr at ↦ inr (omega (arith, at, first, stays), last)
    ]

pub rose_at : {S : Type 0} (reads : S → ℕ → Result (List ℕ) Failed → S → Type 0) (count : S → ℕ) (told : S → Option SourceContent) (Open : List ℕ → Type 0)
    (old new : S) (P : List ℕ → Type 0) → StopsAt (OneRead reads count told) Open old (Err failed) P new → Rose (count old) (count new)
rose_at reads count told Open old new P (known, until, p) =
    rose_later (count old) (count until.mid) (count new) (later reads count told Open old [] known until.mid until.before) (until.last.faults.rose refl)
