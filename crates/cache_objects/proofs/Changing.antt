-- Objects named one by one.
use Rattle.std.specs.Prelude.{◌≡◌, ℕ, ◌+◌, ◌<◌, Bool, true, false, ◌||◌, ◌==◌, List, [], ◌∷◌, take, length, Option, Some, None, option_map, refl, if◌then◌else◌}
use Rattle.std.specs.List.{list_any, slice_index_or}
use Rattle.std.proofs.Common.{ap, sym, add-one}
use Rattle.std.proofs.Math.Seq.{take-suc}
use Rattle.std.proofs.lemmas.List.Folds.{list_any-append}
use Rattle.cache_objects.specs.declared.standing.Standing.{Standing}
use Rattle.cache_objects.specs.Standings.{purged, left, changed_at}

-- a change that is made twice is made once
twice : (change : Standing → Standing) → ((m : Standing) → change (change m) ≡ change m) → (m : Option Standing) → option_map change (option_map change m) ≡ option_map change m
twice change same None = refl
twice change same (Some m) = ap Some (same m)

either : (change : Standing → Standing) → ((m : Standing) → change (change m) ≡ change m) → (a b : Bool) (m : Option Standing) → (if a || (b || false) then option_map change m else m) ≡ (if b || false then option_map change (if a then option_map change m else m) else (if a then option_map change m else m))
either change same true true m = sym (twice change same m)
either change same true false m = refl
either change same false true m = refl
either change same false false m = refl

-- one more of the objects that are named
pub changed_more : (change : Standing → Standing) → ((m : Standing) → change (change m) ≡ change m) → (named : List ℕ) (i d q : ℕ) (m : Option Standing) → i < length named → changed_at change (take (i + 1) named) q m ≡ changed_at change (slice_index_or named i d ∷ []) q (changed_at change (take i named) q m)
changed_more change same named i d q m within =
    let x = slice_index_or named i d in
    rw (add-one, take-suc named i d within, list_any-append (λ n. n == q) (take i named) (x ∷ []))
    (either change same (list_any (λ n. n == q) (take i named)) (x == q) m)

pub purged_twice : (soft : Bool) (m : Standing) → purged soft (purged soft m) ≡ purged soft m
purged_twice true m = refl
purged_twice false m = refl

pub left_twice : (m : Standing) → left (left m) ≡ left m
left_twice m = by (m.finished) refl
  where
    by : (b : Bool) → m.finished ≡ b → left (left m) ≡ left m
    by true e = rw e refl
    by false e = rw e refl
