-- Which of the objects that are named have a surrogate key now.
use Rattle.std.specs.Prelude.{◌≡◌, ℕ, ◌+◌, ◌<◌, Bool, true, false, ◌&&◌, ◌||◌, ◌==◌, List, [], ◌∷◌, ◌++◌, take, length, Option, Some, None, refl}
use Rattle.std.specs.List.{slice_index_or}
use Rattle.std.proofs.Common.{sym, ap, ◌∙◌, subst, add-one, eqb-true}
use Rattle.std.proofs.Math.Seq.{take-suc}
use Rattle.std.proofs.lemmas.List.Folds.{list_any-append}
use Rattle.cache_types.specs.declared.entries.Entry.{Entry}
use Rattle.cache_types.specs.Objects.{has_key}
use Rattle.cache_core.specs.Object.{Object, object_at, Holds, Each}
use Rattle.cache_core.specs.Knows.{is_named, IsNamed}
use Rattle.cache_purge.specs.Keys.{KeyMap, named_at}

-- these are those of the candidates whose terms have the key
abbrev pub AreBearers : List ℕ → List ℕ → List ℕ → List Entry → Type 0
AreBearers bearers candidates key past = Each (λ o (x : Object). is_named o bearers ≡ (is_named o candidates && has_key x.renewal.terms.surrogates key)) past

added : (at walked k : Bool) (n : Bool) → n ≡ (walked && k) → (at ≡ true → true ≡ k) → (n || (at || false)) ≡ ((walked || (at || false)) && k)
added true true true n is same = rw is refl
added true true false n is same = let no : true ≡ false = same refl in cc
added true false true n is same = rw is refl
added true false false n is same = let no : true ≡ false = same refl in cc
added false true true n is same = rw is refl
added false true false n is same = rw is refl
added false false k n is same = rw is refl

skipped : (at walked k : Bool) (n : Bool) → n ≡ (walked && k) → (at ≡ true → false ≡ k) → n ≡ ((walked || (at || false)) && k)
skipped true true true n is same = let no : false ≡ true = same refl in cc
skipped true true false n is same = is
skipped true false true n is same = let no : false ≡ true = same refl in cc
skipped true false false n is same = is
skipped false true k n is same = is
skipped false false k n is same = is

walked_more : (candidates : List ℕ) (i d o : ℕ) → i < length candidates → is_named o (take (i + 1) candidates) ≡ (is_named o (take i candidates) || ((slice_index_or candidates i d == o) || false))
walked_more candidates i d o within = rw (add-one, take-suc candidates i d within) (list_any-append (λ n. n == o) (take i candidates) (slice_index_or candidates i d ∷ []))

-- at the candidate, the test says whether the terms have the key
at_candidate : (past : List Entry) (key : List ℕ) (n o : ℕ) (b : Bool) (x : Object) → Holds (λ (y : Object). b ≡ has_key y.renewal.terms.surrogates key) (object_at past n) → object_at past o ≡ Some x → n == o ≡ true → b ≡ has_key x.renewal.terms.surrogates key
at_candidate past key n o b x bears is at = subst (Holds (λ (y : Object). b ≡ has_key y.renewal.terms.surrogates key)) (ap (object_at past) (eqb-true n o at) ∙ is) bears

pub bearer_added : (bearers candidates key : List ℕ) (past : List Entry) (i d : ℕ) → i < length candidates → Holds (λ (y : Object). true ≡ has_key y.renewal.terms.surrogates key) (object_at past (slice_index_or candidates i d)) → AreBearers bearers (take i candidates) key past → AreBearers (bearers ++ slice_index_or candidates i d ∷ []) (take (i + 1) candidates) key past
bearer_added bearers candidates key past i d within bears are o = by (object_at past o) refl (are o)
  where
    by : (x : Option Object) → object_at past o ≡ x → Holds (λ (x : Object). is_named o bearers ≡ (is_named o (take i candidates) && has_key x.renewal.terms.surrogates key)) x → Holds (λ (x : Object). is_named o (bearers ++ slice_index_or candidates i d ∷ []) ≡ (is_named o (take (i + 1) candidates) && has_key x.renewal.terms.surrogates key)) x
    by None is h = tt
    by (Some x) is h =
        list_any-append (λ n. n == o) bearers (slice_index_or candidates i d ∷ [])
        ∙ added (slice_index_or candidates i d == o) (is_named o (take i candidates)) (has_key x.renewal.terms.surrogates key) (is_named o bearers) h (at_candidate past key (slice_index_or candidates i d) o true x bears is)
        ∙ ap (λ w. w && has_key x.renewal.terms.surrogates key) (sym (walked_more candidates i d o within))

pub bearer_skipped : (bearers candidates key : List ℕ) (past : List Entry) (i d : ℕ) → i < length candidates → Holds (λ (y : Object). false ≡ has_key y.renewal.terms.surrogates key) (object_at past (slice_index_or candidates i d)) → AreBearers bearers (take i candidates) key past → AreBearers bearers (take (i + 1) candidates) key past
bearer_skipped bearers candidates key past i d within bears are o = by (object_at past o) refl (are o)
  where
    by : (x : Option Object) → object_at past o ≡ x → Holds (λ (x : Object). is_named o bearers ≡ (is_named o (take i candidates) && has_key x.renewal.terms.surrogates key)) x → Holds (λ (x : Object). is_named o bearers ≡ (is_named o (take (i + 1) candidates) && has_key x.renewal.terms.surrogates key)) x
    by None is h = tt
    by (Some x) is h =
        skipped (slice_index_or candidates i d == o) (is_named o (take i candidates)) (has_key x.renewal.terms.surrogates key) (is_named o bearers) h (at_candidate past key (slice_index_or candidates i d) o false x bears is)
        ∙ ap (λ w. w && has_key x.renewal.terms.surrogates key) (sym (walked_more candidates i d o within))

pub none_yet : (key : List ℕ) (past : List Entry) → AreBearers [] [] key past
none_yet key past o = by (object_at past o)
  where
    by : (x : Option Object) → Holds (λ (x : Object). is_named o [] ≡ (is_named o [] && has_key x.renewal.terms.surrogates key)) x
    by None = tt
    by (Some x) = refl

all_named : (n k : Bool) → (k ≡ true → n ≡ true) → (n && k) ≡ k
all_named true k h = refl
all_named false true h = let no : false ≡ true = h refl in cc
all_named false false h = refl

-- where the candidates are those of the key's list, they are all objects that have the key
pub all_bearers : (bearers key : List ℕ) (keys : KeyMap) (past : List Entry) → AreBearers bearers (named_at keys key) key past → Each (IsNamed keys key) past → Each (λ o (x : Object). is_named o bearers ≡ has_key x.renewal.terms.surrogates key) past
all_bearers bearers key keys past are named o = by (object_at past o) (are o) (named o)
  where
    by : (x : Option Object) → Holds (λ (x : Object). is_named o bearers ≡ (is_named o (named_at keys key) && has_key x.renewal.terms.surrogates key)) x → Holds (IsNamed keys key o) x → Holds (λ (x : Object). is_named o bearers ≡ has_key x.renewal.terms.surrogates key) x
    by None a n = tt
    by (Some x) a n = a ∙ all_named (is_named o (named_at keys key)) (has_key x.renewal.terms.surrogates key) n
