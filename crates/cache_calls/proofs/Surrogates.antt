-- Surrogate keys, one after another.
use Rattle.std.proofs.Common.{◌≡◌, ◌∙◌, ℕ, ◌+◌, ◌<◌, ◌≤◌, Bool, true, false, ◌&&◌, List, [], ◌∷◌, ◌++◌, length, refl, arith, append-nil}
use Rattle.std.specs.Prelude.{filter, nat_le, sum_by}
use Rattle.std.specs.List.{list_all}
use Rattle.std.proofs.lemmas.Bool.{leb-true, le-leb, lt-leb}
use Rattle.std.proofs.lemmas.List.Folds.{list_all-append}
use Rattle.std.proofs.lemmas.List.Sums.{sum_by-append}
use Rattle.cache_types.specs.Limits.{is_surrogate, is_surrogates, surrogate_text_len}
use Rattle.vary_rules.specs.Rules.{is_some_word}
use Rattle.edge_http_calls.proofs.Kept.{both, first_of, second_of}

abbrev spaced : List (List ℕ) → ℕ
spaced keys = sum_by (λ key. length key + 1) keys

second_false : (a b : Bool) → b ≡ false → (a && b) ≡ false
second_false true b e = e
second_false false b e = refl

first_false : (a b : Bool) → a ≡ false → (a && b) ≡ false
first_false true b e = cc
first_false false b e = refl

-- ---- one more

pub no_word : (keys : List (List ℕ)) (word : List ℕ) → length word ≡ 0 → keys ++ filter is_some_word (word ∷ []) ≡ keys
no_word keys [] none = append-nil keys
no_word keys (byte ∷ word) none = absurd (omega (arith, none))

pub some_word : (word : List ℕ) → (length word ≡ 0 → ⊥) → filter is_some_word (word ∷ []) ≡ word ∷ []
some_word [] some = absurd (some refl)
some_word (byte ∷ word) some = refl

pub spaced_fits : (keys : List (List ℕ)) → is_surrogates keys ≡ true → sum_by (λ key. length key + 1) keys ≤ 16385
spaced_fits keys kept =
    let short : surrogate_text_len keys ≤ 16384 = leb-true (surrogate_text_len keys) 16384 (second_of (list_all is_surrogate keys) (nat_le (surrogate_text_len keys) 16384) kept) in
    omega (arith, short)

pub add_bad : (keys : List (List ℕ)) (word : List ℕ) → is_surrogate word ≡ false → is_surrogates (keys ++ word ∷ []) ≡ false
add_bad keys word bad =
    first_false (list_all is_surrogate (keys ++ word ∷ [])) (nat_le (surrogate_text_len (keys ++ word ∷ [])) 16384)
    (list_all-append is_surrogate keys (word ∷ []) ∙ second_false (list_all is_surrogate keys) (list_all is_surrogate (word ∷ [])) (rw bad refl))

pub add_long : (keys : List (List ℕ)) (word : List ℕ) → 16385 < spaced keys + (length word + 1) → is_surrogates (keys ++ word ∷ []) ≡ false
add_long keys word long =
    let sum : spaced (keys ++ word ∷ []) ≡ spaced keys + spaced (word ∷ []) = sum_by-append (λ key. length key + 1) keys (word ∷ []) in
    second_false (list_all is_surrogate (keys ++ word ∷ [])) (nat_le (surrogate_text_len (keys ++ word ∷ [])) 16384)
    (lt-leb (surrogate_text_len (keys ++ word ∷ [])) 16384 (omega (arith, long, sum)))

pub add_good : (keys : List (List ℕ)) (word : List ℕ) → is_surrogates keys ≡ true → is_surrogate word ≡ true → spaced keys + (length word + 1) ≤ 16385
    → is_surrogates (keys ++ word ∷ []) ≡ true
add_good keys word kept good short =
    let sum : spaced (keys ++ word ∷ []) ≡ spaced keys + spaced (word ∷ []) = sum_by-append (λ key. length key + 1) keys (word ∷ []) in
    let all : list_all is_surrogate keys ≡ true = first_of (list_all is_surrogate keys) (nat_le (surrogate_text_len keys) 16384) kept in
    both (list_all is_surrogate (keys ++ word ∷ [])) (nat_le (surrogate_text_len (keys ++ word ∷ [])) 16384)
    (list_all-append is_surrogate keys (word ∷ []) ∙ rw (all, good) refl)
    (le-leb (surrogate_text_len (keys ++ word ∷ [])) 16384 (omega (arith, short, sum)))
