-- One object more in the list of a key.
use Rattle.std.specs.Prelude.{◌≡◌, ℕ, ◌+◌, ◌<◌, Bool, true, false, cond, ◌||◌, ◌==◌, List, [], ◌∷◌, ◌++◌, take, length, Some, refl, bytes_eq}
use Rattle.std.specs.Global.{Vec}
use Rattle.std.specs.List.{slice_index_or}
use Rattle.std.specs.BTreeMap.{get, is_at}
use Rattle.std.specs.declared.cmp.Ordering.{Ordering}
use Rattle.std.specs.declared.cmp.Ordering.TheVariants.{Less, Equal, Greater}
use Rattle.std.specs.Ordering.{nat_cmp, is_eq}
use Rattle.std.specs.Cmp.Lexicographic.{slice_cmp, texts_ties}
use Rattle.std.proofs.Common.{sym, ap, ◌∙◌, add-one, eq-eqb}
use Rattle.std.proofs.Math.Seq.{take-suc}
use Rattle.std.proofs.lemmas.Bool.{or_left, or_right}
use Rattle.std.proofs.lemmas.List.Folds.{list_any-append}
use Rattle.std.proofs.lemmas.Map.Lookups.{exact_bytes}
use Rattle.cache_types.specs.Objects.{has_key}
use Rattle.cache_purge.specs.Keys.{KeyMap, items_of, named_at, is_named, IsMore}

equal_from_is_eq : (o : Ordering) → is_eq o ≡ true → o ≡ Equal
equal_from_is_eq Less h = cc
equal_from_is_eq Equal h = refl
equal_from_is_eq Greater h = cc

abbrev pub text_cmp : List ℕ → List ℕ → Ordering
text_cmp = slice_cmp nat_cmp

-- the object is named behind the others
pub pushed : (list : List ℕ) (object : ℕ) → is_named object (list ++ object ∷ []) ≡ true
pushed list object = list_any-append (λ n. n == object) list (object ∷ []) ∙ or_right (is_named object list) ((object == object) || false) (or_left (object == object) false (eq-eqb object object refl))

-- and the others stay named
pub stays_pushed : (list : List ℕ) (object other : ℕ) → is_named other list ≡ true → is_named other (list ++ object ∷ []) ≡ true
stays_pushed list object other is = list_any-append (λ n. n == other) list (object ∷ []) ∙ or_left (is_named other list) ((object == other) || false) is

-- the key's list is replaced by one that names at least as much
pub more_by : (old new : KeyMap) (key : List ℕ) (w : Vec ℕ) → ((q : List ℕ) → get text_cmp new q ≡ cond (is_at (text_cmp key) q) (Some w) (get text_cmp old q)) → ((o : ℕ) → is_named o (named_at old key) ≡ true → is_named o w.items ≡ true) → IsMore old new
more_by old new key w updates keeps q o is = ap (λ l. is_named o (items_of l)) (updates q) ∙ with (is_at (text_cmp key) q) refl
  where
    with : (b : Bool) → is_at (text_cmp key) q ≡ b → is_named o (items_of (cond b (Some w) (get text_cmp old q))) ≡ true
    with true h = keeps o (ap (λ k. is_named o (named_at old k)) (exact_bytes key q (equal_from_is_eq (text_cmp key q) h)) ∙ is)
    with false h = is

-- keys that are equal byte by byte, or not
same_bytes : (b : Bool) (key x : List ℕ) (rest : Bool) (P : Type 0) → bytes_eq key x ≡ b → (b || rest) ≡ true → (key ≡ x → P) → (rest ≡ true → P) → P
same_bytes true key x rest P is h here there = here (exact_bytes key x (equal_from_is_eq (text_cmp key x) (sym (texts_ties key x) ∙ is)))
same_bytes false key x rest P is h here there = there h

-- a key stands among the others, or it is the last one
key_behind : (keys : List (List ℕ)) (x key : List ℕ) (P : Type 0) → has_key (keys ++ x ∷ []) key ≡ true → (has_key keys key ≡ true → P) → (key ≡ x → P) → P
key_behind keys x key P is there here = by (has_key keys key) refl (sym (list_any-append (bytes_eq key) keys (x ∷ [])) ∙ is)
  where
    by : (b : Bool) → has_key keys key ≡ b → (b || (bytes_eq key x || false)) ≡ true → P
    by true h k = there h
    by false h k = same_bytes (bytes_eq key x) key x false P refl k here (λ f. cc)

-- one key more of those that were walked
pub named_more : (keys : List (List ℕ)) (i : ℕ) (d : List ℕ) (object : ℕ) (old new : KeyMap) → i < length keys → ((key : List ℕ) → has_key (take i keys) key ≡ true → is_named object (named_at old key) ≡ true) → IsMore old new → is_named object (named_at new (slice_index_or keys i d)) ≡ true → (key : List ℕ) → has_key (take (i + 1) keys) key ≡ true → is_named object (named_at new key) ≡ true
named_more keys i d object old new within sofar more here key is =
    key_behind (take i keys) (slice_index_or keys i d) key _ (ap (λ l. has_key l key) (sym (rw (add-one) (take-suc keys i d within))) ∙ is)
    (λ h. more key object (sofar key h))
    (λ same. ap (λ k. is_named object (named_at new k)) same ∙ here)
