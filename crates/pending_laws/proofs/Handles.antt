-- What a number names in a table that was changed.
use Rattle.std.proofs.Common.{◌≡◌, ◌∙◌, ◌⊎◌, inl, inr, ℕ, zero, suc, ◌+◌, ◌-◌, ◌<◌, ◌≤◌, List, [], ◌∷◌, ◌++◌, length, refl, sym, ap, subst, arith}
use Rattle.std.specs.Prelude.{Option, None, Some, slice_get, slice_set}
use Rattle.std.proofs.lemmas.Bool.{ne_eqb, cases_eq}
use Rattle.edge_abi.specs.Tables.{item_in, held, taken, changed_from, changed}

pub either : {P Q R : Type 0} → P ⊎ Q → (P → R) → (Q → R) → R
either (inl p) f g = f p
either (inr q) f g = g q

-- ---- lists

get_set : {A : Type 0} (xs : List A) (i j : ℕ) (y : A) → (i ≡ j → ⊥) → slice_get (slice_set xs i y) j ≡ slice_get xs j
get_set [] i j y n = refl
get_set (x ∷ xs) zero zero y n = absurd (n refl)
get_set (x ∷ xs) zero (suc j) y n = refl
get_set (x ∷ xs) (suc i) zero y n = refl
get_set (x ∷ xs) (suc i) (suc j) y n = get_set xs i j y (λ e. n (ap suc e))

put_there : {A : Type 0} (xs : List A) (i : ℕ) (y z : A) → slice_get (slice_set xs i y) i ≡ Some z → z ≡ y
put_there [] i y z e = absurd (cc e)
put_there (x ∷ xs) zero y z e = cc e
put_there (x ∷ xs) (suc i) y z e = put_there xs i y z e

get_more : {A : Type 0} (xs : List A) (i : ℕ) (y z : A) → slice_get (xs ++ y ∷ []) i ≡ Some z → (slice_get xs i ≡ Some z) ⊎ ((i ≡ length xs) × (z ≡ y))
get_more [] zero y z e = inr (refl, cc e)
get_more [] (suc i) y z e = absurd (cc e)
get_more (x ∷ xs) zero y z e = inl e
get_more (x ∷ xs) (suc i) y z e = either (get_more xs i y z e) (λ at. inl at) (λ last. inr (ap suc last.0, last.1))

-- ---- numbers and what they name

module _ {T : Type 0} where
  item_is : (o : Option (Option T)) (x : T) → item_in o ≡ Some x → o ≡ Some (Some x)
  item_is None x e = absurd (cc e)
  item_is (Some item) x e = ap Some e

  held_at : (table : List (Option T)) (h : ℕ) → 0 < h → held table h ≡ item_in (slice_get table (h - 1))
  held_at table h some = rw (ne_eqb h 0 (λ e. omega (arith, some, e))) refl

  none_at : (table : List (Option T)) (h : ℕ) (x : T) → h ≡ 0 → held table h ≡ Some x → ⊥
  none_at table h x zero_is e = cc (subst (λ (k : ℕ). held table k ≡ Some x) zero_is e)

  pub held_is : (table : List (Option T)) (h : ℕ) (x : T) → held table h ≡ Some x → (0 < h) × (slice_get table (h - 1) ≡ Some (Some x))
  held_is table h x e =
      either (cases_eq h 0) (λ z. absurd (none_at table h x z e))
      (λ n. let some : 0 < h = omega (arith, n) in (some, item_is (slice_get table (h - 1)) x (sym (held_at table h some) ∙ e)))

  held_from : (table : List (Option T)) (h : ℕ) (x : T) → 0 < h → slice_get table (h - 1) ≡ Some (Some x) → held table h ≡ Some x
  held_from table h x some e = held_at table h some ∙ ap item_in e

  -- a number in a table with another item somewhere
  set_is : (table : List (Option T)) (h k : ℕ) (item : Option T) (x : T) → 0 < h → held (slice_set table (h - 1) item) k ≡ Some x
      → ((k ≡ h) × (item ≡ Some x)) ⊎ ((held table k ≡ Some x) × (k ≡ h → ⊥))
  set_is table h k item x some e =
      let at = held_is (slice_set table (h - 1) item) k x e in
      either (cases_eq k h)
      (λ same. inl (same, sym (put_there table (h - 1) item (Some x) (subst (λ (i : ℕ). slice_get (slice_set table (h - 1) item) (i - 1) ≡ Some (Some x)) same at.1))))
      (λ other.
      let apart : h - 1 ≡ k - 1 → ⊥ = λ q. other (omega (arith, some, at.0, q)) in
      inr (held_from table k x at.0 (sym (get_set table (h - 1) (k - 1) item apart) ∙ at.1), other))

  pub taken_is : (table : List (Option T)) (h k : ℕ) (x : T) → held (taken table h) k ≡ Some x → (held table k ≡ Some x) × (k ≡ h → ⊥)
  taken_is table h k x e =
      either (cases_eq h 0)
      (λ z.
      let same : taken table h ≡ table = rw z refl in
      let old : held table k ≡ Some x = subst (λ (l : List (Option T)). held l k ≡ Some x) same e in
      (old, λ q. none_at table k x (q ∙ z) old))
      (λ n.
      let set : taken table h ≡ slice_set table (h - 1) None = rw (ne_eqb h 0 n) refl in
      either (set_is table h k None x (omega (arith, n)) (subst (λ (l : List (Option T)). held l k ≡ Some x) set e))
      (λ here. absurd (cc here.1))
      (λ there. there))

  pub changed_is : (change : T → T) (table : List (Option T)) (h k : ℕ) (x : T) → held (changed change table h) k ≡ Some x
      → ((k ≡ h) × ((old : T) × (x ≡ change old))) ⊎ ((held table k ≡ Some x) × (k ≡ h → ⊥))
  changed_is change table h k x e = with (held table h) refl e
    where
      with : (found : Option T) → held table h ≡ found → held (changed_from found change table h) k ≡ Some x → ((k ≡ h) × ((old : T) × (x ≡ change old))) ⊎ ((held table k ≡ Some x) × (k ≡ h → ⊥))
      with None is e = inr (e, λ same. cc (subst (λ (i : ℕ). held table i ≡ Some x) same e, is))
      with (Some old) is e =
          either (set_is table h k (Some (change old)) x (held_is table h old is).0 e) (λ here. inl (here.0, (old, cc here.1))) (λ there. inr there)

  pub more_is : (table : List (Option T)) (k : ℕ) (y x : T) → held (table ++ Some y ∷ []) k ≡ Some x → ((k ≡ length table + 1) × (x ≡ y)) ⊎ (held table k ≡ Some x)
  more_is table k y x e =
      let at = held_is (table ++ Some y ∷ []) k x e in
      either (get_more table (k - 1) (Some y) (Some x) at.1) (λ old. inr (held_from table k x at.0 old)) (λ last. inl (omega (arith, at.0, last.0), cc last.1))

  pub past_end : (table : List (Option T)) (x : T) → held table (length table + 1) ≡ Some x → ⊥
  past_end table x e =
      let at = held_is table (length table + 1) x e in
      no_more table (length table + 1 - 1) (Some x) (omega arith) at.1
    where
      no_more : (l : List (Option T)) (i : ℕ) (y : Option T) → length l ≤ i → slice_get l i ≡ Some y → ⊥
      no_more [] i y past e = cc e
      no_more (z ∷ l) zero y past e = omega (arith, past)
      no_more (z ∷ l) (suc i) y past e = no_more l i y (omega (arith, past)) e
