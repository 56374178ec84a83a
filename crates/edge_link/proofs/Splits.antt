-- It is decided which texts are of some form, and which parts a list has of which something holds.
use Rattle.std.proofs.Common.{◌≡◌, ◌⊎◌, inl, inr, ℕ, zero, suc, ◌<◌, ◌≤◌, ◌==◌, Bool, true, false, List, [], ◌∷◌, ◌++◌, length, All, refl, sym, ◌∙◌, ap, subst, arith, length-append}
use Rattle.std.specs.Prelude.{nat_lt, nat_le}
use Rattle.std.specs.List.{flat_map}
use Rattle.std.proofs.lemmas.Bool.{eqb-true, eq-eqb, ltb-true, lt-ltb, leb-true, le-leb}
use Rattle.std.proofs.lemmas.List.Concat.{flat_map-cons}
use Rattle.std.proofs.lemmas.List.Elements.{All-nil, All-cons, All-head, All-tail}

abbrev pub Decided : Type 0 → Type 0
Decided P = P ⊎ (P → ⊥)

pub either : {P Q R : Type 0} → P ⊎ Q → (P → R) → (Q → R) → R
either (inl p) f g = f p
either (inr q) f g = g q

-- what decides one thing decides another that is the same
pub same_decided : {P Q : Type 0} → (P → Q) → (Q → P) → Decided P → Decided Q
same_decided to from (inl p) = inl (to p)
same_decided to from (inr n) = inr (λ q. n (from q))

pub both_decided : {P Q : Type 0} → Decided P → Decided Q → Decided (P × Q)
both_decided (inl p) (inl q) = inl (p, q)
both_decided (inl p) (inr n) = inr (λ x. n x.1)
both_decided (inr n) d = inr (λ x. n x.0)

pub true_decided : (b : Bool) → Decided (b ≡ true)
true_decided true = inl refl
true_decided false = inr (λ e. cc e)

pub less_decided : (m n : ℕ) → Decided (m < n)
less_decided m n = same_decided (ltb-true m n) (lt-ltb m n) (true_decided (nat_lt m n))

pub most_decided : (m n : ℕ) → Decided (m ≤ n)
most_decided m n = same_decided (leb-true m n) (le-leb m n) (true_decided (nat_le m n))

pub number_decided : (m n : ℕ) → Decided (m ≡ n)
number_decided m n = same_decided (eqb-true m n) (eq-eqb m n) (true_decided (m == n))

pub text_decided : (a b : List ℕ) → Decided (a ≡ b)
text_decided [] [] = inl refl
text_decided [] (y ∷ b) = inr (λ e. cc e)
text_decided (x ∷ a) [] = inr (λ e. cc e)
text_decided (x ∷ a) (y ∷ b) =
    same_decided {P = (x ≡ y) × (a ≡ b)} (λ e. cc (e.0, e.1)) (λ e. (cc e, cc e)) (both_decided (number_decided x y) (text_decided a b))

module _ {A : Type 0} (P : A → Type 0) (decides : (x : A) → Decided (P x)) where
  pub all_decided : (xs : List A) → Decided (All P xs)
  all_decided [] = inl (All-nil P)
  all_decided (x ∷ xs) = same_decided {P = P x × All P xs} (λ e. All-cons P x xs e.0 e.1) (λ e. (All-head P x xs e, All-tail P x xs e)) (both_decided (decides x) (all_decided xs))

-- ---- two parts

-- a list in two parts of which something holds
pub record Split (P : List ℕ → List ℕ → Type 0) (bytes : List ℕ) : Type 0 where
  pub first : List ℕ
  pub rest : List ℕ
  pub whole : bytes ≡ first ++ rest
  pub holds : P first rest

none_split : (P : List ℕ → List ℕ → Type 0) → (P [] [] → ⊥) → (a b : List ℕ) → [] ≡ a ++ b → P a b → ⊥
none_split P n [] [] e p = n p
none_split P n [] (y ∷ b) e p = cc e
none_split P n (y ∷ a) b e p = cc e

more_split : (P : List ℕ → List ℕ → Type 0) (x : ℕ) (xs : List ℕ) → (P [] (x ∷ xs) → ⊥) → (Split (λ a b. P (x ∷ a) b) xs → ⊥) → (a b : List ℕ) → x ∷ xs ≡ a ++ b → P a b → ⊥
more_split P x xs n m [] b e p = n (subst (λ ys. P [] ys) (sym e) p)
more_split P x xs n m (y ∷ a) b e p =
    let same : x ≡ y = cc e in
    let tail : xs ≡ a ++ b = cc e in
    m (record { first = a; rest = b; whole = tail; holds = subst (λ z. P (z ∷ a) b) (sym same) p })

pub split_decided : (P : List ℕ → List ℕ → Type 0) → ((a b : List ℕ) → Decided (P a b)) → (bytes : List ℕ) → Decided (Split P bytes)
split_decided P d [] =
    either (d [] []) (λ p. inl (record { first = []; rest = []; whole = refl; holds = p })) (λ n. inr (λ s. none_split P n s.first s.rest s.whole s.holds))
split_decided P d (x ∷ xs) =
    either (d [] (x ∷ xs))
    (λ p. inl (record { first = []; rest = x ∷ xs; whole = refl; holds = p }))
    (λ n. either (split_decided (λ a b. P (x ∷ a) b) (λ a b. d (x ∷ a) b) xs)
    (λ s. inl (record { first = x ∷ s.first; rest = s.rest; whole = ap (λ ys. x ∷ ys) s.whole; holds = s.holds }))
    (λ m. inr (λ s. more_split P x xs n m s.first s.rest s.whole s.holds)))

-- a text of one form behind a text of another
abbrev pub Seq : (List ℕ → Type 0) → (List ℕ → Type 0) → List ℕ → Type 0
Seq P Q bytes = Split (λ a b. P a × Q b) bytes

pub seq_decided : (P Q : List ℕ → Type 0) → ((a : List ℕ) → Decided (P a)) → ((b : List ℕ) → Decided (Q b)) → (bytes : List ℕ) → Decided (Seq P Q bytes)
seq_decided P Q p q bytes = split_decided (λ a b. P a × Q b) (λ a b. both_decided (p a) (q b)) bytes

pub joined : (a b c d : List ℕ) → a ≡ c → b ≡ d → a ++ b ≡ c ++ d
joined a b c d e f = ap (λ x. x ++ b) e ∙ ap (λ y. c ++ y) f

-- ---- a value, and several, by their texts

pub record One {A : Type 0} (Is : A → Type 0) (print : A → List ℕ) (bytes : List ℕ) : Type 0 where
  pub item : A
  pub is : Is item
  pub whole : bytes ≡ print item

pub record Several {A : Type 0} (Is : A → Type 0) (print : A → List ℕ) (bytes : List ℕ) : Type 0 where
  pub items : List A
  pub each : All Is items
  pub whole : bytes ≡ flat_map print items

module _ {A : Type 0} (Is : A → Type 0) (print : A → List ℕ) (some : (a : A) → Is a → 0 < length (print a)) (one : (bytes : List ℕ) → Decided (One Is print bytes)) where
  -- one, and several behind it in fewer bytes
  abbrev More : ℕ → List ℕ → List ℕ → Type 0
  More bound a b = One Is print a × ((length b < bound) × Several Is print b)

  grown : (bound x : ℕ) (xs : List ℕ) → Split (More bound) (x ∷ xs) → Several Is print (x ∷ xs)
  grown bound x xs s = record {
    items = s.holds.0.item ∷ s.holds.1.1.items;
    each = All-cons Is s.holds.0.item s.holds.1.1.items s.holds.0.is s.holds.1.1.each;
    whole = s.whole ∙ joined s.first s.rest (print s.holds.0.item) (flat_map print s.holds.1.1.items) s.holds.0.whole s.holds.1.1.whole ∙ sym (flat_map-cons print s.holds.0.item s.holds.1.1.items);
  }

  parted : (bound x : ℕ) (xs : List ℕ) → length (x ∷ xs) < suc bound → (items : List A) → All Is items → x ∷ xs ≡ flat_map print items → Split (More bound) (x ∷ xs)
  parted bound x xs less [] each e = absurd (cc e)
  parted bound x xs less (i ∷ items) each e =
      let is = All-head Is i items each in
      let whole : x ∷ xs ≡ print i ++ flat_map print items = e ∙ flat_map-cons print i items in
      record {
        first = print i;
        rest = flat_map print items;
        whole = whole;
        holds = (
          record { item = i; is = is; whole = refl },
          (
            omega (arith, less, some i is, ap (λ (ys : List ℕ). length ys) whole, length-append (print i) (flat_map print items)),
            record { items = items; each = All-tail Is i items each; whole = refl },
          ),
        );
      }

  pub several_decided : (bound : ℕ) (bytes : List ℕ) → length bytes < bound → Decided (Several Is print bytes)
  several_decided zero bytes less = absurd (omega (arith, less))
  several_decided (suc bound) [] less = inl (record { items = []; each = All-nil Is; whole = refl })
  several_decided (suc bound) (x ∷ xs) less =
      same_decided (grown bound x xs) (λ s. parted bound x xs less s.items s.each s.whole)
      (split_decided (More bound)
      (λ a b. both_decided (one a) (either (less_decided (length b) bound)
      (λ fewer. either (several_decided bound b fewer) (λ s. inl (fewer, s)) (λ n. inr (λ s. n s.1)))
      (λ n. inr (λ s. n s.0)))) (x ∷ xs))
