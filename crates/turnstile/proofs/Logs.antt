-- What a log says of the seats: their entries, by number.
use Rattle.std.proofs.Common.{◌≡◌, ◌≢◌, ℕ, zero, suc, ◌+◌, ◌<◌, ◌≤◌, eqb, leb, cond, Bool, true, false, List, [], ◌∷◌, ◌++◌, map, length, take, All, Contains, refl, sym, ap, ◌∙◌, subst, arith, eq-eqb, ne_eqb, add-zero}
use mathlib.Core.Logic.{dite}
use mathlib.Core.Option.{some, some-injective, some-ne-none}
use native.Mathlib.Decide.{ℕ_discrete}
use lib.ListN.{get_elem?}
use Rattle.std.proofs.lemmas.Bool.Decides.{nat_tests}
use Rattle.atomic_table.proofs.Lists.{at_index}
use Rattle.turnstile.specs.Log.{entries_of, owned, numbered, handed, put_by_number, merged, Families}
use Rattle.turnstile.specs.Standing.{of_family}

module _ {E : Type 0} where
  pub owned_hit : (j n : ℕ) (x : ℕ × E) (xs : List (ℕ × E)) → x.0 ≡ j → owned j n (x ∷ xs) ≡ (n, x.1) ∷ owned j (suc n) xs
  owned_hit j n x xs e = ap (λ (b : Bool). cond b ((n, x.1) ∷ owned j (suc n) xs) (owned j (suc n) xs)) (eq-eqb x.0 j e)

  pub owned_miss : (j n : ℕ) (x : ℕ × E) (xs : List (ℕ × E)) → x.0 ≢ j → owned j n (x ∷ xs) ≡ owned j (suc n) xs
  owned_miss j n x xs e = ap (λ (b : Bool). cond b ((n, x.1) ∷ owned j (suc n) xs) (owned j (suc n) xs)) (ne_eqb x.0 j e)

  either_push : (b : Bool) (k : ℕ × E) (a t : List (ℕ × E)) → cond b (k ∷ (a ++ t)) (a ++ t) ≡ cond b (k ∷ a) a ++ t
  either_push true k a t = refl
  either_push false k a t = refl

  pub owned_push-own : (j n : ℕ) (log : List (ℕ × E)) (e : E) → owned j n (log ++ (j, e) ∷ []) ≡ owned j n log ++ (n + length log, e) ∷ []
  owned_push-own j n [] e = owned_hit j n (j, e) [] refl ∙ ap (λ (k : ℕ). (k, e) ∷ []) (sym (add-zero n))
  owned_push-own j n (x ∷ xs) e =
      let k : suc n + length xs ≡ n + suc (length xs) = omega arith in
      let rest = owned_push-own j (suc n) xs e ∙ ap (λ (k : ℕ). owned j (suc n) xs ++ (k, e) ∷ []) k in
      ap (λ (l : List (ℕ × E)). cond (eqb x.0 j) ((n, x.1) ∷ l) l) rest ∙ either_push (eqb x.0 j) (n, x.1) (owned j (suc n) xs) ((n + suc (length xs), e) ∷ [])

  pub owned_push-other : (j n : ℕ) (log : List (ℕ × E)) (x : ℕ × E) → x.0 ≢ j → owned j n (log ++ x ∷ []) ≡ owned j n log
  owned_push-other j n [] x other = owned_miss j n x [] other
  owned_push-other j n (y ∷ ys) x other = ap (λ (l : List (ℕ × E)). cond (eqb y.0 j) ((n, y.1) ∷ l) l) (owned_push-other j (suc n) ys x other)

  -- a seat that made nothing owns nothing, and the other way round
  pub owned_none : (j n : ℕ) (log : List (ℕ × E)) → ((i : ℕ) (x : ℕ × E) → get_elem? log i ≡ some x → x.0 ≢ j) → owned j n log ≡ []
  owned_none j n [] none_of = refl
  owned_none j n (x ∷ xs) none_of = owned_miss j n x xs (none_of zero x refl) ∙ owned_none j (suc n) xs (λ i y at. none_of (suc i) y at)

  pub owned_nothing : (j n : ℕ) (log : List (ℕ × E)) → owned j n log ≡ [] → (i : ℕ) (x : ℕ × E) → get_elem? log i ≡ some x → x.0 ≢ j
  owned_nothing j n [] e i x at = absurd (some-ne-none x (sym at))
  owned_nothing j n (y ∷ ys) e zero x at = λ own. let hit = owned_hit j n y ys (ap (λ (z : ℕ × E). z.0) (some-injective y x at) ∙ own) in absurd (cc (hit, e))
  owned_nothing j n (y ∷ ys) e (suc i) x at = dite (ℕ_discrete y.0 j)
      (λ own. let hit = owned_hit j n y ys own in absurd (cc (hit, e)))
      (λ other. owned_nothing j (suc n) ys (sym (owned_miss j n y ys other) ∙ e) i x at)

  pub owned_take : (j n c : ℕ) (log : List (ℕ × E)) → ((i : ℕ) (x : ℕ × E) → c ≤ i → get_elem? log i ≡ some x → x.0 ≢ j) → owned j n log ≡ owned j n (take c log)
  owned_take j n zero [] others = refl
  owned_take j n (suc c) [] others = refl
  owned_take j n zero (x ∷ xs) others = owned_none j n (x ∷ xs) (λ i y at. others i y (omega arith) at)
  owned_take j n (suc c) (x ∷ xs) others = ap (λ (l : List (ℕ × E)). cond (eqb x.0 j) ((n, x.1) ∷ l) l) (owned_take j (suc n) c xs (λ i y le at. others (suc i) y (omega arith) at))

  pub owned_all : (j n : ℕ) (log : List (ℕ × E)) → ((i : ℕ) (x : ℕ × E) → get_elem? log i ≡ some x → x.0 ≡ j) → owned j n log ≡ numbered n (entries_of log)
  owned_all j n [] all = refl
  owned_all j n (x ∷ xs) all = owned_hit j n x xs (all zero x refl) ∙ ap (λ (l : List (ℕ × E)). (n, x.1) ∷ l) (owned_all j (suc n) xs (λ i y at. all (suc i) y at))

  -- where an own entry stands in the log
  abbrev Stood_at : ℕ → ℕ → List (ℕ × E) → ℕ → E → Type 0
  Stood_at j n log f e = (m : ℕ) × (n + m ≡ f) × (get_elem? log m ≡ some (j, e))

  one_later : (j n : ℕ) (x : ℕ × E) (xs : List (ℕ × E)) (f : ℕ) (e : E) → Stood_at j (suc n) xs f e → Stood_at j n (x ∷ xs) f e
  one_later j n x xs f e r = let is = r.1 in (suc r.0, omega arith, r.2)

  hit_at : (j n : ℕ) (x : ℕ × E) (xs : List (ℕ × E)) (f : ℕ) (e : E) → x.0 ≡ j → ((k : ℕ) → get_elem? (owned j (suc n) xs) k ≡ some (f, e) → Stood_at j (suc n) xs f e)
      → (k : ℕ) → get_elem? ((n, x.1) ∷ owned j (suc n) xs) k ≡ some (f, e) → Stood_at j n (x ∷ xs) f e
  hit_at j n x xs f e own rest zero found = let same = some-injective (n, x.1) (f, e) found in (zero, add-zero n ∙ ap (λ (z : ℕ × E). z.0) same, ap (λ (z : ℕ × E). some z) (λ i. (own i, (same i).1)))
  hit_at j n x xs f e own rest (suc k) found = one_later j n x xs f e (rest k found)

  owned_at : (j n : ℕ) (log : List (ℕ × E)) (k f : ℕ) (e : E) → get_elem? (owned j n log) k ≡ some (f, e) → Stood_at j n log f e
  owned_at j n [] k f e at = absurd (some-ne-none (f, e) (sym at))
  owned_at j n (x ∷ xs) k f e at = dite (ℕ_discrete x.0 j)
      (λ own. hit_at j n x xs f e own (λ i found. owned_at j (suc n) xs i f e found) k (subst (λ (l : List (ℕ × E)). get_elem? l k ≡ some (f, e)) (owned_hit j n x xs own) at))
      (λ other. one_later j n x xs f e (owned_at j (suc n) xs k f e (subst (λ (l : List (ℕ × E)). get_elem? l k ≡ some (f, e)) (owned_miss j n x xs other) at)))

  pub owned_contains : (j n : ℕ) (log : List (ℕ × E)) (f : ℕ) (e : E) → Contains (owned j n log) (f, e) → (m : ℕ) × (n + m ≡ f) × (get_elem? log m ≡ some (j, e))
  owned_contains j n log f e has = owned_at j n log has.0 f e (at_index (owned j n log) has.0 (f, e) has.1 (sym has.2))

  -- numbers that rise
  put_least : (n : ℕ) (e : E) (j m : ℕ) (log : List (ℕ × E)) → n < m → put_by_number (n, e) (owned j m log) ≡ (n, e) ∷ owned j m log
  put_least n e j m [] less = refl
  put_least n e j m (x ∷ xs) less = dite (ℕ_discrete x.0 j)
      (λ own. let t : leb n m ≡ true = grind (arith, nat_tests) in rw (owned_hit j m x xs own) (ap (λ (b : Bool). cond b ((n, e) ∷ (m, x.1) ∷ owned j (suc m) xs) ((m, x.1) ∷ put_by_number (n, e) (owned j (suc m) xs))) t))
      (λ other. rw (owned_miss j m x xs other) (put_least n e j (suc m) xs (omega arith)))

  -- an entry before all of the first list
  merged_later : (n : ℕ) (e : E) (j m : ℕ) (log : List (ℕ × E)) (ys : List (ℕ × E)) → n < m → merged (owned j m log) ((n, e) ∷ ys) ≡ (n, e) ∷ merged (owned j m log) ys
  merged_later n e j m [] ys less = refl
  merged_later n e j m (x ∷ xs) ys less = dite (ℕ_discrete x.0 j)
      (λ own. let t : leb m n ≡ false = grind (arith, nat_tests) in rw (owned_hit j m x xs own, merged_later n e j (suc m) xs ys (omega arith))
      (ap (λ (b : Bool). cond b ((m, x.1) ∷ (n, e) ∷ merged (owned j (suc m) xs) ys) ((n, e) ∷ put_by_number (m, x.1) (merged (owned j (suc m) xs) ys))) t))
      (λ other. rw (owned_miss j m x xs other) (merged_later n e j (suc m) xs ys (omega arith)))

  pub handed_own : (a b : ℕ) (x : ℕ × E) → x.0 ≡ b → handed a b x ≡ (a, x.1)
  handed_own a b x e = ap (λ (t : Bool). (cond t a x.0, x.1)) (eq-eqb x.0 b e)

  pub handed_other : (a b : ℕ) (x : ℕ × E) → x.0 ≢ b → handed a b x ≡ x
  handed_other a b x e = ap (λ (t : Bool). (cond t a x.0, x.1)) (ne_eqb x.0 b e)

  -- a seat that takes over another's entries has both, by number
  pub owned_handed-own : (a b n : ℕ) (log : List (ℕ × E)) → a ≢ b → owned a n (map (handed a b) log) ≡ merged (owned a n log) (owned b n log)
  owned_handed-own a b n [] apart = refl
  owned_handed-own a b n (x ∷ xs) apart =
      let rest = owned_handed-own a b (suc n) xs apart in
      let F : ℕ × E → Type 0 = λ y. owned a n (y ∷ map (handed a b) xs) ≡ merged (owned a n (x ∷ xs)) (owned b n (x ∷ xs)) in
      dite (ℕ_discrete x.0 a)
      (λ own. let not_b : x.0 ≢ b = λ e. apart (sym own ∙ e) in
      subst F (sym (handed_other a b x not_b)) (rw (owned_hit a n x (map (handed a b) xs) own, owned_hit a n x xs own, owned_miss b n x xs not_b, ← rest)
      (sym (put_least n x.1 a (suc n) (map (handed a b) xs) (omega arith)))))
      (λ other. dite (ℕ_discrete x.0 b)
      (λ theirs. subst F (sym (handed_own a b x theirs)) (rw (owned_hit a n (a, x.1) (map (handed a b) xs) refl, owned_miss a n x xs other, owned_hit b n x xs theirs)
      (ap (λ (l : List (ℕ × E)). (n, x.1) ∷ l) rest ∙ sym (merged_later n x.1 a (suc n) xs (owned b (suc n) xs) (omega arith)))))
      (λ third. subst F (sym (handed_other a b x third)) (rw (owned_miss a n x (map (handed a b) xs) other, owned_miss a n x xs other, owned_miss b n x xs third) rest)))

  pub owned_handed-spent : (a b n : ℕ) (log : List (ℕ × E)) → a ≢ b → owned b n (map (handed a b) log) ≡ []
  owned_handed-spent a b n [] apart = refl
  owned_handed-spent a b n (x ∷ xs) apart =
      let rest = owned_handed-spent a b (suc n) xs apart in
      let F : ℕ × E → Type 0 = λ y. owned b n (y ∷ map (handed a b) xs) ≡ [] in
      dite (ℕ_discrete x.0 b)
      (λ theirs. subst F (sym (handed_own a b x theirs)) (owned_miss b n (a, x.1) (map (handed a b) xs) apart ∙ rest))
      (λ third. subst F (sym (handed_other a b x third)) (owned_miss b n x (map (handed a b) xs) third ∙ rest))

  pub owned_handed-other : (a b j n : ℕ) (log : List (ℕ × E)) → j ≢ a → j ≢ b → owned j n (map (handed a b) log) ≡ owned j n log
  owned_handed-other a b j n [] not_a not_b = refl
  owned_handed-other a b j n (x ∷ xs) not_a not_b =
      let rest = owned_handed-other a b j (suc n) xs not_a not_b in
      let F : ℕ × E → Type 0 = λ y. owned j n (y ∷ map (handed a b) xs) ≡ owned j n (x ∷ xs) in
      dite (ℕ_discrete x.0 b)
      (λ theirs. subst F (sym (handed_own a b x theirs)) (owned_miss j n (a, x.1) (map (handed a b) xs) (λ e. not_a (sym e)) ∙ (rest ∙ sym (owned_miss j n x xs (λ e. not_b (sym e ∙ theirs))))))
      (λ third. subst F (sym (handed_other a b x third)) (ap (λ (l : List (ℕ × E)). cond (eqb x.0 j) ((n, x.1) ∷ l) l) rest))

  pub entries_of-handed : (a b : ℕ) (log : List (ℕ × E)) → entries_of (map (handed a b) log) ≡ entries_of log
  entries_of-handed a b [] = refl
  entries_of-handed a b (x ∷ xs) = ap (λ (l : List E). x.1 ∷ l) (entries_of-handed a b xs)

  pub at_unmap : (f : ℕ × E → ℕ × E) (log : List (ℕ × E)) (i : ℕ) (y : ℕ × E) → get_elem? (map f log) i ≡ some y → (x : ℕ × E) × (get_elem? log i ≡ some x) × (f x ≡ y)
  at_unmap f [] i y at = absurd (some-ne-none y (sym at))
  at_unmap f (x ∷ xs) zero y at = (x, refl, some-injective (f x) y at)
  at_unmap f (x ∷ xs) (suc i) y at = at_unmap f xs i y at

  -- the entries of a family of one seat
  pub own_filter : (family : E → ℕ) (f j n : ℕ) (log : List (ℕ × E)) → ((i : ℕ) (x : ℕ × E) → get_elem? log i ≡ some x → family x.1 ≡ f → x.0 ≡ j) → of_family family f (entries_of log) ≡ of_family family f (entries_of (owned j n log))
  own_filter family f j n [] own = refl
  own_filter family f j n (x ∷ xs) own =
      let rest = own_filter family f j (suc n) xs (λ i y at. own (suc i) y at) in
      dite (ℕ_discrete x.0 j)
      (λ mine. rw (owned_hit j n x xs mine) (ap (λ (l : List E). cond (eqb (family x.1) f) (x.1 ∷ l) l) rest))
      (λ other. rw (owned_miss j n x xs other)
      (ap (λ (b : Bool). cond b (x.1 ∷ of_family family f (entries_of xs)) (of_family family f (entries_of xs))) (ne_eqb (family x.1) f (λ e. other (own zero x refl e))) ∙ rest))

  pub older_filter : (family : E → ℕ) (f n : ℕ) (base : List E) → All (λ e. family e < n) base → n ≤ f → of_family family f base ≡ []
  older_filter family f n [] all le = refl
  older_filter family f n (e ∷ es) all le =
      let now : family e < n = all zero e (omega arith) in
      ap (λ (b : Bool). cond b (e ∷ of_family family f es) (of_family family f es)) (ne_eqb (family e) f (λ same. absurd (omega arith)))
      ∙ older_filter family f n es (λ k d less. all (suc k) d (omega arith)) le

  -- a family whose opener a seat made is that seat's
  pub family_maker : (family : E → ℕ) (n : ℕ) (log : List (ℕ × E)) (j m : ℕ) (e : E) → Families family n log → get_elem? log m ≡ some (j, e)
      → (i : ℕ) (x : ℕ × E) → get_elem? log i ≡ some x → family x.1 ≡ n + m → x.0 ≡ j
  family_maker family n log j m e families opens i x at same =
      let found = families i x at in
      let is = found.1 in
      let place : found.0 ≡ m = omega arith in
      let there : get_elem? log m ≡ some (x.0, found.3.0) = subst (λ (k : ℕ). get_elem? log k ≡ some (x.0, found.3.0)) place found.3.1 in
      ap (λ (z : ℕ × E). z.0) (some-injective (x.0, found.3.0) (j, e) (sym there ∙ opens))
