-- What two workers did is what they did together.
use Rattle.std.proofs.Common.{◌≡◌, ◌⊎◌, inl, inr, ℕ, ◌+◌, Bool, true, false, cond, nat_le, List, [], ◌∷◌, ◌++◌, length, All, Contains, refl, sym, subst, append-nil}
use Rattle.std.proofs.lemmas.List.Elements.{All-nil, All-cons, All-weaker, All-contains, All-contains_itself, Contains-append_left, Contains-append_right, Contains-append_cases, Contains-push}
use mathlib.Core.List.{IsPrefix}
use Rattle.turnstile.specs.Log.{put_by_number, merged}
use Rattle.turnstile.specs.Pass.{PassView, both_passes}
use Rattle.turnstile.specs.Plays.{longer}
use Rattle.cache_types.specs.declared.entries.Entry.{Entry}
use Rattle.cache_types.specs.declared.outer.Done.{Done}
use Rattle.cache_types.specs.Legal.{IsLegal}
use Rattle.cache_hub.specs.Hub.{AreApart}
use Rattle.player.specs.Plays.{Program}
use Rattle.edge_batch.specs.Blocks.{Joint, joint_with, IsRead, IsTimedIn, HasBlock, Worked}
use Rattle.edge_batch.proofs.Later.{IsLater, timed_later, blocks_later, blocks_both}
use Rattle.edge_batch.proofs.Guests.{IsKnown, blocks_guests, AreOthers, differ_both, others, apart_others}

-- ---- together

-- a clock stands where it stood
pub same_clock : (clocks : List (List ℕ)) (clock : List ℕ) → Contains clocks clock → IsRead clocks clock
same_clock clocks clock has = record { clock = clock; of = has; before = []; after = []; part = sym (append-nil clock) }

pub block_left : (ds es : List Done) (g : ℕ) → HasBlock ds g → HasBlock (ds ++ es) g
block_left ds es g b = (b.0, Contains-append_left ds es b.0 b.1, b.2)

pub block_right : (ds es : List Done) (g : ℕ) → HasBlock es g → HasBlock (ds ++ es) g
block_right ds es g b = (b.0, Contains-append_right ds es b.0 b.1, b.2)

-- what holds of each entry of both holds of each of theirs together
from_both : (P Q S : ℕ × Entry → Type 0) (xs ys zs : List (ℕ × Entry)) → ((x : ℕ × Entry) → P x → S x) → ((x : ℕ × Entry) → Q x → S x) → All P xs → All Q ys → ((x : ℕ × Entry) → Contains zs x → Contains xs x ⊎ Contains ys x) → All S zs
from_both P Q S xs ys zs left right ps qs cases = All-weaker (Contains zs) S (λ x has. by x (cases x has)) zs (All-contains_itself zs)
  where
    by : (x : ℕ × Entry) → Contains xs x ⊎ Contains ys x → S x
    by x (inl here) = left x (All-contains P xs x ps here)
    by x (inr there) = right x (All-contains Q ys x qs there)

module _ {R : Type 0} (most limit : ℕ) (Began : ℕ → R → Program → Type 0) where
  pub both : (a b c : Joint) (index next : ℕ) (qs rs : List R) (ds es : List Done) → IsLater a c → IsLater b c → ((x : ℕ × Entry) → Contains c.mine x → Contains a.mine x ⊎ Contains b.mine x) → next ≡ index + length qs
      → Worked most limit Began a index qs ds → Worked most limit Began b next rs es → AreOthers ds es → Worked most limit Began c index (qs ++ rs) (ds ++ es)
  both a b c index next qs rs ds es left right cases at v w cross = record {
    legal = left.legal;
    each = blocks_both most limit Began c index next qs rs ds es at (blocks_later most limit Began a c left index qs ds v.each) (blocks_later most limit Began b c right next rs es w.each);
    differ = differ_both ds es v.differ w.differ cross;
    covered = from_both (λ (x : ℕ × Entry). HasBlock ds x.1.guest) (λ (x : ℕ × Entry). HasBlock es x.1.guest) (λ (x : ℕ × Entry). HasBlock (ds ++ es) x.1.guest) a.mine b.mine c.mine
        (λ x b. block_left ds es x.1.guest b) (λ x b. block_right ds es x.1.guest b) v.covered w.covered cases;
    timed = from_both (IsTimedIn a) (IsTimedIn b) (IsTimedIn c) a.mine b.mine c.mine (timed_later a c left) (timed_later b c right) v.timed w.timed cases;
  }

-- ---- two lists in one, by number

here : {E : Type 0} (x : ℕ × E) (xs : List (ℕ × E)) → Contains (x ∷ xs) x
here x xs = Contains-append_left (x ∷ []) xs x (Contains-push [] x)

there : {E : Type 0} (x : ℕ × E) (xs : List (ℕ × E)) (z : ℕ × E) → Contains xs z → Contains (x ∷ xs) z
there x xs z has = Contains-append_right (x ∷ []) xs z has

pub one_of_one : {A : Type 0} (x z : A) → Contains (x ∷ []) z → x ≡ z
one_of_one x z has = All-contains (λ y. x ≡ y) (x ∷ []) z (All-cons (λ y. x ≡ y) x [] refl (All-nil (λ y. x ≡ y))) has

cases_of : {E : Type 0} (x : ℕ × E) (xs : List (ℕ × E)) (z : ℕ × E) → Contains (x ∷ xs) z → (x ≡ z) ⊎ Contains xs z
cases_of {E} x xs z has = by (Contains-append_cases (x ∷ []) xs z has)
  where
    by : Contains (x ∷ []) z ⊎ Contains xs z → (x ≡ z) ⊎ Contains xs z
    by (inl one) = inl (one_of_one x z one)
    by (inr more) = inr more

module _ {E : Type 0} where
  put_has : (x : ℕ × E) (ys : List (ℕ × E)) → Contains (put_by_number x ys) x
  put_has x [] = here x []
  put_has x (y ∷ ys) = by (nat_le x.0 y.0) (put_has x ys)
    where
      by : (b : Bool) → Contains (put_by_number x ys) x → Contains (cond b (x ∷ y ∷ ys) (y ∷ put_by_number x ys)) x
      by true rest = here x (y ∷ ys)
      by false rest = there y (put_by_number x ys) x rest

  put_keeps : (x z : ℕ × E) (ys : List (ℕ × E)) → Contains ys z → Contains (put_by_number x ys) z
  put_keeps x z [] has = there x [] z has
  put_keeps x z (y ∷ ys) has = by (nat_le x.0 y.0) (λ more. put_keeps x z ys more) (cases_of y ys z has)
    where
      by : (b : Bool) → (Contains ys z → Contains (put_by_number x ys) z) → (y ≡ z) ⊎ Contains ys z → Contains (cond b (x ∷ y ∷ ys) (y ∷ put_by_number x ys)) z
      by true keeps at = there x (y ∷ ys) z has
      by false keeps (inl is) = subst (Contains (y ∷ put_by_number x ys)) is (here y (put_by_number x ys))
      by false keeps (inr more) = there y (put_by_number x ys) z (keeps more)

  put_cases : (x z : ℕ × E) (ys : List (ℕ × E)) → Contains (put_by_number x ys) z → (x ≡ z) ⊎ Contains ys z
  put_cases x z [] has = cases_of x [] z has
  put_cases x z (y ∷ ys) has = by (nat_le x.0 y.0) (λ more. put_cases x z ys more) has
    where
      further : (x ≡ z) ⊎ Contains ys z → (x ≡ z) ⊎ Contains (y ∷ ys) z
      further (inl is) = inl is
      further (inr old) = inr (there y ys z old)

      behind : (Contains (put_by_number x ys) z → (x ≡ z) ⊎ Contains ys z) → (y ≡ z) ⊎ Contains (put_by_number x ys) z → (x ≡ z) ⊎ Contains (y ∷ ys) z
      behind cases (inl is) = inr (subst (Contains (y ∷ ys)) is (here y ys))
      behind cases (inr more) = further (cases more)

      by : (b : Bool) → (Contains (put_by_number x ys) z → (x ≡ z) ⊎ Contains ys z) → Contains (cond b (x ∷ y ∷ ys) (y ∷ put_by_number x ys)) z → (x ≡ z) ⊎ Contains (y ∷ ys) z
      by true cases has = cases_of x (y ∷ ys) z has
      by false cases has = behind cases (cases_of y (put_by_number x ys) z has)

  merged_left : (xs ys : List (ℕ × E)) (z : ℕ × E) → Contains xs z → Contains (merged xs ys) z
  merged_left [] ys z has = Contains-append_left [] ys z has
  merged_left (x ∷ xs) ys z has = by (λ more. merged_left xs ys z more) (cases_of x xs z has)
    where
      by : (Contains xs z → Contains (merged xs ys) z) → (x ≡ z) ⊎ Contains xs z → Contains (put_by_number x (merged xs ys)) z
      by keeps (inl is) = subst (Contains (put_by_number x (merged xs ys))) is (put_has x (merged xs ys))
      by keeps (inr more) = put_keeps x z (merged xs ys) (keeps more)

  merged_right : (xs ys : List (ℕ × E)) (z : ℕ × E) → Contains ys z → Contains (merged xs ys) z
  merged_right [] ys z has = has
  merged_right (x ∷ xs) ys z has = put_keeps x z (merged xs ys) (merged_right xs ys z has)

  merged_cases : (xs ys : List (ℕ × E)) (z : ℕ × E) → Contains (merged xs ys) z → Contains xs z ⊎ Contains ys z
  merged_cases [] ys z has = inr has
  merged_cases (x ∷ xs) ys z has = by (λ more. merged_cases xs ys z more) (put_cases x z (merged xs ys) has)
    where
      behind : Contains xs z ⊎ Contains ys z → Contains (x ∷ xs) z ⊎ Contains ys z
      behind (inl mine) = inl (there x xs z mine)
      behind (inr other) = inr other

      by : (Contains (merged xs ys) z → Contains xs z ⊎ Contains ys z) → (x ≡ z) ⊎ Contains (merged xs ys) z → Contains (x ∷ xs) z ⊎ Contains ys z
      by cases (inl is) = inl (subst (Contains (x ∷ xs)) is (here x xs))
      by cases (inr more) = behind (cases more)

longer_legal : (xs ys : List Entry) → IsLegal xs → IsLegal ys → IsLegal (longer xs ys)
longer_legal xs ys a b = by (nat_le (length ys) (length xs))
  where
    by : (t : Bool) → IsLegal (cond t xs ys)
    by true = a
    by false = b

-- ---- two passes in one

module _ {T R : Type 0} (most limit : ℕ) (Began : ℕ → R → Program → Type 0) where
  pub rejoined : (one other : PassView T Entry) (cs more : List (List ℕ)) (index next : ℕ) (qs rs : List R) (ds es : List Done) → AreApart one.mine other.mine
      → IsPrefix one.seen (both_passes one other).seen → IsPrefix other.seen (both_passes one other).seen → next ≡ index + length qs
      → Worked most limit Began (joint_with one cs) index qs ds → Worked most limit Began (joint_with other more) next rs es
      → Worked most limit Began (joint_with (both_passes one other) (cs ++ more)) index (qs ++ rs) (ds ++ es)
  rejoined one other cs more index next qs rs ds es apart first second at v w =
      let a : Joint = joint_with one cs in
      let b : Joint = joint_with other more in
      let c : Joint = joint_with (both_passes one other) (cs ++ more) in
      let legal : IsLegal c.seen = longer_legal one.seen other.seen v.legal w.legal in
      both most limit Began a b c index next qs rs ds es
      (record { longer = first; legal = legal; mine = merged_left one.mine other.mine; clocks = λ clock has. same_clock (cs ++ more) clock (Contains-append_left cs more clock has) })
      (record { longer = second; legal = legal; mine = merged_right one.mine other.mine; clocks = λ clock has. same_clock (cs ++ more) clock (Contains-append_right cs more clock has) })
      (merged_cases one.mine other.mine) at v w
      (others (λ (d : Done). IsKnown a d.guest) (λ (d : Done). IsKnown b d.guest) (apart_others a b apart) ds es
      (blocks_guests most limit Began a index qs ds v.each) (blocks_guests most limit Began b next rs es w.each))
