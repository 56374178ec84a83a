-- Tickets of a link in memory: a new one differs from those that stand open, and one of some is ready first.
use Rattle.std.proofs.Common.{◌≡◌, ◌≢◌, ◌↔◌, ◌||◌, IsTrue, ℕ, suc, ◌+◌, ◌<◌, ◌≤◌, ◌==◌, Bool, true, false, List, [], ◌∷◌, ◌++◌, length, take, get_or, All, refl, sym, ◌∙◌, ap, subst, arith, length-append}
use Rattle.std.specs.Prelude.{Some}
use Rattle.std.specs.List.{list_any}
use Rattle.std.proofs.lemmas.Bool.{eqb-true, eq-eqb}
use Rattle.std.proofs.lemmas.List.{take-append-le, get_or_append_left, get_or-take, length-take-le}
use Rattle.std.proofs.Math.Seq.{take-append_seam, get_or-append_seam, take-suc}
use Rattle.std.proofs.lemmas.List.Elements.{All-nil, All-cons, All-head, All-tail, All-append, All-weaker}
use Rattle.std.proofs.lemmas.Option.{slice_get_within, slice_get-get_or, get_or_from_slice_get}
use Rattle.edge_outside.specs.declared.mem_link.MemReply.{MemReply}
use Rattle.edge_outside.specs.Link.{Keeps}
use Rattle.edge_outside.specs.MemLink.{ChoosesInMemory, left_of, is_among, IsAmong, without}

-- a ticket past all that were given
pub fresh : (tickets : List ℕ) (n k : ℕ) → n < k → All (λ ticket. (0 < ticket) × (ticket ≤ n)) tickets → list_any (λ other. other == k) tickets ≡ true → ⊥
fresh [] n k less all is = cc is
fresh (t ∷ tickets) n k less all is =
    let head = All-head (λ ticket. (0 < ticket) × (ticket ≤ n)) t tickets all in
    let tail = All-tail (λ ticket. (0 < ticket) × (ticket ≤ n)) t tickets all in
    let with : (b : Bool) → (t == k) ≡ b → ⊥ = elim [
      | true ↦ λ e. omega (arith, eqb-true t k e, head.1, less)
      | false ↦ λ e. fresh tickets n k less tail (rw e at is)
    ] in
    with (t == k) refl

eqb-same : (a b : ℕ) → a ≡ b → (a == b) ≡ true
eqb-same a b e = eq-eqb a b e

not_both : (t k other : ℕ) → (t == k) ≡ true → (other == k) ≡ false → (t == other) ≡ false
not_both t k other e apart =
    let with : (b : Bool) → (t == other) ≡ b → b ≡ false = elim [
      | true ↦ λ f. let same : other ≡ k = sym (eqb-true t other f) ∙ eqb-true t k e in cc (apart, eqb-same other k same)
      | false ↦ λ f. refl
    ] in
    with (t == other) refl

-- a ticket that stands open is one of these
pub given : (tickets : List ℕ) (n k : ℕ) → All (λ ticket. (0 < ticket) × (ticket ≤ n)) tickets → list_any (λ other. other == k) tickets ≡ true → (0 < k) × (k ≤ n)
given [] n k all is = cc is
given (t ∷ tickets) n k all is =
    let head = All-head (λ ticket. (0 < ticket) × (ticket ≤ n)) t tickets all in
    let tail = All-tail (λ ticket. (0 < ticket) × (ticket ≤ n)) t tickets all in
    let with : (b : Bool) → (t == k) ≡ b → (0 < k) × (k ≤ n) = elim [
      | true ↦ λ e. (omega (arith, eqb-true t k e, head.0), omega (arith, eqb-true t k e, head.1))
      | false ↦ λ e. given tickets n k tail (rw e at is)
    ] in
    with (t == k) refl

-- those that are left are some of them
pub kept : (tickets : List ℕ) (n k : ℕ) → All (λ other. (0 < other) × (other ≤ n)) tickets → All (λ other. (0 < other) × (other ≤ n)) (without k tickets)
kept [] n k all = All-nil (λ other. (0 < other) × (other ≤ n))
kept (t ∷ tickets) n k all =
    let rest = kept tickets n k (All-tail (λ other. (0 < other) × (other ≤ n)) t tickets all) in
    let with : (b : Bool) → (t == k) ≡ b → All (λ other. (0 < other) × (other ≤ n)) (without k (t ∷ tickets)) = elim [
      | true ↦ λ e. rw e rest
      | false ↦ λ e. rw e (All-cons (λ other. (0 < other) × (other ≤ n)) t (without k tickets) (All-head (λ other. (0 < other) × (other ≤ n)) t tickets all) rest)
    ] in
    with (t == k) refl

left_same : (tickets : List ℕ) (k other : ℕ) → (other == k) ≡ false → is_among (without k tickets) other ≡ is_among tickets other
left_same [] k other apart = refl
left_same (t ∷ tickets) k other apart =
    let rest = left_same tickets k other apart in
    let with : (b : Bool) → (t == k) ≡ b → is_among (without k (t ∷ tickets)) other ≡ is_among (t ∷ tickets) other = elim [
      | true ↦ λ e. let no : (t == other) ≡ false = not_both t k other e apart in rw e (rw no rest)
      | false ↦ λ e. rw e (ap (λ (b : Bool). (t == other) || b) rest)
    ] in
    with (t == k) refl

left_none : (tickets : List ℕ) (k : ℕ) → is_among (without k tickets) k ≡ false
left_none [] k = refl
left_none (t ∷ tickets) k =
    let rest = left_none tickets k in
    let with : (b : Bool) → (t == k) ≡ b → is_among (without k (t ∷ tickets)) k ≡ false = elim [
      | true ↦ λ e. rw e rest
      | false ↦ λ e. rw e (rw e rest)
    ] in
    with (t == k) refl

-- the one that was taken out isn't among them, and the others are as before
pub left : (tickets : List ℕ) (k : ℕ) → Keeps (IsAmong tickets) k true (IsAmong (without k tickets))
left tickets k other =
    let with : (b : Bool) → (other == k) ≡ b → IsAmong (without k tickets) other ↔ (IsAmong tickets other × (IsTrue true → other ≢ k)) = elim [
      | true ↦ λ e. let same : other ≡ k = eqb-true other k e in (
        λ is. absurd (cc (left_none tickets k, subst (λ x. is_among (without k tickets) x ≡ true) same is)),
        λ both. absurd (both.1 refl same),
      )
      | false ↦ λ e. (
        λ is. (sym (left_same tickets k other e) ∙ is, λ yes same. cc (e, eqb-same other k same)),
        λ both. left_same tickets k other e ∙ both.0,
      )
    ] in
    with (other == k) refl

module _ (replies : List MemReply) where
  -- the first alone
  pub first_one : (t : ℕ) → ChoosesInMemory replies (t ∷ []) 0
  first_one t = record {
    chosen = t;
    at = refl;
    first = All-nil (λ ticket. left_of replies t < left_of replies ticket);
    least = All-cons (λ ticket. left_of replies t ≤ left_of replies ticket) t [] (omega arith) (All-nil (λ ticket. left_of replies t ≤ left_of replies ticket));
  }

  -- one more, which has no fewer polls left
  pub stays : (xs : List ℕ) (t best : ℕ) → (c : ChoosesInMemory replies xs best) → left_of replies c.chosen ≤ left_of replies t → ChoosesInMemory replies (xs ++ t ∷ []) best
  stays xs t best c le =
      let chosen = c.chosen in
      let inside : best < length xs = slice_get_within xs best chosen c.at in
      record {
        chosen = chosen;
        at = slice_get-get_or (xs ++ t ∷ []) best chosen (omega (arith, inside, length-append xs (t ∷ [])))
            ∙ ap (λ (x : ℕ). Some x) (get_or_append_left xs (t ∷ []) chosen best inside ∙ get_or_from_slice_get xs best chosen chosen c.at);
        first = subst (λ (ys : List ℕ). All (λ ticket. left_of replies chosen < left_of replies ticket) ys) (sym (take-append-le best xs (t ∷ []) (omega (arith, inside)))) c.first;
        least = All-append (λ ticket. left_of replies chosen ≤ left_of replies ticket) xs (t ∷ []) c.least
            (All-cons (λ ticket. left_of replies chosen ≤ left_of replies ticket) t [] le (All-nil (λ ticket. left_of replies chosen ≤ left_of replies ticket)));
      }

  -- one more, which has fewer
  pub turns : (xs : List ℕ) (t best : ℕ) → (c : ChoosesInMemory replies xs best) → left_of replies t < left_of replies c.chosen → ChoosesInMemory replies (xs ++ t ∷ []) (length xs)
  turns xs t best c less =
      let chosen = c.chosen in
      let below : All (λ ticket. left_of replies t < left_of replies ticket) xs =
      All-weaker (λ ticket. left_of replies chosen ≤ left_of replies ticket) (λ ticket. left_of replies t < left_of replies ticket) (λ ticket le. omega (arith, le, less)) xs c.least in
      record {
        chosen = t;
        at = slice_get-get_or (xs ++ t ∷ []) (length xs) t (omega (arith, length-append xs (t ∷ []))) ∙ ap (λ (x : ℕ). Some x) (get_or-append_seam xs t [] t);
        first = subst (λ (ys : List ℕ). All (λ ticket. left_of replies t < left_of replies ticket) ys) (sym (take-append_seam xs (t ∷ []))) below;
        least = All-append (λ ticket. left_of replies t ≤ left_of replies ticket) xs (t ∷ [])
            (All-weaker (λ ticket. left_of replies t < left_of replies ticket) (λ ticket. left_of replies t ≤ left_of replies ticket) (λ ticket lt. omega (arith, lt)) xs below)
            (All-cons (λ ticket. left_of replies t ≤ left_of replies ticket) t [] (omega arith) (All-nil (λ ticket. left_of replies t ≤ left_of replies ticket)));
      }

  -- the one that was chosen, read in the whole list
  chosen_is : (xs : List ℕ) (n best d : ℕ) → n < length xs → (c : ChoosesInMemory replies (take n xs) best) → get_or xs best d ≡ c.chosen
  chosen_is xs n best d less c =
      let inside : best < length (take n xs) = slice_get_within (take n xs) best c.chosen c.at in
      let long : length (take n xs) ≡ n = length-take-le n xs (omega (arith, less)) in
      sym (get_or-take n xs best d (omega (arith, inside, long))) ∙ get_or_from_slice_get (take n xs) best c.chosen d c.at

  one_more : (xs : List ℕ) (n d : ℕ) → n < length xs → take (n + 1) xs ≡ take n xs ++ get_or xs n d ∷ []
  one_more xs n d less = let next : n + 1 ≡ suc n = omega arith in ap (λ (k : ℕ). take k xs) next ∙ take-suc xs n d less

  -- behind one more the choice stays, or is the last
  pub stays_at : (xs : List ℕ) (n best d : ℕ) → n < length xs → (c : ChoosesInMemory replies (take n xs) best)
      → left_of replies (get_or xs best d) ≤ left_of replies (get_or xs n d) → ChoosesInMemory replies (take (n + 1) xs) best
  stays_at xs n best d less c le =
      subst (λ (ys : List ℕ). ChoosesInMemory replies ys best) (sym (one_more xs n d less))
      (stays (take n xs) (get_or xs n d) best c (subst (λ (t : ℕ). left_of replies t ≤ left_of replies (get_or xs n d)) (chosen_is xs n best d less c) le))

  pub turns_at : (xs : List ℕ) (n best d : ℕ) → n < length xs → (c : ChoosesInMemory replies (take n xs) best)
      → left_of replies (get_or xs n d) < left_of replies (get_or xs best d) → ChoosesInMemory replies (take (n + 1) xs) n
  turns_at xs n best d less c lt =
      subst (λ (ys : List ℕ). ChoosesInMemory replies ys n) (sym (one_more xs n d less))
      (subst (λ (k : ℕ). ChoosesInMemory replies (take n xs ++ get_or xs n d ∷ []) k) (length-take-le n xs (omega (arith, less)))
      (turns (take n xs) (get_or xs n d) best c (subst (λ (t : ℕ). left_of replies (get_or xs n d) < left_of replies t) (chosen_is xs n best d less c) lt)))
