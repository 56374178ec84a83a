-- One key of the maps changes.
use Rattle.std.specs.Prelude.{◌≡◌, ℕ, ◌+◌, ◌≤◌, Bool, true, false, cond, not, List, [], ◌∷◌, ◌++◌, reverse, filter, Some, refl, length, bytes_eq, OnOk, OnErr, Result, Ok, Err}
use Rattle.std.specs.Global.{Vec}
use Rattle.std.specs.BTreeMap.{get, is_at}
use Rattle.std.specs.declared.cmp.Ordering.{Ordering}
use Rattle.std.specs.declared.cmp.Ordering.TheVariants.{Less, Equal, Greater}
use Rattle.std.specs.Ordering.{nat_cmp, is_eq}
use Rattle.std.specs.Cmp.Lexicographic.{slice_cmp, texts_ties}
use Rattle.std.proofs.Common.{arith, sym, ap, ◌∙◌, append-nil}
use Rattle.std.proofs.lemmas.List.{reverse-append}
use Rattle.std.proofs.lemmas.List.Elements.{filter-append}
use Rattle.std.proofs.lemmas.Map.Lookups.{exact_bytes}
use Rattle.cache_types.specs.Slots.{same_rule}
use Rattle.cache_types.specs.Found.{put_first}
use Rattle.cache_index.specs.Kept.{RuleMap, rules_in, rules_at}

pub equal_from_is_eq : (o : Ordering) → is_eq o ≡ true → o ≡ Equal
equal_from_is_eq Less h = cc
equal_from_is_eq Equal h = refl
equal_from_is_eq Greater h = cc

abbrev pub text_cmp : List ℕ → List ℕ → Ordering
text_cmp = slice_cmp nat_cmp

-- a list with these rules in place of the key's
pub rules_kept : (m n : RuleMap) (k : List ℕ) (w : Vec (List (List ℕ))) → ((q : List ℕ) → get text_cmp n q ≡ cond (is_at (text_cmp k) q) (Some w) (get text_cmp m q)) → reverse w.items ≡ rules_at m k → (q : List ℕ) → rules_at n q ≡ rules_at m q
rules_kept m n k w updates same q =
    let with : (b : Bool) → is_at (text_cmp k) q ≡ b → rules_in (cond b (Some w) (get text_cmp m q)) ≡ rules_at m q =
    elim [ true ↦ λ h. same ∙ ap (λ key. rules_at m key) (exact_bytes k q (equal_from_is_eq (text_cmp k q) h)) | false ↦ λ _. refl ]
    in ap rules_in (updates q) ∙ with (is_at (text_cmp k) q) refl

pub rules_renewed : (m n : RuleMap) (k : List ℕ) (rule : List (List ℕ)) (w : Vec (List (List ℕ))) → ((q : List ℕ) → get text_cmp n q ≡ cond (is_at (text_cmp k) q) (Some w) (get text_cmp m q)) → reverse w.items ≡ put_first rule (rules_at m k) → (q : List ℕ) → rules_at n q ≡ cond (bytes_eq k q) (put_first rule (rules_at m q)) (rules_at m q)
rules_renewed m n k rule w updates new q =
    let with : (b : Bool) → is_at (text_cmp k) q ≡ b → rules_in (cond b (Some w) (get text_cmp m q)) ≡ cond b (put_first rule (rules_at m q)) (rules_at m q) =
    elim [ true ↦ λ h. new ∙ ap (λ key. put_first rule (rules_at m key)) (exact_bytes k q (equal_from_is_eq (text_cmp k q) h)) | false ↦ λ _. refl ]
    in
    ap rules_in (updates q) ∙ with (is_at (text_cmp k) q) refl
    ∙ ap (λ b. cond b (put_first rule (rules_at m q)) (rules_at m q)) (sym (texts_ties k q))

pub reverse-filter : {X : Type 0} (p : X → Bool) (xs : List X) → reverse (filter p xs) ≡ filter p (reverse xs)
reverse-filter p [] = refl
reverse-filter {X} p (x ∷ xs) =
    let none : List X = [] in
    let with : (b : Bool) → reverse (cond b (x ∷ filter p xs) (filter p xs)) ≡ filter p (reverse xs) ++ cond b (x ∷ []) none =
    elim [
      | true ↦ reverse-append (x ∷ []) (filter p xs) ∙ ap (λ l. l ++ x ∷ []) (reverse-filter p xs)
      | false ↦ reverse-filter p xs ∙ sym (append-nil (filter p (reverse xs)))
    ]
    in with (p x) ∙ sym (ap (filter p) (reverse-append (x ∷ []) xs) ∙ filter-append p (reverse xs) (x ∷ []))

abbrev pub without : List (List ℕ) → List (List (List ℕ)) → List (List (List ℕ))
without rule rules = filter (λ other. not (same_rule other rule)) rules

pub put_newest_is : (rule : List (List ℕ)) (rules left : List (List (List ℕ))) → left ≡ without rule rules → reverse (left ++ rule ∷ []) ≡ put_first rule (reverse rules)
put_newest_is rule rules left is =
    reverse-append left (rule ∷ []) ∙ ap (λ l. rule ∷ l) (ap reverse is ∙ reverse-filter (λ other. not (same_rule other rule)) rules)

pub length-without : (rule : List (List ℕ)) (rules : List (List (List ℕ))) → length (without rule rules) ≤ length rules
length-without rule [] = omega arith
length-without rule (other ∷ rules) =
    let fewer = length-without rule rules in
    let with : (b : Bool) → length (cond b (other ∷ without rule rules) (without rule rules)) ≤ length rules + 1 = elim [ true ↦ omega (arith, fewer) | false ↦ omega (arith, fewer) ] in
    let all : length (without rule (other ∷ rules)) ≤ length rules + 1 = with (not (same_rule other rule)) in omega (arith, all)

pub on_ok : {A E : Type 0} (r : Result A E) {P Q : Type 0} → (P → Q) → OnOk r P → OnOk r Q
on_ok (Ok a) f h = f h
on_ok (Err e) f h = tt

pub on_err : {A E : Type 0} (r : Result A E) {P : Type 0} → P → OnErr r P
on_err (Ok a) p = tt
on_err (Err e) p = p
