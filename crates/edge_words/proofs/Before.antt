-- Laws of readings whose words may be left out. Such a reading takes its words again where what follows can't be taken
-- for one of them.
use Rattle.std.proofs.Common.{◌≡◌, ℕ, Bool, true, false, not, List, [], ◌∷◌, ◌++◌, length, drop, refl, sym, ◌∙◌, ap, subst, Option, Some, append_assoc, append-nil}
use Rattle.std.specs.Option.{option_map}
use Rattle.std.specs.List.{list_all}
use Rattle.std.proofs.lemmas.List.{take-append-drop}
use Rattle.std.proofs.lemmas.List.Folds.{list_all-append}
use Rattle.std.proofs.lemmas.Option.{same_Some}
use Rattle.std.proofs.Math.Seq.{take-append_seam, drop-append_seam}
use Rattle.edge_words.specs.Words.{is_word, are_words, is_visible}
use Rattle.edge_words.specs.Reading.{begins, Avoids, mapped, both, whole, at_end}
use Rattle.edge_words.proofs.Numbers.{same_bytes, bytes_eq_refl}
use Rattle.edge_words.proofs.Laws.{IsLawful, IsWhole, FitBoth, bind_some, map_some, end_takes}

-- The first of some words are read as they are spelled, and read again before words that Rest allows.
pub record IsLawfulBefore {X : Type 0} (Rest : List (List ℕ) → Type 0) (spell : X → List (List ℕ)) (Fits : X → Type 0) (read : List (List ℕ) → Option (X × List (List ℕ))) : Type 0 where
  pub takes : (words : List (List ℕ)) (x : X × List (List ℕ)) → read words ≡ Some x → (words ≡ spell x.0 ++ x.1) × Fits x.0
  pub again : (x : X) (rest : List (List ℕ)) → Fits x → Rest rest → read (spell x ++ rest) ≡ Some (x, rest)
  pub words : (x : X) → Fits x → are_words (spell x) ≡ true

-- whatever follows
pub before_all : {X : Type 0} (Rest : List (List ℕ) → Type 0) (spell : X → List (List ℕ)) (Fits : X → Type 0) (read : List (List ℕ) → Option (X × List (List ℕ))) → IsLawful spell Fits read → IsLawfulBefore Rest spell Fits read
before_all Rest spell Fits read law = record {
  takes = law.takes;
  again = λ x rest fits _. law.again x rest fits;
  words = law.words;
}

-- fewer words may follow
pub before_fewer : {X : Type 0} (Rest Fewer : List (List ℕ) → Type 0) (spell : X → List (List ℕ)) (Fits : X → Type 0) (read : List (List ℕ) → Option (X × List (List ℕ))) → IsLawfulBefore Rest spell Fits read → ((rest : List (List ℕ)) → Fewer rest → Rest rest) → IsLawfulBefore Fewer spell Fits read
before_fewer Rest Fewer spell Fits read law fewer = record {
  takes = law.takes;
  again = λ x rest fits after. law.again x rest fits (fewer rest after);
  words = law.words;
}

-- ---- one reading and then another, which may follow it

abbrev pub MayFollow : {Y : Type 0} → (List (List ℕ) → Type 0) → (List (List ℕ) → Type 0) → (Y → List (List ℕ)) → (Y → Type 0) → Type 0
MayFollow {Y} First Rest spell Fits = (y : Y) (rest : List (List ℕ)) → Fits y → Rest rest → First (spell y ++ rest)

then_takes : {X Y : Type 0} (First Rest : List (List ℕ) → Type 0) (spell : X → List (List ℕ)) (Fits : X → Type 0) (read : List (List ℕ) → Option (X × List (List ℕ))) (spell' : Y → List (List ℕ)) (Fits' : Y → Type 0) (read' : List (List ℕ) → Option (Y × List (List ℕ)))
    → IsLawfulBefore First spell Fits read → IsLawfulBefore Rest spell' Fits' read'
    → (words : List (List ℕ)) (x : (X × Y) × List (List ℕ)) → both read read' words ≡ Some x → (words ≡ (spell x.0.0 ++ spell' x.0.1) ++ x.1) × FitBoth Fits Fits' x.0
then_takes {X} {Y} First Rest spell Fits read spell' Fits' read' first second words x e =
    let a = bind_some (read words) _ x e in
    let b = bind_some (read' a.0.1) _ x a.2 in
    let front = first.takes words a.0 a.1 in
    let back = second.takes a.0.1 b.0 b.1 in
    let P : (X × Y) × List (List ℕ) → Type 0 = λ p. (words ≡ (spell p.0.0 ++ spell' p.0.1) ++ p.1) × FitBoth Fits Fits' p.0 in
    subst P (same_Some _ _ b.2) (
      front.0 ∙ ap (λ (rest : List (List ℕ)). spell a.0.0 ++ rest) back.0 ∙ sym (append_assoc (spell a.0.0) (spell' b.0.0) b.0.1),
      (front.1, back.1),
    )

pub both_before : {X Y : Type 0} (First Rest : List (List ℕ) → Type 0) (spell : X → List (List ℕ)) (Fits : X → Type 0) (read : List (List ℕ) → Option (X × List (List ℕ))) (spell' : Y → List (List ℕ)) (Fits' : Y → Type 0) (read' : List (List ℕ) → Option (Y × List (List ℕ)))
    → IsLawfulBefore First spell Fits read → IsLawfulBefore Rest spell' Fits' read' → MayFollow First Rest spell' Fits'
    → IsLawfulBefore Rest (λ (x : X × Y). spell x.0 ++ spell' x.1) (FitBoth Fits Fits') (both read read')
both_before First Rest spell Fits read spell' Fits' read' first second follows = record {
  takes = then_takes First Rest spell Fits read spell' Fits' read' first second;
  again = λ x rest fits after. rw (append_assoc (spell x.0) (spell' x.1) rest, first.again x.0 (spell' x.1 ++ rest) fits.0 (follows x.1 rest fits.1 after), second.again x.1 rest fits.1 after) refl;
  words = λ x fits. rw (list_all-append is_word (spell x.0) (spell' x.1), first.words x.0 fits.0) (second.words x.1 fits.1);
}

-- ---- a reading, and what is made of it

mapped_takes : {X Y : Type 0} (make : X → Y) (Rest : List (List ℕ) → Type 0) (spell : X → List (List ℕ)) (Fits : X → Type 0) (read : List (List ℕ) → Option (X × List (List ℕ))) (spell' : Y → List (List ℕ)) (Fits' : Y → Type 0)
    → IsLawfulBefore Rest spell Fits read → ((x : X) → Fits x → (spell x ≡ spell' (make x)) × Fits' (make x))
    → (words : List (List ℕ)) (y : Y × List (List ℕ)) → mapped make read words ≡ Some y → (words ≡ spell' y.0 ++ y.1) × Fits' y.0
mapped_takes {X} {Y} make Rest spell Fits read spell' Fits' law makes words y e =
    let x = map_some (λ (r : X × List (List ℕ)). (make r.0, r.1)) (read words) y e in
    let found = law.takes words x.0 x.1 in
    let made = makes x.0.0 found.1 in
    let P : Y × List (List ℕ) → Type 0 = λ p. (words ≡ spell' p.0 ++ p.1) × Fits' p.0 in
    subst P x.2 (found.0 ∙ ap (λ (front : List (List ℕ)). front ++ x.0.1) made.0, made.1)

mapped_again : {X Y : Type 0} (make : X → Y) (Rest : List (List ℕ) → Type 0) (spell : X → List (List ℕ)) (Fits : X → Type 0) (read : List (List ℕ) → Option (X × List (List ℕ))) (spell' : Y → List (List ℕ)) (Fits' : Y → Type 0)
    → IsLawfulBefore Rest spell Fits read → ((x : X) → Fits x → (spell x ≡ spell' (make x)) × Fits' (make x)) → ((y : Y) → Fits' y → (x : X) × (make x ≡ y) × Fits x)
    → (y : Y) (rest : List (List ℕ)) → Fits' y → Rest rest → mapped make read (spell' y ++ rest) ≡ Some (y, rest)
mapped_again {X} {Y} make Rest spell Fits read spell' Fits' law makes made y rest fits after =
    let x = made y fits in
    let same : spell x.0 ≡ spell' y = (makes x.0 x.2).0 ∙ ap spell' x.1 in
    ap (λ (front : List (List ℕ)). mapped make read (front ++ rest)) (sym same)
    ∙ ap (option_map (λ (r : X × List (List ℕ)). (make r.0, r.1))) (law.again x.0 rest x.2 after)
    ∙ ap (λ (z : Y). Some (z, rest)) x.1

pub mapped_before : {X Y : Type 0} (make : X → Y) (Rest : List (List ℕ) → Type 0) (spell : X → List (List ℕ)) (Fits : X → Type 0) (read : List (List ℕ) → Option (X × List (List ℕ))) (spell' : Y → List (List ℕ)) (Fits' : Y → Type 0)
    → IsLawfulBefore Rest spell Fits read → ((x : X) → Fits x → (spell x ≡ spell' (make x)) × Fits' (make x)) → ((y : Y) → Fits' y → (x : X) × (make x ≡ y) × Fits x)
    → IsLawfulBefore Rest spell' Fits' (mapped make read)
mapped_before make Rest spell Fits read spell' Fits' law makes made = record {
  takes = mapped_takes make Rest spell Fits read spell' Fits' law makes;
  again = mapped_again make Rest spell Fits read spell' Fits' law makes made;
  words = λ y fits.
      let x = made y fits in
      subst (λ (ws : List (List ℕ)). are_words ws ≡ true) ((makes x.0 x.2).0 ∙ ap spell' x.1) (law.words x.0 x.2);
}

-- ---- a word that begins so

-- what stands behind the prefix
pub begun_takes : (prefix word : List ℕ) → begins prefix word ≡ true → word ≡ prefix ++ drop (length prefix) word
begun_takes prefix word same =
    sym (take-append-drop (length prefix) word) ∙ ap (λ (front : List ℕ). front ++ drop (length prefix) word) (same_bytes _ _ same)

pub begun_again : (prefix text : List ℕ) → (begins prefix (prefix ++ text) ≡ true) × (drop (length prefix) (prefix ++ text) ≡ text)
begun_again prefix text = (rw (take-append_seam prefix text) (bytes_eq_refl prefix), drop-append_seam prefix text)

pub begun_word : (prefix text : List ℕ) → is_word prefix ≡ true → is_word text ≡ true → is_word (prefix ++ text) ≡ true
begun_word prefix text front back = rw (list_all-append is_visible prefix text, front) back

-- other words don't begin so
pub avoided : (prefix word : List ℕ) (words : List (List ℕ)) → Avoids (prefix ∷ []) (word ∷ words) → begins prefix word ≡ false
avoided prefix word words e =
    elim (begins prefix word) as (λ (b : Bool). list_all (λ (q : Bool). not q) (b ∷ []) ≡ true → b ≡ false) [ true ↦ λ e. cc e | false ↦ λ _. refl ] e

-- ---- all words

whole_takes : {X : Type 0} (Rest : List (List ℕ) → Type 0) (spell : X → List (List ℕ)) (Fits : X → Type 0) (read : List (List ℕ) → Option (X × List (List ℕ))) → IsLawfulBefore Rest spell Fits read → (words : List (List ℕ)) (x : X) → whole read words ≡ Some x → (words ≡ spell x) × Fits x
whole_takes {X} Rest spell Fits read law words x e =
    let a = bind_some (read words) _ x e in
    let end = bind_some (at_end a.0.1) _ x a.2 in
    let front = law.takes words a.0 a.1 in
    let P : X → Type 0 = λ y. (words ≡ spell y) × Fits y in
    subst P (same_Some _ _ end.2) (
      front.0 ∙ ap (λ (rest : List (List ℕ)). spell a.0.0 ++ rest) (end_takes a.0.1 end.0 end.1) ∙ append-nil (spell a.0.0),
      front.1,
    )

pub whole_before : {X : Type 0} (Rest : List (List ℕ) → Type 0) (spell : X → List (List ℕ)) (Fits : X → Type 0) (read : List (List ℕ) → Option (X × List (List ℕ))) → IsLawfulBefore Rest spell Fits read → Rest [] → IsWhole spell Fits (whole read)
whole_before Rest spell Fits read law none = record {
  takes = whole_takes Rest spell Fits read law;
  again = λ x fits. ap (whole read) (sym (append-nil (spell x))) ∙ rw (law.again x [] fits none) refl;
  words = law.words;
}
