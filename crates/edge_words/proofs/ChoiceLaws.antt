-- Laws of readings that go on by a word.
use Rattle.std.proofs.Common.{◌≡◌, ◌<◌, ◌^◌, ◌+◌, ◌%◌, nat_lt, arith, ℕ, Bool, true, false, cond, List, [], ◌∷◌, ◌++◌, refl, sym, ◌∙◌, ap, subst, option_map, Option, None, Some, ◌⊎◌, inl, inr}
use Rattle.std.specs.Prelude.{bytes_eq, decimal}
use Rattle.std.specs.List.{list_all}
use Rattle.std.proofs.lemmas.Bool.Decides.{nat_tests}
use Rattle.std.proofs.lemmas.Fmt.{decimal_by_steps}
use Rattle.std.proofs.lemmas.Option.{cond_some, same_Some}
use Rattle.std.proofs.lemmas.List.Folds.{list_all-append}
use Rattle.edge_words.specs.Words.{is_word, are_words}
use Rattle.edge_words.specs.Reading.{at_end, number_in}
use Rattle.edge_words.specs.Choices.{Row, in_row, by_name, alone, made, first_then, no_words, if_any, if_any_words, FitOption, exactly, number_or, number_or_word}
use Rattle.edge_words.proofs.Numbers.{same_bytes, other_bytes, bytes_eq_refl, number_takes, number_again, number_none, number_word}
use Rattle.edge_words.proofs.Before.{IsLawfulBefore, before_all}
use Rattle.edge_words.proofs.Laws.{IsCodec, IsLawful, IsWhole, FitBoth, bind_some, map_some}

-- which way a test went
pub chosen : {A : Type 0} (b : Bool) (x y z : A) → cond b x y ≡ z → ((b ≡ true) × (x ≡ z)) ⊎ ((b ≡ false) × (y ≡ z))
chosen true x y z e = inl (refl, e)
chosen false x y z e = inr (refl, e)

-- ---- rows

-- what a row takes is spelled so, and fits
abbrev pub RowTakes : {X : Type 0} → (X → List (List ℕ)) → (X → Type 0) → Row X → Type 0
RowTakes {X} spell Fits row = (words : List (List ℕ)) (x : X) → row.1 words ≡ Some x → (row.0 ∷ words ≡ spell x) × Fits x

abbrev pub RowsTake : {X : Type 0} → (X → List (List ℕ)) → (X → Type 0) → List (Row X) → Type 0
RowsTake spell Fits [] = Unit {0}
RowsTake spell Fits (row ∷ rows) = RowTakes spell Fits row × RowsTake spell Fits rows

in_row_takes : {X : Type 0} (spell : X → List (List ℕ)) (Fits : X → Type 0) (rows : List (Row X)) → RowsTake spell Fits rows
    → (name : List ℕ) (words : List (List ℕ)) (x : X) → in_row rows name words ≡ Some x → (name ∷ words ≡ spell x) × Fits x
in_row_takes spell Fits [] laws name words x e = cc e
in_row_takes spell Fits (row ∷ rows) laws name words x e =
    elim (chosen (bytes_eq name row.0) _ _ (Some x) e) [
      | inl same ↦
          let found = laws.0 words x same.1 in
          (ap (λ (w : List ℕ). w ∷ words) (same_bytes name row.0 same.0) ∙ found.0, found.1)
      | inr other ↦ in_row_takes spell Fits rows laws.1 name words x other.1
    ]

pub by_name_takes : {X : Type 0} (spell : X → List (List ℕ)) (Fits : X → Type 0) (rows : List (Row X)) → RowsTake spell Fits rows
    → (words : List (List ℕ)) (x : X) → by_name rows words ≡ Some x → (words ≡ spell x) × Fits x
by_name_takes spell Fits rows laws [] x e = cc e
by_name_takes spell Fits rows laws (name ∷ words) x e = in_row_takes spell Fits rows laws name words x e

-- a row that makes its value of what a lawful reading says
pub made_row : {X Y : Type 0} (name : List ℕ) (spell : X → List (List ℕ)) (Fits : X → Type 0) (read : List (List ℕ) → Option X) (make : X → Y) (words_of : Y → List (List ℕ)) (Good : Y → Type 0)
    → IsWhole spell Fits read → ((x : X) → Fits x → (name ∷ spell x ≡ words_of (make x)) × Good (make x))
    → RowTakes words_of Good (name, made make read)
made_row {X} {Y} name spell Fits read make words_of Good law facts words y e =
    let x = map_some make (read words) y e in
    let found = law.takes words x.0 x.1 in
    let good = facts x.0 found.1 in
    let P : Y → Type 0 = λ y. (name ∷ words ≡ words_of y) × Good y in
    subst P x.2 (ap (λ (ws : List (List ℕ)). name ∷ ws) found.0 ∙ good.0, good.1)

-- a row with one value, and no word after its name
pub alone_row : {Y : Type 0} (name : List ℕ) (y : Y) (words_of : Y → List (List ℕ)) (Good : Y → Type 0) → name ∷ [] ≡ words_of y → Good y → RowTakes words_of Good (name, alone y)
alone_row {Y} name y words_of Good spelled good [] z e =
    let P : Y → Type 0 = λ y. (name ∷ [] ≡ words_of y) × Good y in
    subst P (same_Some _ _ e) (spelled, good)
alone_row name y words_of Good spelled good (word ∷ words) z e = cc e

-- ---- some words, and then all others

first_then_takes : {X Y : Type 0} (Rest : List (List ℕ) → Type 0) (spell : X → List (List ℕ)) (Fits : X → Type 0) (read : List (List ℕ) → Option (X × List (List ℕ))) (spell' : Y → List (List ℕ)) (Fits' : Y → Type 0) (read' : List (List ℕ) → Option Y)
    → IsLawfulBefore Rest spell Fits read → IsWhole spell' Fits' read'
    → (words : List (List ℕ)) (x : X × Y) → first_then read read' words ≡ Some x → (words ≡ spell x.0 ++ spell' x.1) × FitBoth Fits Fits' x
first_then_takes {X} {Y} Rest spell Fits read spell' Fits' read' first second words x e =
    let a = bind_some (read words) _ x e in
    let b = bind_some (read' a.0.1) _ x a.2 in
    let front = first.takes words a.0 a.1 in
    let back = second.takes a.0.1 b.0 b.1 in
    let P : X × Y → Type 0 = λ p. (words ≡ spell p.0 ++ spell' p.1) × FitBoth Fits Fits' p in
    subst P (same_Some _ _ b.2) (front.0 ∙ ap (λ (rest : List (List ℕ)). spell a.0.0 ++ rest) back.0, (front.1, back.1))

-- where the others may follow
pub before_then_whole : {X Y : Type 0} (Rest : List (List ℕ) → Type 0) (spell : X → List (List ℕ)) (Fits : X → Type 0) (read : List (List ℕ) → Option (X × List (List ℕ))) (spell' : Y → List (List ℕ)) (Fits' : Y → Type 0) (read' : List (List ℕ) → Option Y)
    → IsLawfulBefore Rest spell Fits read → IsWhole spell' Fits' read' → ((y : Y) → Rest (spell' y))
    → IsWhole (λ (x : X × Y). spell x.0 ++ spell' x.1) (FitBoth Fits Fits') (first_then read read')
before_then_whole Rest spell Fits read spell' Fits' read' first second follows = record {
  takes = first_then_takes Rest spell Fits read spell' Fits' read' first second;
  again = λ x fits. rw (first.again x.0 (spell' x.1) fits.0 (follows x.1), second.again x.1 fits.1) refl;
  words = λ x fits. rw (list_all-append is_word (spell x.0) (spell' x.1), first.words x.0 fits.0) (second.words x.1 fits.1);
}

pub first_then_whole : {X Y : Type 0} (spell : X → List (List ℕ)) (Fits : X → Type 0) (read : List (List ℕ) → Option (X × List (List ℕ))) (spell' : Y → List (List ℕ)) (Fits' : Y → Type 0) (read' : List (List ℕ) → Option Y)
    → IsLawful spell Fits read → IsWhole spell' Fits' read'
    → IsWhole (λ (x : X × Y). spell x.0 ++ spell' x.1) (FitBoth Fits Fits') (first_then read read')
first_then_whole spell Fits read spell' Fits' read' first second =
    before_then_whole (λ _. Unit {0}) spell Fits read spell' Fits' read' (before_all (λ _. Unit {0}) spell Fits read first) second (λ y. tt)

-- ---- words that may be missing

pub some_left : (words : List (List ℕ)) → at_end words ≡ None → false ≡ no_words words
some_left [] some = cc some
some_left (word ∷ words) some = refl

if_any_takes : {X : Type 0} (spell : X → List (List ℕ)) (Fits : X → Type 0) (read : List (List ℕ) → Option X) → IsWhole spell Fits read
    → (words : List (List ℕ)) (x : Option X) → if_any read words ≡ Some x → (words ≡ if_any_words spell x) × FitOption Fits x
if_any_takes {X} spell Fits read law [] x e =
    let P : Option X → Type 0 = λ o. ([] ≡ if_any_words spell o) × FitOption Fits o in
    subst P (same_Some _ _ e) (refl, tt)
if_any_takes {X} spell Fits read law (word ∷ words) x e =
    let got = map_some (λ (y : X). Some y) (read (word ∷ words)) x e in
    let P : Option X → Type 0 = λ o. (word ∷ words ≡ if_any_words spell o) × FitOption Fits o in
    subst P got.2 (law.takes (word ∷ words) got.0 got.1)

if_any_some : {X : Type 0} (x : X) (read : List (List ℕ) → Option X) (words : List (List ℕ)) → at_end words ≡ None → read words ≡ Some x → if_any read words ≡ Some (Some x)
if_any_some x read [] some e = cc some
if_any_some x read (word ∷ words) some e = rw e refl

if_any_again : {X : Type 0} (spell : X → List (List ℕ)) (Fits : X → Type 0) (read : List (List ℕ) → Option X) → IsWhole spell Fits read → ((x : X) → at_end (spell x) ≡ None)
    → (x : Option X) → FitOption Fits x → if_any read (if_any_words spell x) ≡ Some x
if_any_again spell Fits read law some None fits = refl
if_any_again spell Fits read law some (Some x) fits = if_any_some x read (spell x) (some x) (law.again x fits)

if_any_visible : {X : Type 0} (spell : X → List (List ℕ)) (Fits : X → Type 0) (read : List (List ℕ) → Option X) → IsWhole spell Fits read
    → (x : Option X) → FitOption Fits x → are_words (if_any_words spell x) ≡ true
if_any_visible spell Fits read law None fits = refl
if_any_visible spell Fits read law (Some x) fits = law.words x fits

pub if_any_whole : {X : Type 0} (spell : X → List (List ℕ)) (Fits : X → Type 0) (read : List (List ℕ) → Option X) → IsWhole spell Fits read → ((x : X) → at_end (spell x) ≡ None) → IsWhole (if_any_words spell) (FitOption Fits) (if_any read)
if_any_whole spell Fits read law some = record {
  takes = if_any_takes spell Fits read law;
  again = if_any_again spell Fits read law some;
  words = if_any_visible spell Fits read law;
}

-- ---- words

exactly_takes : (name word : List ℕ) (x : Unit {0}) → exactly name word ≡ Some x → (word ≡ name) × Unit {0}
exactly_takes name word x e = (same_bytes word name (cond_some _ _ _ e).0, tt)

pub exactly_codec : (name : List ℕ) → is_word name ≡ true → IsCodec (λ (_ : Unit {0}). name) (λ _. Unit {0}) (exactly name)
exactly_codec name visible = record {
  takes = exactly_takes name;
  again = λ x fits. rw (bytes_eq_refl name) refl;
  word = λ x fits. visible;
}

-- a number has digits alone
abbrev is_digit_or_less : ℕ → Bool
is_digit_or_less b = nat_lt b 58

number_digits : (n : ℕ) → n < 2 ^ 64 → list_all is_digit_or_less (decimal n) ≡ true
number_digits n fits =
    decimal_by_steps (λ _ digits. list_all is_digit_or_less digits ≡ true)
    (λ k small. grind (arith, nat_tests))
    (λ k digits big front. rw (list_all-append is_digit_or_less digits ((48 + k % 10) ∷ []), front) (grind (arith, nat_tests)))
    n fits

pub no_digits : (word : List ℕ) → list_all (λ b. nat_lt b 58) word ≡ false → number_in word ≡ None
no_digits word other = sym (number_none word (λ n fits e. cc (sym (number_digits n fits) ∙ ap (list_all is_digit_or_less) (sym e) ∙ other)))

-- the number is below this
abbrev pub IsNumberBelow : ℕ → Option ℕ → Type 0
IsNumberBelow bound = FitOption (λ n. n < bound)

number_or_takes : (name word : List ℕ) (x : Option ℕ) → number_or name word ≡ Some x → (word ≡ number_or_word name x) × IsNumberBelow (2 ^ 64) x
number_or_takes name word x e =
    let P : Option ℕ → Type 0 = λ o. (word ≡ number_or_word name o) × IsNumberBelow (2 ^ 64) o in
    elim (chosen (bytes_eq word name) _ _ (Some x) e) [
      | inl same ↦ subst P (same_Some _ _ same.1) (same_bytes word name same.0, tt)
      | inr other ↦
          let n = map_some (λ (k : ℕ). Some k) (number_in word) x other.1 in
          subst P n.2 (number_takes word n.0 n.1)
    ]

number_or_again : (name : List ℕ) → number_in name ≡ None → (x : Option ℕ) → IsNumberBelow (2 ^ 64) x → number_or name (number_or_word name x) ≡ Some x
number_or_again name none None fits = rw (bytes_eq_refl name) refl
number_or_again name none (Some n) fits =
    let other = other_bytes (decimal n) name (λ e. cc (sym (number_again n fits) ∙ ap number_in e ∙ none)) in
    rw (other, number_again n fits) refl

number_or_visible : (name : List ℕ) → is_word name ≡ true → (x : Option ℕ) → IsNumberBelow (2 ^ 64) x → is_word (number_or_word name x) ≡ true
number_or_visible name visible None fits = visible
number_or_visible name visible (Some n) fits = number_word n fits

pub number_or_codec : (name : List ℕ) → is_word name ≡ true → number_in name ≡ None → IsCodec (number_or_word name) (IsNumberBelow (2 ^ 64)) (number_or name)
number_or_codec name visible none = record {
  takes = number_or_takes name;
  again = number_or_again name none;
  word = number_or_visible name visible;
}

-- ---- readings made into values

-- A reading whose value is made of what a lawful reading says, where back finds again what was said.
pub made_whole : {X Y : Type 0} (spell : X → List (List ℕ)) (Fits : X → Type 0) (read : List (List ℕ) → Option X) (make : X → Y) (back : Y → X) (words_of : Y → List (List ℕ)) (Good : Y → Type 0)
    → IsWhole spell Fits read
    → ((x : X) → Fits x → (spell x ≡ words_of (make x)) × Good (make x))
    → ((y : Y) → Good y → (make (back y) ≡ y) × (spell (back y) ≡ words_of y) × Fits (back y))
    → IsWhole words_of Good (made make read)
made_whole {X} {Y} spell Fits read make back words_of Good law facts found = record {
  takes = λ words y e.
      let x = map_some make (read words) y e in
      let taken = law.takes words x.0 x.1 in
      let good = facts x.0 taken.1 in
      let P : Y → Type 0 = λ y. (words ≡ words_of y) × Good y in
      subst P x.2 (taken.0 ∙ good.0, good.1);
  again = λ y good.
      let said = found y good in
      ap (made make read) (sym said.1) ∙ ap (option_map make) (law.again (back y) said.2) ∙ ap (λ (z : Y). Some z) said.0;
  words = λ y good.
      let said = found y good in
      ap are_words (sym said.1) ∙ law.words (back y) said.2;
}

-- a reading by names, of which each value is taken again
pub by_name_whole : {X : Type 0} (spell : X → List (List ℕ)) (Fits : X → Type 0) (rows : List (Row X)) → RowsTake spell Fits rows
    → ((x : X) → Fits x → (by_name rows (spell x) ≡ Some x) × (are_words (spell x) ≡ true))
    → IsWhole spell Fits (by_name rows)
by_name_whole spell Fits rows takes again = record {
  takes = by_name_takes spell Fits rows takes;
  again = λ x fits. (again x fits).0;
  words = λ x fits. (again x fits).1;
}
