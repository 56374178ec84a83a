-- Laws of readings: what is taken is spelled so, and what is spelled so is taken again.
use Rattle.std.proofs.Common.{◌≡◌, ◌<◌, ◌≤◌, ◌^◌, arith, ℕ, true, List, [], ◌∷◌, ◌++◌, length, drop, refl, sym, ◌∙◌, ap, subst, Option, None, Some, append_assoc, append-nil}
use Rattle.std.specs.Prelude.{decimal}
use Rattle.std.specs.Option.{option_map}
use Rattle.std.proofs.lemmas.Bool.{and_parts, leb-true, le-leb}
use Rattle.std.proofs.lemmas.List.{take-append-drop}
use Rattle.std.proofs.lemmas.List.Folds.{list_all-append}
use Rattle.std.proofs.Math.Seq.{take-append_seam, drop-append_seam}
use Rattle.std.proofs.lemmas.Option.{cond_some, same_Some}
use Rattle.hex.specs.Hex.{IsBytes}
use Rattle.edge_words.specs.Words.{is_word, are_words, is_visible, hex_word}
use Rattle.edge_words.specs.Reading.{one, both, whole, at_end, prefixed, without_prefix, number_in, number_from_to, hex_in, ◌>>=◌}
use Rattle.edge_words.proofs.Numbers.{same_bytes, bytes_eq_refl, number_takes, number_again, number_word, hex_takes, hex_again, hex_word_word}

-- the first reading gave a value, which the second got
pub bind_some : {A B : Type 0} (o : Option A) (f : A → Option B) (y : B) → (o >>= f) ≡ Some y → (x : A) × (o ≡ Some x) × (f x ≡ Some y)
bind_some None f y e = cc e
bind_some (Some x) f y e = (x, refl, e)

pub map_some : {A B : Type 0} (f : A → B) (o : Option A) (y : B) → option_map f o ≡ Some y → (x : A) × (o ≡ Some x) × (f x ≡ y)
map_some f None y e = cc e
map_some f (Some x) y e = (x, refl, same_Some _ _ e)

-- A word: read takes what spell gives of values that fit, and nothing else.
pub record IsCodec {X : Type 0} (spell : X → List ℕ) (Fits : X → Type 0) (read : List ℕ → Option X) : Type 0 where
  pub takes : (word : List ℕ) (x : X) → read word ≡ Some x → (word ≡ spell x) × Fits x
  pub again : (x : X) → Fits x → read (spell x) ≡ Some x
  pub word : (x : X) → Fits x → is_word (spell x) ≡ true

-- The same of the first of some words, with the words that are left.
pub record IsLawful {X : Type 0} (spell : X → List (List ℕ)) (Fits : X → Type 0) (read : List (List ℕ) → Option (X × List (List ℕ))) : Type 0 where
  pub takes : (words : List (List ℕ)) (x : X × List (List ℕ)) → read words ≡ Some x → (words ≡ spell x.0 ++ x.1) × Fits x.0
  pub again : (x : X) (rest : List (List ℕ)) → Fits x → read (spell x ++ rest) ≡ Some (x, rest)
  pub words : (x : X) → Fits x → are_words (spell x) ≡ true

-- The same of all words that are left.
pub record IsWhole {X : Type 0} (spell : X → List (List ℕ)) (Fits : X → Type 0) (read : List (List ℕ) → Option X) : Type 0 where
  pub takes : (words : List (List ℕ)) (x : X) → read words ≡ Some x → (words ≡ spell x) × Fits x
  pub again : (x : X) → Fits x → read (spell x) ≡ Some x
  pub words : (x : X) → Fits x → are_words (spell x) ≡ true

abbrev pub IsNumber : ℕ → Type 0
IsNumber n = n < 2 ^ 64

pub number_codec : IsCodec decimal IsNumber number_in
number_codec = record { takes = number_takes; again = number_again; word = number_word }

pub hex_codec : IsCodec hex_word IsBytes hex_in
hex_codec = record { takes = hex_takes; again = hex_again; word = hex_word_word }

-- a number within bounds
abbrev pub IsFromTo : ℕ → ℕ → ℕ → Type 0
IsFromTo least most n = (least ≤ n) × (n ≤ most)

from_to_takes : (least most : ℕ) (word : List ℕ) (n : ℕ) → number_from_to least most word ≡ Some n → (word ≡ decimal n) × IsFromTo least most n
from_to_takes least most word n e =
    let read = bind_some (number_in word) _ n e in
    let found = cond_some _ _ _ read.2 in
    let tests = and_parts _ _ found.0 in
    let P : ℕ → Type 0 = λ k. (word ≡ decimal k) × IsFromTo least most k in
    subst P found.1 ((number_takes word read.0 read.1).0, (leb-true _ _ tests.0, leb-true _ _ tests.1))

pub number_from_to_codec : (least most : ℕ) → most < 2 ^ 64 → IsCodec decimal (IsFromTo least most) (number_from_to least most)
number_from_to_codec least most small = record {
  takes = from_to_takes least most;
  again = λ n fits. rw (number_again n (omega arith), le-leb least n fits.0, le-leb n most fits.1) refl;
  word = λ n fits. number_word n (omega arith);
}

-- a prefix before a word
prefixed_takes : {X : Type 0} (prefix : List ℕ) (spell : X → List ℕ) (Fits : X → Type 0) (read : List ℕ → Option X) → IsCodec spell Fits read → (word : List ℕ) (x : X) → prefixed prefix read word ≡ Some x → (word ≡ prefix ++ spell x) × Fits x
prefixed_takes prefix spell Fits read codec word x e =
    let rest = bind_some (without_prefix prefix word) read x e in
    let found = cond_some _ _ _ rest.1 in
    let inner = codec.takes rest.0 x rest.2 in (
      sym (take-append-drop (length prefix) word)
          ∙ ap (λ (front : List ℕ). front ++ drop (length prefix) word) (same_bytes _ _ found.0)
          ∙ ap (λ (back : List ℕ). prefix ++ back) (found.1 ∙ inner.0),
      inner.1,
    )

pub prefixed_codec : {X : Type 0} (prefix : List ℕ) (spell : X → List ℕ) (Fits : X → Type 0) (read : List ℕ → Option X) → is_word prefix ≡ true → IsCodec spell Fits read → IsCodec (λ x. prefix ++ spell x) Fits (prefixed prefix read)
prefixed_codec prefix spell Fits read visible codec = record {
  takes = prefixed_takes prefix spell Fits read codec;
  again = λ x fits. rw (take-append_seam prefix (spell x), bytes_eq_refl prefix, drop-append_seam prefix (spell x)) (codec.again x fits);
  word = λ x fits. rw (list_all-append is_visible prefix (spell x), visible) (codec.word x fits);
}

-- one word
one_takes : {X : Type 0} (spell : X → List ℕ) (Fits : X → Type 0) (read : List ℕ → Option X) → IsCodec spell Fits read → (words : List (List ℕ)) (x : X × List (List ℕ)) → one read words ≡ Some x → (words ≡ spell x.0 ∷ x.1) × Fits x.0
one_takes spell Fits read codec [] x e = cc e
one_takes {X} spell Fits read codec (word ∷ words) x e =
    let got = map_some (λ (y : X). (y, words)) (read word) x e in
    let inner = codec.takes word got.0 got.1 in
    let P : X × List (List ℕ) → Type 0 = λ p. (word ∷ words ≡ spell p.0 ∷ p.1) × Fits p.0 in
    subst P got.2 (ap (λ (w : List ℕ). w ∷ words) inner.0, inner.1)

pub one_lawful : {X : Type 0} (spell : X → List ℕ) (Fits : X → Type 0) (read : List ℕ → Option X) → IsCodec spell Fits read → IsLawful (λ x. spell x ∷ []) Fits (one read)
one_lawful spell Fits read codec = record {
  takes = one_takes spell Fits read codec;
  again = λ x rest fits. rw (codec.again x fits) refl;
  words = λ x fits. rw (codec.word x fits) refl;
}

-- some words and then some others
abbrev pub FitBoth : {X Y : Type 0} → (X → Type 0) → (Y → Type 0) → X × Y → Type 0
FitBoth First Second x = First x.0 × Second x.1

both_takes : {X Y : Type 0} (spell : X → List (List ℕ)) (Fits : X → Type 0) (read : List (List ℕ) → Option (X × List (List ℕ))) (spell' : Y → List (List ℕ)) (Fits' : Y → Type 0) (read' : List (List ℕ) → Option (Y × List (List ℕ))) → IsLawful spell Fits read → IsLawful spell' Fits' read'
    → (words : List (List ℕ)) (x : (X × Y) × List (List ℕ)) → both read read' words ≡ Some x → (words ≡ (spell x.0.0 ++ spell' x.0.1) ++ x.1) × FitBoth Fits Fits' x.0
both_takes {X} {Y} spell Fits read spell' Fits' read' first second words x e =
    let a = bind_some (read words) _ x e in
    let b = bind_some (read' a.0.1) _ x a.2 in
    let front = first.takes words a.0 a.1 in
    let back = second.takes a.0.1 b.0 b.1 in
    let P : (X × Y) × List (List ℕ) → Type 0 = λ p. (words ≡ (spell p.0.0 ++ spell' p.0.1) ++ p.1) × FitBoth Fits Fits' p.0 in
    subst P (same_Some _ _ b.2) (
      front.0 ∙ ap (λ (rest : List (List ℕ)). spell a.0.0 ++ rest) back.0 ∙ sym (append_assoc (spell a.0.0) (spell' b.0.0) b.0.1),
      (front.1, back.1),
    )

pub both_lawful : {X Y : Type 0} (spell : X → List (List ℕ)) (Fits : X → Type 0) (read : List (List ℕ) → Option (X × List (List ℕ))) (spell' : Y → List (List ℕ)) (Fits' : Y → Type 0) (read' : List (List ℕ) → Option (Y × List (List ℕ))) → IsLawful spell Fits read → IsLawful spell' Fits' read'
    → IsLawful (λ (x : X × Y). spell x.0 ++ spell' x.1) (FitBoth Fits Fits') (both read read')
both_lawful spell Fits read spell' Fits' read' first second = record {
  takes = both_takes spell Fits read spell' Fits' read' first second;
  again = λ x rest fits. rw (append_assoc (spell x.0) (spell' x.1) rest, first.again x.0 (spell' x.1 ++ rest) fits.0, second.again x.1 rest fits.1) refl;
  words = λ x fits. rw (list_all-append is_word (spell x.0) (spell' x.1), first.words x.0 fits.0) (second.words x.1 fits.1);
}

-- all words
pub end_takes : (words : List (List ℕ)) (end : Unit {0}) → at_end words ≡ Some end → words ≡ []
end_takes [] end e = refl
end_takes (word ∷ words) end e = cc e

whole_takes : {X : Type 0} (spell : X → List (List ℕ)) (Fits : X → Type 0) (read : List (List ℕ) → Option (X × List (List ℕ))) → IsLawful spell Fits read → (words : List (List ℕ)) (x : X) → whole read words ≡ Some x → (words ≡ spell x) × Fits x
whole_takes {X} spell Fits read lawful words x e =
    let a = bind_some (read words) _ x e in
    let end = bind_some (at_end a.0.1) _ x a.2 in
    let front = lawful.takes words a.0 a.1 in
    let P : X → Type 0 = λ y. (words ≡ spell y) × Fits y in
    subst P (same_Some _ _ end.2) (
      front.0 ∙ ap (λ (rest : List (List ℕ)). spell a.0.0 ++ rest) (end_takes a.0.1 end.0 end.1) ∙ append-nil (spell a.0.0),
      front.1,
    )

pub whole_lawful : {X : Type 0} (spell : X → List (List ℕ)) (Fits : X → Type 0) (read : List (List ℕ) → Option (X × List (List ℕ))) → IsLawful spell Fits read → IsWhole spell Fits (whole read)
whole_lawful spell Fits read lawful = record {
  takes = whole_takes spell Fits read lawful;
  again = λ x fits. ap (whole read) (sym (append-nil (spell x))) ∙ rw (lawful.again x [] fits) refl;
  words = lawful.words;
}
