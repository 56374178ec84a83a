-- Pieces with commas between them.
use Rattle.std.proofs.Common.{◌≡◌, ℕ, true, not, List, [], ◌∷◌, ◌++◌, refl, sym, ◌∙◌, ap, subst, Option, Some, append-nil, map}
use Rattle.std.specs.List.{list_all, flat_map, join_with_byte}
use Rattle.std.proofs.lemmas.Bool.{and_parts}
use Rattle.std.proofs.lemmas.List.Folds.{list_all-append}
use Rattle.std.proofs.lemmas.List.Splits.{join_with_byte-slice_split}
use Rattle.std.proofs.lemmas.Option.{same_Some}
use Rattle.hex.specs.Hex.{IsBytes}
use Rattle.std.specs.Prelude.{◌==◌}
use Rattle.edge_words.specs.Words.{hex_word, is_word, is_visible, after_comma, listed}
use Rattle.edge_words.specs.Reading.{parts_at, at_end, each, listed_in, AllFit}
use Rattle.edge_words.proofs.Parts.{words_left}
use Rattle.edge_words.proofs.Numbers.{hex_passes}
use Rattle.edge_words.proofs.Lines.{lacks, parts_here, parts_last}
use Rattle.edge_words.proofs.Laws.{IsCodec, bind_some, map_some}

-- ---- cut where they were joined

listed_join : (pieces : List (List ℕ)) → join_with_byte 44 pieces ≡ listed pieces
listed_join [] = refl
listed_join (piece ∷ []) = sym (append-nil piece)
listed_join (piece ∷ (next ∷ pieces)) = ap (λ (rest : List ℕ). piece ++ (44 ∷ rest)) (listed_join (next ∷ pieces))

pub listed_takes : (text : List ℕ) → listed (parts_at 44 text) ≡ text
listed_takes text = sym (listed_join (parts_at 44 text)) ∙ join_with_byte-slice_split 44 text

pub listed_again : (piece : List ℕ) (pieces : List (List ℕ)) → list_all (lacks 44) (piece ∷ pieces) ≡ true → parts_at 44 (listed (piece ∷ pieces)) ≡ piece ∷ pieces
listed_again piece [] e =
    let parts = and_parts _ _ e in
    rw append-nil (parts_last 44 piece parts.0)
listed_again piece (next ∷ pieces) e =
    let parts = and_parts _ _ e in
    parts_here 44 piece (listed (next ∷ pieces)) parts.0 ∙ ap (λ (ps : List (List ℕ)). piece ∷ ps) (listed_again next pieces parts.1)

-- bytes in hexadecimal have none
pub hex_no_comma : (bytes : List ℕ) → IsBytes bytes → lacks 44 (hex_word bytes) ≡ true
hex_no_comma bytes fits = hex_passes (λ b. not (b == 44)) bytes refl refl fits

-- ---- a list of words without commas

-- One word of several values, none of whose spellings has a comma.
pub record IsPart {X : Type 0} (spell : X → List ℕ) (Fits : X → Type 0) (read : List ℕ → Option X) : Type 0 where
  pub codec : IsCodec spell Fits read
  pub no_comma : (x : X) → Fits x → lacks 44 (spell x) ≡ true

-- at least one, and each fits
abbrev pub SomeFit : {X : Type 0} → (X → Type 0) → List X → Type 0
SomeFit Fits [] = ⊥
SomeFit Fits (x ∷ xs) = Fits x × AllFit Fits xs

abbrev pub listed_word : {X : Type 0} → (X → List ℕ) → List X → List ℕ
listed_word spell xs = listed (map spell xs)

each_takes : {X : Type 0} (spell : X → List ℕ) (Fits : X → Type 0) (read : List ℕ → Option X) → IsCodec spell Fits read
    → (parts : List (List ℕ)) (xs : List X) → each read parts ≡ Some xs → (parts ≡ map spell xs) × AllFit Fits xs
each_takes {X} spell Fits read codec [] xs e =
    let P : List X → Type 0 = λ ys. ([] ≡ map spell ys) × AllFit Fits ys in
    subst P (same_Some _ _ e) (refl, tt)
each_takes {X} spell Fits read codec (part ∷ parts) xs e =
    let x = bind_some (read part) _ xs e in
    let more = map_some (λ (ys : List X). x.0 ∷ ys) (each read parts) xs x.2 in
    let inner = codec.takes part x.0 x.1 in
    let others = each_takes spell Fits read codec parts more.0 more.1 in
    let P : List X → Type 0 = λ ys. (part ∷ parts ≡ map spell ys) × AllFit Fits ys in
    subst P more.2 (ap (λ (p : List ℕ). p ∷ parts) inner.0 ∙ ap (λ (ps : List (List ℕ)). spell x.0 ∷ ps) others.0, (inner.1, others.1))

each_again : {X : Type 0} (spell : X → List ℕ) (Fits : X → Type 0) (read : List ℕ → Option X) → IsCodec spell Fits read → (xs : List X) → AllFit Fits xs → each read (map spell xs) ≡ Some xs
each_again spell Fits read codec [] fits = refl
each_again spell Fits read codec (x ∷ xs) fits = rw (codec.again x fits.0, each_again spell Fits read codec xs fits.1) refl

-- a text has a part
some_fit : {X : Type 0} (spell : X → List ℕ) (Fits : X → Type 0) (text : List ℕ) (xs : List X) → parts_at 44 text ≡ map spell xs → AllFit Fits xs → SomeFit Fits xs
some_fit spell Fits text [] e fits = cc (sym (words_left 44 text) ∙ ap at_end e)
some_fit spell Fits text (x ∷ xs) e fits = fits

parts_lack : {X : Type 0} (spell : X → List ℕ) (Fits : X → Type 0) (read : List ℕ → Option X) → IsPart spell Fits read → (xs : List X) → AllFit Fits xs → list_all (lacks 44) (map spell xs) ≡ true
parts_lack spell Fits read part [] fits = refl
parts_lack spell Fits read part (x ∷ xs) fits = rw (part.no_comma x fits.0) (parts_lack spell Fits read part xs fits.1)

listed_read : {X : Type 0} (spell : X → List ℕ) (Fits : X → Type 0) (read : List ℕ → Option X) → IsPart spell Fits read → (xs : List X) → SomeFit Fits xs → listed_in read (listed_word spell xs) ≡ Some xs
listed_read spell Fits read part [] fits = absurd fits
listed_read spell Fits read part (x ∷ xs) fits =
    ap (each read) (listed_again (spell x) (map spell xs) (parts_lack spell Fits read part (x ∷ xs) fits)) ∙ each_again spell Fits read part.codec (x ∷ xs) fits

more_word : {X : Type 0} (spell : X → List ℕ) (Fits : X → Type 0) (read : List ℕ → Option X) → IsCodec spell Fits read → (xs : List X) → AllFit Fits xs → is_word (flat_map after_comma (map spell xs)) ≡ true
more_word spell Fits read codec [] fits = refl
more_word spell Fits read codec (x ∷ xs) fits =
    rw (list_all-append is_visible (spell x) (flat_map after_comma (map spell xs)), codec.word x fits.0) (more_word spell Fits read codec xs fits.1)

list_word : {X : Type 0} (spell : X → List ℕ) (Fits : X → Type 0) (read : List ℕ → Option X) → IsCodec spell Fits read → (xs : List X) → SomeFit Fits xs → is_word (listed_word spell xs) ≡ true
list_word spell Fits read codec [] fits = absurd fits
list_word spell Fits read codec (x ∷ xs) fits =
    rw (list_all-append is_visible (spell x) (flat_map after_comma (map spell xs)), codec.word x fits.0) (more_word spell Fits read codec xs fits.1)

pub listed_codec : {X : Type 0} (spell : X → List ℕ) (Fits : X → Type 0) (read : List ℕ → Option X) → IsPart spell Fits read → IsCodec (listed_word spell) (SomeFit Fits) (listed_in read)
listed_codec spell Fits read part = record {
  takes = λ text xs e.
      let found = each_takes spell Fits read part.codec (parts_at 44 text) xs e in
      (sym (listed_takes text) ∙ ap listed found.0, some_fit spell Fits text xs found.0 found.1);
  again = listed_read spell Fits read part;
  word = list_word spell Fits read part.codec;
}
