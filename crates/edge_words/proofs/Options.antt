-- Laws of words that may be left out, and of words that may be repeated.
use Rattle.std.proofs.Common.{◌≡◌, ℕ, Bool, true, false, cond, List, [], ◌∷◌, ◌++◌, length, drop, refl, sym, ◌∙◌, ap, subst, Option, None, Some, ◌⊎◌, inl, inr, map}
use Rattle.std.proofs.lemmas.Option.{same_Some}
use Rattle.edge_words.specs.Words.{is_word, are_words}
use Rattle.edge_words.specs.Reading.{begins, Avoids, read_or, maybe, many, onto, AllFit, ◌>>=◌}
use Rattle.edge_words.proofs.Laws.{IsCodec, bind_some, map_some}
use Rattle.edge_words.proofs.Before.{IsLawfulBefore, begun_takes, begun_again, begun_word, avoided}

-- ---- a word that may be left out

-- What stands for none has no words, and every other value has one.
pub record IsOption {X : Type 0} (prefix : List ℕ) (absent : X) (words : X → List (List ℕ)) (Fits : X → Type 0) (spell : X → List ℕ) (Present : X → Type 0) : Type 0 where
  pub none : words absent ≡ []
  pub none_fits : Fits absent
  pub some : (x : X) → Present x → (words x ≡ (prefix ++ spell x) ∷ []) × Fits x
  pub either : (x : X) → Fits x → (x ≡ absent) ⊎ Present x

maybe_takes : {X : Type 0} (prefix : List ℕ) (absent : X) (spelled : X → List (List ℕ)) (Fits : X → Type 0) (spell : X → List ℕ) (Present : X → Type 0) (read : List ℕ → Option X) → IsOption prefix absent spelled Fits spell Present → IsCodec spell Present read
    → (words : List (List ℕ)) (x : X × List (List ℕ)) → maybe prefix read absent words ≡ Some x → (words ≡ spelled x.0 ++ x.1) × Fits x.0
maybe_takes {X} prefix absent spelled Fits spell Present read option codec [] x e =
    let P : X × List (List ℕ) → Type 0 = λ p. ([] ≡ spelled p.0 ++ p.1) × Fits p.0 in
    subst P (same_Some _ _ e) (ap (λ (ws : List (List ℕ)). ws ++ []) (sym option.none), option.none_fits)
maybe_takes {X} prefix absent spelled Fits spell Present read option codec (word ∷ words) x e =
    let P : X × List (List ℕ) → Type 0 = λ p. (word ∷ words ≡ spelled p.0 ++ p.1) × Fits p.0 in
    let with : (t : Bool) → begins prefix word ≡ t → read_or read absent (cond t (Some (drop (length prefix) word), words) (None, word ∷ words)) ≡ Some x → P x =
    elim [
      | true ↦ λ same e.
          let got = map_some (λ (y : X). (y, words)) (read (drop (length prefix) word)) x e in
          let inner = codec.takes (drop (length prefix) word) got.0 got.1 in
          let some = option.some got.0 inner.1 in
          subst P got.2 (
            ap (λ (w : List ℕ). w ∷ words) (begun_takes prefix word same ∙ ap (λ (text : List ℕ). prefix ++ text) inner.0)
                ∙ ap (λ (ws : List (List ℕ)). ws ++ words) (sym some.0),
            some.1,
          )
      | false ↦ λ _ e. subst P (same_Some _ _ e) (ap (λ (ws : List (List ℕ)). ws ++ (word ∷ words)) (sym option.none), option.none_fits)
    ] in with (begins prefix word) refl e

-- none before words that avoid it
maybe_none : {X : Type 0} (prefix : List ℕ) (absent : X) (read : List ℕ → Option X) (rest : List (List ℕ)) → Avoids (prefix ∷ []) rest → maybe prefix read absent rest ≡ Some (absent, rest)
maybe_none prefix absent read [] after = refl
maybe_none prefix absent read (word ∷ words) after = rw (avoided prefix word words after) refl

maybe_some : {X : Type 0} (prefix : List ℕ) (absent : X) (spell : X → List ℕ) (Present : X → Type 0) (read : List ℕ → Option X) → IsCodec spell Present read
    → (x : X) (rest : List (List ℕ)) → Present x → maybe prefix read absent ((prefix ++ spell x) ∷ rest) ≡ Some (x, rest)
maybe_some prefix absent spell Present read codec x rest present =
    let begun = begun_again prefix (spell x) in
    rw (begun.0, begun.1, codec.again x present) refl

maybe_again : {X : Type 0} (prefix : List ℕ) (absent : X) (spelled : X → List (List ℕ)) (Fits : X → Type 0) (spell : X → List ℕ) (Present : X → Type 0) (read : List ℕ → Option X) → IsOption prefix absent spelled Fits spell Present → IsCodec spell Present read
    → (x : X) (rest : List (List ℕ)) → Fits x → Avoids (prefix ∷ []) rest → maybe prefix read absent (spelled x ++ rest) ≡ Some (x, rest)
maybe_again {X} prefix absent spelled Fits spell Present read option codec x rest fits after =
    elim (option.either x fits) [
      | inl none ↦
          let P : X → Type 0 = λ y. maybe prefix read absent (spelled y ++ rest) ≡ Some (y, rest) in
          subst P (sym none) (ap (λ (ws : List (List ℕ)). maybe prefix read absent (ws ++ rest)) option.none ∙ maybe_none prefix absent read rest after)
      | inr present ↦
          ap (λ (ws : List (List ℕ)). maybe prefix read absent (ws ++ rest)) (option.some x present).0
          ∙ maybe_some prefix absent spell Present read codec x rest present
    ]

maybe_words : {X : Type 0} (prefix : List ℕ) (absent : X) (spelled : X → List (List ℕ)) (Fits : X → Type 0) (spell : X → List ℕ) (Present : X → Type 0) (read : List ℕ → Option X) → IsOption prefix absent spelled Fits spell Present → IsCodec spell Present read → is_word prefix ≡ true
    → (x : X) → Fits x → are_words (spelled x) ≡ true
maybe_words {X} prefix absent spelled Fits spell Present read option codec visible x fits =
    elim (option.either x fits) [
      | inl none ↦ ap (λ (y : X). are_words (spelled y)) none ∙ ap are_words option.none
      | inr present ↦ ap are_words (option.some x present).0 ∙ rw (begun_word prefix (spell x) visible (codec.word x present)) refl
    ]

pub maybe_before : {X : Type 0} (prefix : List ℕ) (absent : X) (spelled : X → List (List ℕ)) (Fits : X → Type 0) (spell : X → List ℕ) (Present : X → Type 0) (read : List ℕ → Option X) → IsOption prefix absent spelled Fits spell Present → IsCodec spell Present read → is_word prefix ≡ true
    → IsLawfulBefore (Avoids (prefix ∷ [])) spelled Fits (maybe prefix read absent)
maybe_before prefix absent spelled Fits spell Present read option codec visible = record {
  takes = maybe_takes prefix absent spelled Fits spell Present read option codec;
  again = maybe_again prefix absent spelled Fits spell Present read option codec;
  words = maybe_words prefix absent spelled Fits spell Present read option codec visible;
}

-- ---- words that may be repeated

abbrev pub prefixed_words : {X : Type 0} → List ℕ → (X → List ℕ) → List X → List (List ℕ)
prefixed_words prefix spell xs = map (λ x. prefix ++ spell x) xs

many_takes : {X : Type 0} (prefix : List ℕ) (spell : X → List ℕ) (Fits : X → Type 0) (read : List ℕ → Option X) → IsCodec spell Fits read
    → (words : List (List ℕ)) (xs : List X × List (List ℕ)) → many prefix read words ≡ Some xs → (words ≡ prefixed_words prefix spell xs.0 ++ xs.1) × AllFit Fits xs.0
many_takes {X} prefix spell Fits read codec [] xs e =
    let P : List X × List (List ℕ) → Type 0 = λ p. ([] ≡ prefixed_words prefix spell p.0 ++ p.1) × AllFit Fits p.0 in
    subst P (same_Some _ _ e) (refl, tt)
many_takes {X} prefix spell Fits read codec (word ∷ words) xs e =
    let P : List X × List (List ℕ) → Type 0 = λ p. (word ∷ words ≡ prefixed_words prefix spell p.0 ++ p.1) × AllFit Fits p.0 in
    let with : (t : Bool) → begins prefix word ≡ t → cond t (read (drop (length prefix) word) >>= λ x. onto x (many prefix read words)) (Some ([], word ∷ words)) ≡ Some xs → P xs =
    elim [
      | true ↦ λ same e.
          let x = bind_some (read (drop (length prefix) word)) _ xs e in
          let more = map_some (λ (m : List X × List (List ℕ)). (x.0 ∷ m.0, m.1)) (many prefix read words) xs x.2 in
          let inner = codec.takes (drop (length prefix) word) x.0 x.1 in
          let others = many_takes prefix spell Fits read codec words more.0 more.1 in
          subst P more.2 (
            ap (λ (w : List ℕ). w ∷ words) (begun_takes prefix word same ∙ ap (λ (text : List ℕ). prefix ++ text) inner.0)
                ∙ ap (λ (ws : List (List ℕ)). (prefix ++ spell x.0) ∷ ws) others.0,
            (inner.1, others.1),
          )
      | false ↦ λ _ e. subst P (same_Some _ _ e) (refl, tt)
    ] in with (begins prefix word) refl e

many_none : {X : Type 0} (prefix : List ℕ) (read : List ℕ → Option X) (rest : List (List ℕ)) → Avoids (prefix ∷ []) rest → many prefix read rest ≡ Some ([], rest)
many_none prefix read [] after = refl
many_none prefix read (word ∷ words) after = rw (avoided prefix word words after) refl

many_again : {X : Type 0} (prefix : List ℕ) (spell : X → List ℕ) (Fits : X → Type 0) (read : List ℕ → Option X) → IsCodec spell Fits read
    → (xs : List X) (rest : List (List ℕ)) → AllFit Fits xs → Avoids (prefix ∷ []) rest → many prefix read (prefixed_words prefix spell xs ++ rest) ≡ Some (xs, rest)
many_again prefix spell Fits read codec [] rest fits after = many_none prefix read rest after
many_again prefix spell Fits read codec (x ∷ xs) rest fits after =
    let begun = begun_again prefix (spell x) in
    rw (begun.0, begun.1, codec.again x fits.0, many_again prefix spell Fits read codec xs rest fits.1 after) refl

many_words : {X : Type 0} (prefix : List ℕ) (spell : X → List ℕ) (Fits : X → Type 0) (read : List ℕ → Option X) → IsCodec spell Fits read → is_word prefix ≡ true
    → (xs : List X) → AllFit Fits xs → are_words (prefixed_words prefix spell xs) ≡ true
many_words prefix spell Fits read codec visible [] fits = refl
many_words prefix spell Fits read codec visible (x ∷ xs) fits =
    rw (begun_word prefix (spell x) visible (codec.word x fits.0)) (many_words prefix spell Fits read codec visible xs fits.1)

pub many_before : {X : Type 0} (prefix : List ℕ) (spell : X → List ℕ) (Fits : X → Type 0) (read : List ℕ → Option X) → IsCodec spell Fits read → is_word prefix ≡ true
    → IsLawfulBefore (Avoids (prefix ∷ [])) (prefixed_words prefix spell) (AllFit Fits) (many prefix read)
many_before prefix spell Fits read codec visible = record {
  takes = many_takes prefix spell Fits read codec;
  again = many_again prefix spell Fits read codec;
  words = many_words prefix spell Fits read codec visible;
}
