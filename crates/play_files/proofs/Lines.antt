-- The lines of a play file, read back.
use Rattle.std.proofs.Common.{◌≡◌, ℕ, Bool, true, false, List, [], ◌∷◌, length, refl, sym, ◌∙◌, ap, subst, Option, None, Some, eqb-true, eq-eqb}
use Rattle.std.specs.Prelude.{bytes_eq, codes, decimal, ◌==◌, if◌then◌else◌}
use Rattle.std.proofs.lemmas.Option.{cond_some}
use Rattle.edge_words.specs.Words.{hex_word, line_of, is_word, are_words}
use Rattle.edge_words.specs.Reading.{words_in, number_in, hex_in, ◌>>=◌}
use Rattle.edge_words.proofs.Numbers.{bytes_eq_refl, same_bytes, other_bytes, hex_takes, hex_again, hex_word_word}
use Rattle.edge_words.proofs.Lines.{words_again, words_takes, lacks, line_lacks_feed}
use Rattle.edge_words.proofs.Laws.{IsCodec, IsNumber, bind_some, number_codec, hex_codec}
use Rattle.hex.specs.Hex.{IsBytes}
use Rattle.play_files.specs.Play.{named_line, request_text, IsRandom}
use Rattle.play_files.specs.Reading.{word_behind, named_in, random_word, request_in}

-- ---- a name and one word

neither : (b : Bool) (word : List ℕ) → (if b then None else None) ≡ Some word → ⊥
neither true word e = cc e
neither false word e = cc e

behind_takes : (name : List ℕ) (words : List (List ℕ)) (word : List ℕ) → word_behind name words ≡ Some word → words ≡ name ∷ (word ∷ [])
behind_takes name [] word e = cc e
behind_takes name (first ∷ []) word e = absurd (neither (bytes_eq first name) word e)
behind_takes name (first ∷ (second ∷ [])) word e =
    let found = cond_some (bytes_eq first name) second word e in
    ap (λ (w : List ℕ). w ∷ (second ∷ [])) (same_bytes first name found.0) ∙ ap (λ (w : List ℕ). name ∷ (w ∷ [])) found.1
behind_takes name (first ∷ (second ∷ (third ∷ words))) word e = absurd (neither (bytes_eq first name) word e)

behind_again : (name word : List ℕ) → word_behind name (name ∷ (word ∷ [])) ≡ Some word
behind_again name word = rw (bytes_eq_refl name) refl

-- what is read is spelled so, and what is spelled so is read
pub record IsNamed {X : Type 0} (name : List ℕ) (spell : X → List ℕ) (Fits : X → Type 0) (read : List ℕ → Option X) : Type 0 where
  pub takes : (line : List ℕ) (x : X) → named_in name read line ≡ Some x → (line ≡ named_line name (spell x)) × Fits x
  pub again : (x : X) → Fits x → named_in name read (named_line name (spell x)) ≡ Some x
  pub feed : (x : X) → Fits x → lacks 10 (named_line name (spell x)) ≡ true

named_takes : {X : Type 0} (name : List ℕ) (spell : X → List ℕ) (Fits : X → Type 0) (read : List ℕ → Option X) → IsCodec spell Fits read
    → (line : List ℕ) (x : X) → named_in name read line ≡ Some x → (line ≡ named_line name (spell x)) × Fits x
named_takes name spell Fits read codec line x e =
    let behind = bind_some (word_behind name (words_in line)) read x e in
    let words = behind_takes name (words_in line) behind.0 behind.1 in
    let found = codec.takes behind.0 x behind.2 in
    (sym (words_takes line) ∙ ap line_of words ∙ ap (λ (w : List ℕ). named_line name w) found.0, found.1)

two_words : (name word : List ℕ) → is_word name ≡ true → is_word word ≡ true → are_words (name ∷ (word ∷ [])) ≡ true
two_words name word first second = rw (first, second) refl

pub named_codec : {X : Type 0} (name : List ℕ) (spell : X → List ℕ) (Fits : X → Type 0) (read : List ℕ → Option X) → is_word name ≡ true → IsCodec spell Fits read → IsNamed name spell Fits read
named_codec name spell Fits read visible codec = record {
  takes = named_takes name spell Fits read codec;
  again = λ x fits.
      ap (λ (words : List (List ℕ)). word_behind name words >>= read) (words_again name (spell x ∷ []) (two_words name (spell x) visible (codec.word x fits)))
      ∙ ap (λ (word : Option (List ℕ)). word >>= read) (behind_again name (spell x))
      ∙ codec.again x fits;
  feed = λ x fits. line_lacks_feed (name ∷ (spell x ∷ [])) (two_words name (spell x) visible (codec.word x fits));
}

-- ---- fuel, random bytes, requests

random_takes : (word random : List ℕ) → random_word word ≡ Some random → (word ≡ hex_word random) × IsRandom random
random_takes word random e =
    let read = bind_some (hex_in word) _ random e in
    let kept = cond_some (length read.0 == 32) read.0 random read.2 in
    let found = hex_takes word read.0 read.1 in
    let P : List ℕ → Type 0 = λ r. (word ≡ hex_word r) × IsRandom r in
    subst P kept.1 (found.0, (found.1, eqb-true (length read.0) 32 kept.0))

random_codec : IsCodec hex_word IsRandom random_word
random_codec = record {
  takes = random_takes;
  again = λ random fits. rw (hex_again random fits.0, eq-eqb (length random) 32 fits.1) refl;
  word = λ random fits. hex_word_word random fits.0;
}

pub fuel_law : IsNamed (codes "fuel") decimal IsNumber number_in
fuel_law = named_codec (codes "fuel") decimal IsNumber number_in refl number_codec

pub random_law : IsNamed (codes "random") hex_word IsRandom random_word
random_law = named_codec (codes "random") hex_word IsRandom random_word refl random_codec

pub request_law : IsNamed (codes "request") hex_word IsBytes hex_in
request_law = named_codec (codes "request") hex_word IsBytes hex_in refl hex_codec

-- the line before the steps is no request
pub no_request : (text : List ℕ) → IsBytes text → bytes_eq (request_text text) (codes "steps") ≡ false
no_request text fits = other_bytes (request_text text) (codes "steps") (λ e. cc (sym (request_law.again text fits) ∙ ap request_in e))
