-- Laws of what may be left out: terms, and what an insertion says.
use Rattle.std.proofs.Common.{◌≡◌, ◌<◌, ◌≤◌, ◌^◌, ℕ, true, false, zero, suc, List, [], ◌∷◌, ◌++◌, length, refl, sym, ◌∙◌, ap, subst, Option, None, Some, ◌⊎◌, inl, inr, map, arith}
use Rattle.std.specs.Prelude.{decimal, codes, ◌==◌}
use Rattle.std.specs.Option.{option_map}
use Rattle.std.proofs.lemmas.Bool.{leb-true, le-leb}
use Rattle.std.proofs.lemmas.Bool.Decides.{nat_tests}
use Rattle.std.proofs.lemmas.Option.{cond_some, same_Some}
use Rattle.hex.specs.Hex.{IsBytes}
use Rattle.cache_types.specs.Rule.{is_rule}
use Rattle.edge_words.specs.Words.{is_word, hex_word, listed}
use Rattle.edge_words.specs.Reading.{AllFit, number_in, hex_in, listed_in, ◌>>=◌}
use Rattle.edge_words.proofs.Numbers.{number_takes, number_again, number_word, hex_takes, hex_again, hex_word_word}
use Rattle.edge_words.proofs.Laws.{IsCodec, IsNumber, bind_some, map_some}
use Rattle.edge_words.proofs.Commas.{SomeFit, listed_word, listed_codec}
use Rattle.edge_words.proofs.Options.{IsOption}
use Rattle.call_lines.specs.Calls.{number_words, list_words, metadata_words, length_words}
use Rattle.call_lines.specs.Lines.{IsName, AreRuleNames, IsDeclared}
use Rattle.call_lines.specs.Reading.{name_in, positive_in, not_none, some_bytes_in, rising, rule_of, known_in}
use Rattle.call_lines.proofs.Fields.{as_it_is, name_part, hex_part}

-- ---- numbers and bytes that may be left out

abbrev pub IsPositive : ℕ → Type 0
IsPositive n = (1 ≤ n) × (n < 2 ^ 64)

positive_takes : (word : List ℕ) (n : ℕ) → positive_in word ≡ Some n → (word ≡ decimal n) × IsPositive n
positive_takes word n e =
    let read = bind_some (number_in word) _ n e in
    let found = cond_some _ _ _ read.2 in
    let number = number_takes word read.0 read.1 in
    let P : ℕ → Type 0 = λ k. (word ≡ decimal k) × IsPositive k in
    subst P found.1 (number.0, (leb-true _ _ found.0, number.1))

pub positive_codec : IsCodec decimal IsPositive positive_in
positive_codec = record {
  takes = positive_takes;
  again = λ n fits. rw (number_again n fits.1, le-leb 1 n fits.0) refl;
  word = λ n fits. number_word n fits.1;
}

not_zero : (n : ℕ) → 1 ≤ n → (n == 0) ≡ false
not_zero n some = grind (arith, nat_tests)

zero_or_more : (n : ℕ) → IsNumber n → (n ≡ 0) ⊎ IsPositive n
zero_or_more zero fits = inl refl
zero_or_more (suc n) fits = inr (omega arith, fits)

pub number_is_option : (prefix : List ℕ) → IsOption prefix 0 (number_words prefix) IsNumber decimal IsPositive
number_is_option prefix = record {
  none = refl;
  none_fits = omega arith;
  some = λ n fits. (rw (not_zero n fits.0) refl, fits.1);
  either = zero_or_more;
}

abbrev pub IsSomeBytes : List ℕ → Type 0
IsSomeBytes [] = ⊥
IsSomeBytes (byte ∷ bytes) = IsBytes (byte ∷ bytes)

not_none_takes : (bytes some : List ℕ) → not_none bytes ≡ Some some → IsBytes bytes → (bytes ≡ some) × IsSomeBytes some
not_none_takes [] some e fits = cc e
not_none_takes (byte ∷ bytes) some e fits =
    let same = same_Some _ _ e in
    (same, subst IsSomeBytes same fits)

some_bytes_takes : (word bytes : List ℕ) → some_bytes_in word ≡ Some bytes → (word ≡ hex_word bytes) × IsSomeBytes bytes
some_bytes_takes word bytes e =
    let read = bind_some (hex_in word) not_none bytes e in
    let found = hex_takes word read.0 read.1 in
    let kept = not_none_takes read.0 bytes read.2 found.1 in
    (found.0 ∙ ap hex_word kept.0, kept.1)

some_bytes_again : (bytes : List ℕ) → IsSomeBytes bytes → some_bytes_in (hex_word bytes) ≡ Some bytes
some_bytes_again [] fits = absurd fits
some_bytes_again (byte ∷ bytes) fits = ap (λ (read : Option (List ℕ)). read >>= not_none) (hex_again (byte ∷ bytes) fits)

some_bytes_word : (bytes : List ℕ) → IsSomeBytes bytes → is_word (hex_word bytes) ≡ true
some_bytes_word [] fits = absurd fits
some_bytes_word (byte ∷ bytes) fits = hex_word_word (byte ∷ bytes) fits

pub some_bytes_codec : IsCodec hex_word IsSomeBytes some_bytes_in
some_bytes_codec = record { takes = some_bytes_takes; again = some_bytes_again; word = some_bytes_word }

metadata_either : (bytes : List ℕ) → IsBytes bytes → (bytes ≡ []) ⊎ IsSomeBytes bytes
metadata_either [] fits = inl refl
metadata_either (byte ∷ bytes) fits = inr fits

metadata_some : (bytes : List ℕ) → IsSomeBytes bytes → (metadata_words bytes ≡ (codes "meta=" ++ hex_word bytes) ∷ []) × IsBytes bytes
metadata_some [] fits = absurd fits
metadata_some (byte ∷ bytes) fits = (refl, fits)

pub metadata_is_option : IsOption (codes "meta=") [] metadata_words IsBytes hex_word IsSomeBytes
metadata_is_option = record { none = refl; none_fits = λ i. omega arith; some = metadata_some; either = metadata_either }

-- ---- a declared length

abbrev pub known_word : Option ℕ → List ℕ
known_word None = []
known_word (Some n) = decimal n

abbrev pub IsKnown : Option ℕ → Type 0
IsKnown None = ⊥
IsKnown (Some n) = n < 2 ^ 64

known_takes : (word : List ℕ) (length : Option ℕ) → known_in word ≡ Some length → (word ≡ known_word length) × IsKnown length
known_takes word length e =
    let n = map_some (λ (n : ℕ). Some n) (number_in word) length e in
    subst (λ (l : Option ℕ). (word ≡ known_word l) × IsKnown l) n.2 (number_takes word n.0 n.1)

known_again : (length : Option ℕ) → IsKnown length → known_in (known_word length) ≡ Some length
known_again None fits = absurd fits
known_again (Some n) fits = ap (option_map (λ (n : ℕ). Some n)) (number_again n fits)

known_visible : (length : Option ℕ) → IsKnown length → is_word (known_word length) ≡ true
known_visible None fits = absurd fits
known_visible (Some n) fits = number_word n fits

pub known_codec : IsCodec known_word IsKnown known_in
known_codec = record { takes = known_takes; again = known_again; word = known_visible }

length_some : (length : Option ℕ) → IsKnown length → (length_words length ≡ (codes "len=" ++ known_word length) ∷ []) × IsDeclared length
length_some None fits = absurd fits
length_some (Some n) fits = (refl, fits)

length_either : (length : Option ℕ) → IsDeclared length → (length ≡ None) ⊎ IsKnown length
length_either None fits = inl refl
length_either (Some n) fits = inr fits

pub length_is_option : IsOption (codes "len=") None length_words IsDeclared known_word IsKnown
length_is_option = record { none = refl; none_fits = tt; some = length_some; either = length_either }

-- ---- surrogate keys

pub surrogates_codec : IsCodec (listed_word hex_word) (SomeFit IsBytes) (listed_in hex_in)
surrogates_codec = listed_codec hex_word IsBytes hex_in hex_part

abbrev pub surrogate_words : List (List ℕ) → List (List ℕ)
surrogate_words keys = list_words (codes "sur=") (map hex_word keys)

surrogates_some : (keys : List (List ℕ)) → SomeFit IsBytes keys → (surrogate_words keys ≡ (codes "sur=" ++ listed_word hex_word keys) ∷ []) × AllFit IsBytes keys
surrogates_some [] fits = absurd fits
surrogates_some (key ∷ keys) fits = (refl, fits)

surrogates_either : (keys : List (List ℕ)) → AllFit IsBytes keys → (keys ≡ []) ⊎ SomeFit IsBytes keys
surrogates_either [] fits = inl refl
surrogates_either (key ∷ keys) fits = inr fits

pub surrogates_is_option : IsOption (codes "sur=") [] surrogate_words (AllFit IsBytes) (listed_word hex_word) (SomeFit IsBytes)
surrogates_is_option = record { none = refl; none_fits = tt; some = surrogates_some; either = surrogates_either }

-- ---- the names of a rule

as_they_are : (names : List (List ℕ)) → map as_it_is names ≡ names
as_they_are [] = refl
as_they_are (name ∷ names) = ap (λ (ns : List (List ℕ)). name ∷ ns) (as_they_are names)

abbrev pub AreSomeNames : List (List ℕ) → Type 0
AreSomeNames [] = ⊥
AreSomeNames (name ∷ names) = AreRuleNames (name ∷ names)

some_names : (names : List (List ℕ)) → SomeFit IsName names → is_rule names ≡ true → AreSomeNames names
some_names [] fits rule = absurd fits
some_names (name ∷ names) fits rule = (fits, rule)

names_codec : IsCodec (listed_word as_it_is) (SomeFit IsName) (listed_in name_in)
names_codec = listed_codec as_it_is IsName name_in name_part

rule_takes : (word : List ℕ) (names : List (List ℕ)) → rule_of word ≡ Some names → (word ≡ listed names) × AreSomeNames names
rule_takes word names e =
    let read = bind_some (listed_in name_in word) rising names e in
    let kept = cond_some _ _ _ read.2 in
    let found = names_codec.takes word read.0 read.1 in
    let P : List (List ℕ) → Type 0 = λ ns. (word ≡ listed ns) × AreSomeNames ns in
    subst P kept.1 (found.0 ∙ ap listed (as_they_are read.0), some_names read.0 found.1 kept.0)

rule_again : (names : List (List ℕ)) → AreSomeNames names → rule_of (listed names) ≡ Some names
rule_again [] fits = absurd fits
rule_again (name ∷ names) fits =
    ap (λ (ns : List (List ℕ)). listed_in name_in (listed ns) >>= rising) (sym (as_they_are (name ∷ names)))
    ∙ ap (λ (read : Option (List (List ℕ))). read >>= rising) (names_codec.again (name ∷ names) fits.0)
    ∙ rw fits.1 refl

rule_visible : (names : List (List ℕ)) → AreSomeNames names → is_word (listed names) ≡ true
rule_visible [] fits = absurd fits
rule_visible (name ∷ names) fits = ap (λ (ns : List (List ℕ)). is_word (listed ns)) (sym (as_they_are (name ∷ names))) ∙ names_codec.word (name ∷ names) fits.0

pub rule_codec : IsCodec listed AreSomeNames rule_of
rule_codec = record { takes = rule_takes; again = rule_again; word = rule_visible }

rule_some : (names : List (List ℕ)) → AreSomeNames names → (list_words (codes "vary=") names ≡ (codes "vary=" ++ listed names) ∷ []) × AreRuleNames names
rule_some [] fits = absurd fits
rule_some (name ∷ names) fits = (refl, fits)

rule_either : (names : List (List ℕ)) → AreRuleNames names → (names ≡ []) ⊎ AreSomeNames names
rule_either [] fits = inl refl
rule_either (name ∷ names) fits = inr fits

pub rule_is_option : IsOption (codes "vary=") [] (list_words (codes "vary=")) AreRuleNames listed AreSomeNames
rule_is_option = record { none = refl; none_fits = (tt, refl); some = rule_some; either = rule_either }
