-- Laws of terms, of what an insertion says, and of headers: each takes its words again before words that are no options.
use Rattle.std.proofs.Common.{◌≡◌, ℕ, true, List, [], ◌∷◌, ◌++◌, refl, sym, ◌∙◌, ap, subst, Option, None, inl, inr, append_assoc}
use Rattle.std.specs.Prelude.{decimal, codes, not}
use Rattle.std.specs.List.{list_all}
use Rattle.std.proofs.lemmas.Bool.{and_parts}
use Rattle.hex.specs.Hex.{IsBytes}
use Rattle.cache_types.specs.declared.calls.Field.{Field}
use Rattle.cache_types.specs.declared.calls.Terms.{Terms}
use Rattle.edge_words.specs.Words.{is_word, hex_word, listed}
use Rattle.edge_words.specs.Reading.{one, both, maybe, prefixed, number_in, hex_in, listed_in, begins, Avoids, AllFit}
use Rattle.edge_words.proofs.Laws.{IsCodec, IsNumber, FitBoth, number_codec, prefixed_codec, one_lawful}
use Rattle.edge_words.proofs.Before.{IsLawfulBefore, before_all, before_fewer, both_before, mapped_before}
use Rattle.edge_words.proofs.Options.{IsOption, maybe_before, many_before, prefixed_words}
use Rattle.edge_words.proofs.Commas.{SomeFit, listed_word}
use Rattle.call_lines.specs.Calls.{heads, number_words, list_words, metadata_words, length_words, terms_words, writing_words}
use Rattle.call_lines.specs.Lines.{IsField, AreTerms, AreRuleNames, IsDeclared, IsWriting}
use Rattle.call_lines.specs.Reading.{field_in, heads_in, positive_in, some_bytes_in, number_option, surrogates_in, metadata_in, terms_of, terms_in, rule_of, rule_in, known_in, length_in, writing_of, writing_in}
use Rattle.call_lines.proofs.Fields.{field_word, field_codec}
use Rattle.call_lines.proofs.Optionals.{IsPositive, positive_codec, number_is_option, IsSomeBytes, some_bytes_codec, metadata_is_option, known_word, IsKnown, known_codec, length_is_option, surrogates_codec, surrogate_words, surrogates_is_option, AreSomeNames, rule_codec, rule_is_option}

-- the options of terms, those of an insertion, and all that may stand in a call
abbrev pub term_prefixes : List (List ℕ)
term_prefixes = codes "age=" ∷ (codes "swr=" ∷ (codes "sur=" ∷ (codes "meta=" ∷ [])))

abbrev pub writing_prefixes : List (List ℕ)
writing_prefixes = codes "age=" ∷ (codes "swr=" ∷ (codes "sur=" ∷ (codes "meta=" ∷ (codes "vary=" ∷ (codes "len=" ∷ [])))))

abbrev pub option_prefixes : List (List ℕ)
option_prefixes = codes "age=" ∷ (codes "swr=" ∷ (codes "sur=" ∷ (codes "meta=" ∷ (codes "vary=" ∷ (codes "len=" ∷ (codes "h=" ∷ []))))))

-- Words that may stand behind a call: none, or words that begin with no option.
abbrev pub IsBehind : List (List ℕ) → Type 0
IsBehind rest = Avoids option_prefixes rest

-- ---- words that follow

-- fewer prefixes are avoided
avoid_first : (prefix : List ℕ) (prefixes words : List (List ℕ)) → Avoids (prefix ∷ prefixes) words → Avoids (prefix ∷ []) words
avoid_first prefix prefixes [] after = refl
avoid_first prefix prefixes (word ∷ words) after = rw (and_parts (not (begins prefix word)) (list_all (λ p. not (begins p word)) prefixes) after).0 refl

avoid_rest : (prefix : List ℕ) (prefixes words : List (List ℕ)) → Avoids (prefix ∷ prefixes) words → Avoids prefixes words
avoid_rest prefix prefixes [] after = refl
avoid_rest prefix prefixes (word ∷ words) after = (and_parts (not (begins prefix word)) (list_all (λ p. not (begins p word)) prefixes) after).1

-- What may stand before words that avoid some prefixes.
abbrev pub Other : List (List ℕ) → List (List ℕ) → Type 0
Other prefixes words = (rest : List (List ℕ)) → Avoids prefixes rest → Avoids prefixes (words ++ rest)

-- no word that begins with q begins with one of these
abbrev pub Apart : List (List ℕ) → List ℕ → Type 0
Apart prefixes q = (text : List ℕ) → list_all (λ p. not (begins p (q ++ text))) prefixes ≡ true

option_other : {X : Type 0} (prefixes : List (List ℕ)) (q : List ℕ) (absent : X) (words : X → List (List ℕ)) (Fits : X → Type 0) (spell : X → List ℕ) (Present : X → Type 0) → IsOption q absent words Fits spell Present → Apart prefixes q → (x : X) → Fits x → Other prefixes (words x)
option_other {X} prefixes q absent words Fits spell Present option apart x fits =
    elim (option.either x fits) [
      | inl none ↦
          let P : List (List ℕ) → Type 0 = Other prefixes in
          subst P (sym (ap words none ∙ option.none)) (λ rest after. after)
      | inr present ↦
          let P : List (List ℕ) → Type 0 = Other prefixes in
          subst P (sym (option.some x present).0) (λ rest _. apart (spell x))
    ]

many_other : {X : Type 0} (prefixes : List (List ℕ)) (q : List ℕ) (spell : X → List ℕ) → Apart prefixes q → (xs : List X) → Other prefixes (prefixed_words q spell xs)
many_other prefixes q spell apart [] rest after = after
many_other prefixes q spell apart (x ∷ xs) rest after = apart (spell x)

both_other : (prefixes front back : List (List ℕ)) → Other prefixes front → Other prefixes back → Other prefixes (front ++ back)
both_other prefixes front back first second rest after =
    let P : List (List ℕ) → Type 0 = λ words. Avoids prefixes words in
    subst P (sym (append_assoc front back rest)) (first (back ++ rest) (second rest after))

-- an option, and then another reading
option_then : {X Y : Type 0} (q : List ℕ) (prefixes : List (List ℕ)) (absent : X) (words : X → List (List ℕ)) (Fits : X → Type 0) (spell : X → List ℕ) (Present : X → Type 0) (read : List ℕ → Option X) (spell' : Y → List (List ℕ)) (Fits' : Y → Type 0) (read' : List (List ℕ) → Option (Y × List (List ℕ)))
    → IsOption q absent words Fits spell Present → IsCodec spell Present read → is_word q ≡ true → IsLawfulBefore (Avoids prefixes) spell' Fits' read' → ((y : Y) → Fits' y → Other (q ∷ []) (spell' y))
    → IsLawfulBefore (Avoids (q ∷ prefixes)) (λ (x : X × Y). words x.0 ++ spell' x.1) (FitBoth Fits Fits') (both (maybe q read absent) read')
option_then q prefixes absent words Fits spell Present read spell' Fits' read' option codec visible law other =
    both_before (Avoids (q ∷ [])) (Avoids (q ∷ prefixes)) words Fits (maybe q read absent) spell' Fits' read'
    (maybe_before q absent words Fits spell Present read option codec visible)
    (before_fewer (Avoids prefixes) (Avoids (q ∷ prefixes)) spell' Fits' read' law (avoid_rest q prefixes))
    (λ y rest fits after. other y fits rest (avoid_first q prefixes rest after))

-- ---- terms

abbrev age : List ℕ
age = codes "age="

abbrev swr : List ℕ
swr = codes "swr="

abbrev sur : List ℕ
sur = codes "sur="

abbrev meta : List ℕ
meta = codes "meta="

abbrev vary : List ℕ
vary = codes "vary="

abbrev len : List ℕ
len = codes "len="

metadata_other : (prefixes : List (List ℕ)) → Apart prefixes meta → (bytes : List ℕ) → IsBytes bytes → Other prefixes (metadata_words bytes)
metadata_other prefixes apart bytes fits = option_other prefixes meta [] metadata_words IsBytes hex_word IsSomeBytes metadata_is_option apart bytes fits

metadata_law : IsLawfulBefore (Avoids (meta ∷ [])) metadata_words IsBytes metadata_in
metadata_law = maybe_before meta [] metadata_words IsBytes hex_word IsSomeBytes some_bytes_in metadata_is_option some_bytes_codec refl

abbrev keyed_words : List (List ℕ) × List ℕ → List (List ℕ)
keyed_words x = surrogate_words x.0 ++ metadata_words x.1

abbrev Keyed : List (List ℕ) × List ℕ → Type 0
Keyed = FitBoth (AllFit IsBytes) IsBytes

keyed_law : IsLawfulBefore (Avoids (sur ∷ (meta ∷ []))) keyed_words Keyed (both surrogates_in metadata_in)
keyed_law =
    option_then sur (meta ∷ []) [] surrogate_words (AllFit IsBytes) (listed_word hex_word) (SomeFit IsBytes) (listed_in hex_in) metadata_words IsBytes metadata_in
    surrogates_is_option surrogates_codec refl metadata_law (metadata_other (sur ∷ []) (λ text. refl))

keyed_other : (prefixes : List (List ℕ)) → Apart prefixes sur → Apart prefixes meta → (x : List (List ℕ) × List ℕ) → Keyed x → Other prefixes (keyed_words x)
keyed_other prefixes first second x fits =
    both_other prefixes (surrogate_words x.0) (metadata_words x.1)
    (option_other prefixes sur [] surrogate_words (AllFit IsBytes) (listed_word hex_word) (SomeFit IsBytes) surrogates_is_option first x.0 fits.0)
    (metadata_other prefixes second x.1 fits.1)

abbrev stale_words : ℕ × (List (List ℕ) × List ℕ) → List (List ℕ)
stale_words x = number_words swr x.0 ++ keyed_words x.1

abbrev Stale : ℕ × (List (List ℕ) × List ℕ) → Type 0
Stale = FitBoth IsNumber Keyed

stale_law : IsLawfulBefore (Avoids (swr ∷ (sur ∷ (meta ∷ [])))) stale_words Stale (both (number_option swr) (both surrogates_in metadata_in))
stale_law =
    option_then swr (sur ∷ (meta ∷ [])) 0 (number_words swr) IsNumber decimal IsPositive positive_in keyed_words Keyed (both surrogates_in metadata_in)
    (number_is_option swr) positive_codec refl keyed_law (keyed_other (swr ∷ []) (λ text. refl) (λ text. refl))

stale_other : (x : ℕ × (List (List ℕ) × List ℕ)) → Stale x → Other (age ∷ []) (stale_words x)
stale_other x fits =
    both_other (age ∷ []) (number_words swr x.0) (keyed_words x.1)
    (option_other (age ∷ []) swr 0 (number_words swr) IsNumber decimal IsPositive (number_is_option swr) (λ text. refl) x.0 fits.0)
    (keyed_other (age ∷ []) (λ text. refl) (λ text. refl) x.1 fits.1)

abbrev aged_words : ℕ × (ℕ × (List (List ℕ) × List ℕ)) → List (List ℕ)
aged_words x = number_words age x.0 ++ stale_words x.1

abbrev Aged : ℕ × (ℕ × (List (List ℕ) × List ℕ)) → Type 0
Aged = FitBoth IsNumber Stale

aged_law : IsLawfulBefore (Avoids term_prefixes) aged_words Aged (both (number_option age) (both (number_option swr) (both surrogates_in metadata_in)))
aged_law =
    option_then age (swr ∷ (sur ∷ (meta ∷ []))) 0 (number_words age) IsNumber decimal IsPositive positive_in stale_words Stale (both (number_option swr) (both surrogates_in metadata_in))
    (number_is_option age) positive_codec refl stale_law stale_other

abbrev max_words : ℕ → List (List ℕ)
max_words n = (codes "max=" ++ decimal n) ∷ []

max_law : (Rest : List (List ℕ) → Type 0) → IsLawfulBefore Rest max_words IsNumber (one (prefixed (codes "max=") number_in))
max_law Rest =
    before_all Rest max_words IsNumber (one (prefixed (codes "max=") number_in))
    (one_lawful (λ n. codes "max=" ++ decimal n) IsNumber (prefixed (codes "max=") number_in) (prefixed_codec (codes "max=") decimal IsNumber number_in refl number_codec))

abbrev said_words : ℕ × (ℕ × (ℕ × (List (List ℕ) × List ℕ))) → List (List ℕ)
said_words x = max_words x.0 ++ aged_words x.1

abbrev Said : ℕ × (ℕ × (ℕ × (List (List ℕ) × List ℕ))) → Type 0
Said = FitBoth IsNumber Aged

abbrev All : List (List ℕ) → Type 0
All rest = Unit {0}

said_law : IsLawfulBefore (Avoids term_prefixes) said_words Said (both (one (prefixed (codes "max=") number_in)) (both (number_option age) (both (number_option swr) (both surrogates_in metadata_in))))
said_law = both_before All (Avoids term_prefixes) max_words IsNumber (one (prefixed (codes "max=") number_in)) aged_words Aged (both (number_option age) (both (number_option swr) (both surrogates_in metadata_in))) (max_law All) aged_law (λ y rest fits after. tt)

pub terms_law : IsLawfulBefore (Avoids term_prefixes) terms_words AreTerms terms_in
terms_law =
    mapped_before terms_of (Avoids term_prefixes) said_words Said (both (one (prefixed (codes "max=") number_in)) (both (number_option age) (both (number_option swr) (both surrogates_in metadata_in)))) terms_words AreTerms said_law
    (λ x fits. (refl, (fits.0, fits.1.0, fits.1.1.0, fits.1.1.1.0, fits.1.1.1.1)))
    (λ t fits. ((t.max_age, (t.initial_age, (t.stale, (t.surrogates, t.metadata)))), refl, (fits.0, (fits.1, (fits.2, (fits.3, fits.4))))))

-- ---- what an insertion says

abbrev rule_words : List (List ℕ) → List (List ℕ)
rule_words names = list_words vary names

length_law : IsLawfulBefore (Avoids (len ∷ [])) length_words IsDeclared length_in
length_law = maybe_before len None length_words IsDeclared known_word IsKnown known_in length_is_option known_codec refl

length_other : (prefixes : List (List ℕ)) → Apart prefixes len → (x : Option ℕ) → IsDeclared x → Other prefixes (length_words x)
length_other prefixes apart x fits = option_other prefixes len None length_words IsDeclared known_word IsKnown length_is_option apart x fits

abbrev varied_words : List (List ℕ) × Option ℕ → List (List ℕ)
varied_words x = rule_words x.0 ++ length_words x.1

abbrev Varied : List (List ℕ) × Option ℕ → Type 0
Varied = FitBoth AreRuleNames IsDeclared

varied_law : IsLawfulBefore (Avoids (vary ∷ (len ∷ []))) varied_words Varied (both rule_in length_in)
varied_law =
    option_then vary (len ∷ []) [] rule_words AreRuleNames listed AreSomeNames rule_of length_words IsDeclared length_in
    rule_is_option rule_codec refl length_law (length_other (vary ∷ []) (λ text. refl))

varied_other : (prefixes : List (List ℕ)) → Apart prefixes vary → Apart prefixes len → (x : List (List ℕ) × Option ℕ) → Varied x → Other prefixes (varied_words x)
varied_other prefixes first second x fits =
    both_other prefixes (rule_words x.0) (length_words x.1)
    (option_other prefixes vary [] rule_words AreRuleNames listed AreSomeNames rule_is_option first x.0 fits.0)
    (length_other prefixes second x.1 fits.1)

abbrev written_words : Terms × (List (List ℕ) × Option ℕ) → List (List ℕ)
written_words x = terms_words x.0 ++ varied_words x.1

abbrev Written : Terms × (List (List ℕ) × Option ℕ) → Type 0
Written = FitBoth AreTerms Varied

pub avoid_terms : (words : List (List ℕ)) → Avoids writing_prefixes words → Avoids term_prefixes words
avoid_terms [] after = refl
avoid_terms (word ∷ words) after =
    let a = and_parts (not (begins age word)) _ after in
    let b = and_parts (not (begins swr word)) _ a.1 in
    let c = and_parts (not (begins sur word)) _ b.1 in
    let d = and_parts (not (begins meta word)) _ c.1 in
    rw (a.0, b.0, c.0, d.0) refl

written_law : IsLawfulBefore (Avoids writing_prefixes) written_words Written (both terms_in (both rule_in length_in))
written_law =
    both_before (Avoids term_prefixes) (Avoids writing_prefixes) terms_words AreTerms terms_in varied_words Varied (both rule_in length_in) terms_law
    (before_fewer (Avoids (vary ∷ (len ∷ []))) (Avoids writing_prefixes) varied_words Varied (both rule_in length_in) varied_law
    (λ words after. avoid_rest meta (vary ∷ (len ∷ [])) words (avoid_rest sur (meta ∷ (vary ∷ (len ∷ []))) words (avoid_rest swr (sur ∷ (meta ∷ (vary ∷ (len ∷ [])))) words (avoid_rest age (swr ∷ (sur ∷ (meta ∷ (vary ∷ (len ∷ []))))) words after)))))
    (λ y rest fits after. varied_other term_prefixes (λ text. refl) (λ text. refl) y fits rest (avoid_terms rest after))

pub writing_law : IsLawfulBefore (Avoids writing_prefixes) writing_words IsWriting writing_in
writing_law =
    mapped_before writing_of (Avoids writing_prefixes) written_words Written (both terms_in (both rule_in length_in)) writing_words IsWriting written_law
    (λ x fits. (refl, (fits.0, fits.1.0, fits.1.1)))
    (λ w fits. ((w.terms, (w.rule, w.length)), refl, (fits.0, (fits.1, fits.2))))

-- ---- headers

pub heads_law : IsLawfulBefore (Avoids (codes "h=" ∷ [])) heads (AllFit IsField) heads_in
heads_law = many_before (codes "h=") field_word IsField field_in field_codec refl

pub heads_other : (prefixes : List (List ℕ)) → Apart prefixes (codes "h=") → (fields : List Field) → Other prefixes (heads fields)
heads_other prefixes apart fields = many_other prefixes (codes "h=") field_word apart fields
