-- Laws of the words after the first of each form, before words that are no options.
use Rattle.std.proofs.Common.{◌≡◌, ℕ, Bool, true, false, List, [], ◌∷◌, ◌++◌, refl, subst, Some, inl, inr, lit<}
use Rattle.std.specs.Prelude.{bytes_eq, decimal, codes, not}
use Rattle.hex.specs.Hex.{IsBytes}
use Rattle.cache_types.specs.declared.calls.Field.{Field}
use Rattle.cache_types.specs.declared.calls.Terms.{Terms}
use Rattle.cache_types.specs.declared.calls.Writing.{Writing}
use Rattle.std.proofs.lemmas.Bool.{and_parts}
use Rattle.std.proofs.lemmas.Option.{same_Some}
use Rattle.edge_words.specs.Words.{is_word, hex_word}
use Rattle.edge_words.specs.Reading.{one, both, number_in, number_from_to, hex_in, begins, Avoids, AllFit}
use Rattle.edge_words.proofs.Numbers.{same_bytes}
use Rattle.edge_words.proofs.Laws.{IsCodec, IsNumber, IsFromTo, FitBoth, number_codec, number_from_to_codec, hex_codec, one_lawful, both_lawful}
use Rattle.edge_words.proofs.Before.{IsLawfulBefore, before_all, before_fewer, both_before}
use Rattle.edge_words.proofs.ChoiceLaws.{chosen}
use Rattle.script_lines.specs.declared.line.Named.{Named}
use Rattle.call_lines.specs.declared.naming.Naming.{Naming}
use Rattle.call_lines.specs.declared.naming.Naming.TheVariants.{Marked, Plain}
use Rattle.call_lines.specs.Calls.{heads, terms_words, writing_words, purge_word}
use Rattle.call_lines.specs.Lines.{named_word, IsReference, IsField, AreTerms, IsWriting, IsPlain}
use Rattle.call_lines.specs.Reading.{reference_in, heads_in, terms_in, writing_in, bare_in, lookup_in, insert_in, purge_kind_in, purge_in, named_in, tx_insert_in, tx_update_in, write_in, read_in}
use Rattle.call_lines.proofs.References.{reference_codec}
use Rattle.call_lines.proofs.TermLaws.{term_prefixes, writing_prefixes, IsBehind, avoid_terms, terms_law, writing_law, heads_law, heads_other}

-- ---- what may stand behind a call

behind_writing : (rest : List (List ℕ)) → IsBehind rest → Avoids writing_prefixes rest
behind_writing [] after = refl
behind_writing (word ∷ words) after =
    let a = and_parts (not (begins (codes "age=") word)) _ after in
    let b = and_parts (not (begins (codes "swr=") word)) _ a.1 in
    let c = and_parts (not (begins (codes "sur=") word)) _ b.1 in
    let d = and_parts (not (begins (codes "meta=") word)) _ c.1 in
    let e = and_parts (not (begins (codes "vary=") word)) _ d.1 in
    let f = and_parts (not (begins (codes "len=") word)) _ e.1 in
    rw (a.0, b.0, c.0, d.0, e.0, f.0) refl

behind_terms : (rest : List (List ℕ)) → IsBehind rest → Avoids term_prefixes rest
behind_terms rest after = avoid_terms rest (behind_writing rest after)

behind_heads : (rest : List (List ℕ)) → IsBehind rest → Avoids (codes "h=" ∷ []) rest
behind_heads [] after = refl
behind_heads (word ∷ words) after =
    let a = and_parts (not (begins (codes "age=") word)) _ after in
    let b = and_parts (not (begins (codes "swr=") word)) _ a.1 in
    let c = and_parts (not (begins (codes "sur=") word)) _ b.1 in
    let d = and_parts (not (begins (codes "meta=") word)) _ c.1 in
    let e = and_parts (not (begins (codes "vary=") word)) _ d.1 in
    (and_parts (not (begins (codes "len=") word)) _ e.1).1

abbrev All : List (List ℕ) → Type 0
All rest = Unit {0}

-- ---- the parts

abbrev pub key_words : List ℕ → List (List ℕ)
key_words key = hex_word key ∷ []

key_law : (Rest : List (List ℕ) → Type 0) → IsLawfulBefore Rest key_words IsBytes (one hex_in)
key_law Rest = before_all Rest key_words IsBytes (one hex_in) (one_lawful hex_word IsBytes hex_in hex_codec)

abbrev pub reference_words : Naming → Named → List (List ℕ)
reference_words naming named = named_word naming named ∷ []

pub reference_law : (naming : Naming) (Rest : List (List ℕ) → Type 0) → IsLawfulBefore Rest (reference_words naming) (IsReference naming) (named_in naming)
reference_law naming Rest =
    before_all Rest (reference_words naming) (IsReference naming) (named_in naming) (one_lawful (named_word naming) (IsReference naming) (reference_in naming) (reference_codec naming))

heads_behind : IsLawfulBefore IsBehind heads (AllFit IsField) heads_in
heads_behind = before_fewer (Avoids (codes "h=" ∷ [])) IsBehind heads (AllFit IsField) heads_in heads_law behind_heads

writing_behind : IsLawfulBefore IsBehind writing_words IsWriting writing_in
writing_behind = before_fewer (Avoids writing_prefixes) IsBehind writing_words IsWriting writing_in writing_law behind_writing

terms_behind : IsLawfulBefore IsBehind terms_words AreTerms terms_in
terms_behind = before_fewer (Avoids term_prefixes) IsBehind terms_words AreTerms terms_in terms_law behind_terms

-- ---- calls that name no entry

abbrev pub no_words : Unit {0} → List (List ℕ)
no_words _ = []

abbrev pub Bare : Naming → Unit {0} → Type 0
Bare naming _ = IsPlain naming

pub bare_law : (naming : Naming) → IsLawfulBefore IsBehind no_words (Bare naming) (bare_in naming)
bare_law Marked = record { takes = λ words x e. cc e; again = λ x rest fits after. absurd fits; words = λ x fits. refl }
bare_law Plain = record {
  takes = λ words x e. let P : Unit {0} × List (List ℕ) → Type 0 = λ p. (words ≡ p.1) × Unit {0} in subst P (same_Some _ _ e) (refl, tt);
  again = λ x rest fits after. refl;
  words = λ x fits. refl;
}

abbrev pub lookup_words : List ℕ × List Field → List (List ℕ)
lookup_words said = key_words said.0 ++ heads said.1

abbrev pub Lookups : List ℕ × List Field → Type 0
Lookups = FitBoth IsBytes (AllFit IsField)

pub lookup_law : IsLawfulBefore IsBehind lookup_words Lookups lookup_in
lookup_law = both_before All IsBehind key_words IsBytes (one hex_in) heads (AllFit IsField) heads_in (key_law All) heads_behind (λ y rest fits after. tt)

abbrev written_heads : Writing × List Field → List (List ℕ)
written_heads said = writing_words said.0 ++ heads said.1

abbrev WrittenHeads : Writing × List Field → Type 0
WrittenHeads = FitBoth IsWriting (AllFit IsField)

written_heads_law : IsLawfulBefore IsBehind written_heads WrittenHeads (both writing_in heads_in)
written_heads_law =
    both_before (Avoids writing_prefixes) IsBehind writing_words IsWriting writing_in heads (AllFit IsField) heads_in writing_law heads_behind
    (λ fields rest fits after. heads_other writing_prefixes (λ text. refl) fields rest (behind_writing rest after))

abbrev pub insert_words : List ℕ × (Writing × List Field) → List (List ℕ)
insert_words said = key_words said.0 ++ written_heads said.1

abbrev pub Inserts : List ℕ × (Writing × List Field) → Type 0
Inserts = FitBoth IsBytes WrittenHeads

pub insert_law : IsLawfulBefore IsBehind insert_words Inserts insert_in
insert_law = both_before All IsBehind key_words IsBytes (one hex_in) written_heads WrittenHeads (both writing_in heads_in) (key_law All) written_heads_law (λ y rest fits after. tt)

purge_takes : (word : List ℕ) (soft : Bool) → purge_kind_in word ≡ Some soft → (word ≡ purge_word soft) × Unit {0}
purge_takes word soft e =
    let P : Bool → Type 0 = λ soft. (word ≡ purge_word soft) × Unit {0} in
    elim (chosen (bytes_eq word (codes "soft")) _ _ _ e) [
      | inl found ↦ subst P (same_Some _ _ found.1) (same_bytes _ _ found.0, tt)
      | inr other ↦
          elim (chosen (bytes_eq word (codes "hard")) _ _ _ other.1) [
            | inl found ↦ subst P (same_Some _ _ found.1) (same_bytes _ _ found.0, tt)
            | inr none ↦ cc none.1
          ]
    ]

abbrev AnyKind : Bool → Type 0
AnyKind soft = Unit {0}

purge_codec : IsCodec purge_word AnyKind purge_kind_in
purge_codec = record {
  takes = purge_takes;
  again = λ soft fits. elim soft as (λ s. purge_kind_in (purge_word s) ≡ Some s) [ true ↦ refl | false ↦ refl ];
  word = λ soft fits. elim soft as (λ s. is_word (purge_word s) ≡ true) [ true ↦ refl | false ↦ refl ];
}

abbrev pub purge_words : List ℕ × Bool → List (List ℕ)
purge_words said = key_words said.0 ++ purge_word said.1 ∷ []

abbrev pub Purges : List ℕ × Bool → Type 0
Purges = FitBoth IsBytes AnyKind

pub purge_law : IsLawfulBefore IsBehind purge_words Purges purge_in
purge_law =
    before_all IsBehind purge_words Purges purge_in
    (both_lawful key_words IsBytes (one hex_in) (λ soft. purge_word soft ∷ []) AnyKind (one purge_kind_in) (one_lawful hex_word IsBytes hex_in hex_codec) (one_lawful purge_word AnyKind purge_kind_in purge_codec))

-- ---- calls that name an entry

abbrev pub tx_insert_words : Naming → Named × Writing → List (List ℕ)
tx_insert_words naming said = reference_words naming said.0 ++ writing_words said.1

abbrev pub TxInserts : Naming → Named × Writing → Type 0
TxInserts naming = FitBoth (IsReference naming) IsWriting

pub tx_insert_law : (naming : Naming) → IsLawfulBefore IsBehind (tx_insert_words naming) (TxInserts naming) (tx_insert_in naming)
tx_insert_law naming =
    both_before All IsBehind (reference_words naming) (IsReference naming) (named_in naming) writing_words IsWriting writing_in (reference_law naming All) writing_behind (λ y rest fits after. tt)

abbrev pub tx_update_words : Naming → Named × Terms → List (List ℕ)
tx_update_words naming said = reference_words naming said.0 ++ terms_words said.1

abbrev pub TxUpdates : Naming → Named × Terms → Type 0
TxUpdates naming = FitBoth (IsReference naming) AreTerms

pub tx_update_law : (naming : Naming) → IsLawfulBefore IsBehind (tx_update_words naming) (TxUpdates naming) (tx_update_in naming)
tx_update_law naming =
    both_before All IsBehind (reference_words naming) (IsReference naming) (named_in naming) terms_words AreTerms terms_in (reference_law naming All) terms_behind (λ y rest fits after. tt)

abbrev pub write_words : Naming → Named × List ℕ → List (List ℕ)
write_words naming said = reference_words naming said.0 ++ key_words said.1

abbrev pub Writes : Naming → Named × List ℕ → Type 0
Writes naming = FitBoth (IsReference naming) IsBytes

pub write_law : (naming : Naming) → IsLawfulBefore IsBehind (write_words naming) (Writes naming) (write_in naming)
write_law naming =
    both_before All IsBehind (reference_words naming) (IsReference naming) (named_in naming) key_words IsBytes (one hex_in) (reference_law naming All) (key_law IsBehind) (λ y rest fits after. tt)

abbrev number_words' : ℕ → List (List ℕ)
number_words' n = decimal n ∷ []

abbrev pub range_words : ℕ × ℕ → List (List ℕ)
range_words said = number_words' said.0 ++ number_words' said.1

abbrev pub Ranges : ℕ × ℕ → Type 0
Ranges = FitBoth IsNumber (IsFromTo 1 65536)

range_law : IsLawfulBefore IsBehind range_words Ranges (both (one number_in) (one (number_from_to 1 65536)))
range_law =
    before_all IsBehind range_words Ranges (both (one number_in) (one (number_from_to 1 65536)))
    (both_lawful number_words' IsNumber (one number_in) number_words' (IsFromTo 1 65536) (one (number_from_to 1 65536))
    (one_lawful decimal IsNumber number_in number_codec) (one_lawful decimal (IsFromTo 1 65536) (number_from_to 1 65536) (number_from_to_codec 1 65536 (lit< tt))))

abbrev pub read_words : Naming → Named × (ℕ × ℕ) → List (List ℕ)
read_words naming said = reference_words naming said.0 ++ range_words said.1

abbrev pub Readings : Naming → Named × (ℕ × ℕ) → Type 0
Readings naming = FitBoth (IsReference naming) Ranges

pub read_law : (naming : Naming) → IsLawfulBefore IsBehind (read_words naming) (Readings naming) (read_in naming)
read_law naming =
    both_before All IsBehind (reference_words naming) (IsReference naming) (named_in naming) range_words Ranges (both (one number_in) (one (number_from_to 1 65536))) (reference_law naming All) range_law (λ y rest fits after. tt)
