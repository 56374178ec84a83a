-- Laws of what stands for an entry.
use Rattle.std.proofs.Common.{◌≡◌, ℕ, true, List, [], ◌∷◌, ap, subst, Some, inl, inr}
use Rattle.std.specs.Prelude.{decimal, ◌==◌}
use Rattle.std.specs.Option.{option_map}
use Rattle.std.proofs.lemmas.Bool.{eqb-true}
use Rattle.edge_words.specs.Words.{is_word}
use Rattle.edge_words.specs.Reading.{number_in}
use Rattle.edge_words.proofs.Numbers.{number_takes, number_again, number_word}
use Rattle.edge_words.proofs.Laws.{IsCodec, map_some}
use Rattle.edge_words.proofs.ChoiceLaws.{chosen}
use Rattle.script_lines.specs.declared.line.Named.{Named}
use Rattle.script_lines.specs.declared.line.Named.TheVariants as ref
use Rattle.call_lines.specs.declared.naming.Naming.{Naming}
use Rattle.call_lines.specs.declared.naming.Naming.TheVariants.{Marked, Plain}
use Rattle.call_lines.specs.Lines.{named_word, IsReference}
use Rattle.call_lines.specs.Reading.{marked_in, reference_in}

marked : (mark n : ℕ) (digits : List ℕ) (c : ℕ) → (mark == c) ≡ true → digits ≡ decimal n → mark ∷ digits ≡ c ∷ decimal n
marked mark n digits c same spelled = let e = eqb-true mark c same in cc

marked_takes : (word : List ℕ) (named : Named) → marked_in word ≡ Some named → (word ≡ named_word Marked named) × IsReference Marked named
marked_takes [] named e = cc e
marked_takes (mark ∷ digits) named e =
    let P : Named → Type 0 = λ named. (mark ∷ digits ≡ named_word Marked named) × IsReference Marked named in
    elim (chosen (mark == 64) _ _ _ e) [
      | inl line ↦
          let n = map_some ref.Line (number_in digits) named line.1 in
          let found = number_takes digits n.0 n.1 in
          subst P n.2 (marked mark n.0 digits 64 line.0 found.0, found.1)
      | inr other ↦
          elim (chosen (mark == 35) _ _ _ other.1) [
            | inl number ↦
                let n = map_some ref.Number (number_in digits) named number.1 in
                let found = number_takes digits n.0 n.1 in
                subst P n.2 (marked mark n.0 digits 35 number.0 found.0, found.1)
            | inr none ↦ cc none.1
          ]
    ]

reference_takes : (naming : Naming) (word : List ℕ) (named : Named) → reference_in naming word ≡ Some named → (word ≡ named_word naming named) × IsReference naming named
reference_takes Marked word named e = marked_takes word named e
reference_takes Plain word named e =
    let n = map_some ref.Number (number_in word) named e in
    let P : Named → Type 0 = λ named. (word ≡ named_word Plain named) × IsReference Plain named in
    subst P n.2 (number_takes word n.0 n.1)

reference_again : (naming : Naming) (named : Named) → IsReference naming named → reference_in naming (named_word naming named) ≡ Some named
reference_again Marked ref.Nothing fits = absurd fits
reference_again Marked (ref.Line n) fits = ap (option_map ref.Line) (number_again n fits)
reference_again Marked (ref.Number n) fits = ap (option_map ref.Number) (number_again n fits)
reference_again Plain ref.Nothing fits = absurd fits
reference_again Plain (ref.Line n) fits = absurd fits
reference_again Plain (ref.Number n) fits = ap (option_map ref.Number) (number_again n fits)

reference_word : (naming : Naming) (named : Named) → IsReference naming named → is_word (named_word naming named) ≡ true
reference_word Marked ref.Nothing fits = absurd fits
reference_word Marked (ref.Line n) fits = number_word n fits
reference_word Marked (ref.Number n) fits = number_word n fits
reference_word Plain ref.Nothing fits = absurd fits
reference_word Plain (ref.Line n) fits = absurd fits
reference_word Plain (ref.Number n) fits = number_word n fits

pub reference_codec : (naming : Naming) → IsCodec (named_word naming) (IsReference naming) (reference_in naming)
reference_codec naming = record { takes = reference_takes naming; again = reference_again naming; word = reference_word naming }
