-- The law of one form of line.
use Rattle.std.proofs.Common.{◌≡◌, ℕ, true, List, ◌∷◌, ◌++◌, sym, ◌∙◌, ap, subst, Option, None, Some, inl, inr, option_map}
use Rattle.std.specs.Prelude.{bytes_eq}
use Rattle.edge_words.specs.Words.{is_word, are_words}
use Rattle.edge_words.specs.Reading.{mapped, at_end}
use Rattle.edge_words.proofs.Numbers.{same_bytes}
use Rattle.edge_words.proofs.Laws.{map_some}
use Rattle.edge_words.proofs.Before.{IsLawfulBefore}
use Rattle.edge_words.proofs.ChoiceLaws.{chosen}
use Rattle.call_lines.specs.declared.naming.Naming.{Naming}
use Rattle.script_lines.specs.declared.line.Line.{Line}
use Rattle.call_lines.specs.Lines.{line_words, IsForm}
use Rattle.call_lines.specs.Reading
use Rattle.call_lines.proofs.TermLaws.{IsBehind}

-- ---- one form

-- The words after the first, which picks this form, are read as those of what is made of them.
pub record IsFormLaw {X : Type 0} (naming : Naming) (word : List ℕ) (spell : X → List (List ℕ)) (Fits : X → Type 0) (read : List (List ℕ) → Option (X × List (List ℕ))) (make : X → Line) : Type 0 where
  pub law : IsLawfulBefore IsBehind spell Fits read
  pub makes : (x : X) → Fits x → (word ∷ spell x ≡ line_words naming (make x)) × IsForm naming (make x)
  pub picks : (words : List (List ℕ)) → Reading.form_in naming (word ∷ words) ≡ mapped make read words
  pub visible : is_word word ≡ true

-- what was read is spelled so
abbrev pub Takes : Naming → List (List ℕ) → Option (Line × List (List ℕ)) → Type 0
Takes naming words found = (x : Line × List (List ℕ)) → found ≡ Some x → (words ≡ line_words naming x.0 ++ x.1) × IsForm naming x.0

pub by_form : {X : Type 0} {naming : Naming} {word : List ℕ} {spell : X → List (List ℕ)} {Fits : X → Type 0} {read : List (List ℕ) → Option (X × List (List ℕ))} {make : X → Line} → IsFormLaw naming word spell Fits read make
    → (name : List ℕ) (words : List (List ℕ)) → bytes_eq name word ≡ true → Takes naming (name ∷ words) (mapped make read words)
by_form {X} {naming} {word} {spell} {Fits} {read} {make} form name words same x e =
    let said = map_some (λ (r : X × List (List ℕ)). (make r.0, r.1)) (read words) x e in
    let found = form.law.takes words said.0 said.1 in
    let made = form.makes said.0.0 found.1 in
    let P : Line × List (List ℕ) → Type 0 = λ p. (name ∷ words ≡ line_words naming p.0 ++ p.1) × IsForm naming p.0 in
    subst P said.2 (
      ap (λ (w : List ℕ). w ∷ words) (same_bytes name word same)
          ∙ ap (λ (ws : List (List ℕ)). word ∷ ws) found.0
          ∙ ap (λ (front : List (List ℕ)). front ++ said.0.1) made.0,
      made.1,
    )

-- one form, or others
pub or_form : {X : Type 0} {naming : Naming} {word : List ℕ} {spell : X → List (List ℕ)} {Fits : X → Type 0} {read : List (List ℕ) → Option (X × List (List ℕ))} {make : X → Line} → IsFormLaw naming word spell Fits read make
    → (name : List ℕ) (words : List (List ℕ)) (others : Option (Line × List (List ℕ))) → Takes naming (name ∷ words) others → Takes naming (name ∷ words) (Reading.choose name word (mapped make read words) others)
or_form {X} {naming} {word} form name words others rest x e =
    elim (chosen (bytes_eq name word) _ _ _ e) [
      | inl found ↦ by_form form name words found.0 x found.1
      | inr other ↦ rest x other.1
    ]

-- A line is read again from its words.
pub record IsRead (naming : Naming) (line : Line) : Type 0 where
  pub again : (rest : List (List ℕ)) → IsBehind rest → Reading.form_in naming (line_words naming line ++ rest) ≡ Some (line, rest)
  pub visible : are_words (line_words naming line) ≡ true
  pub some : at_end (line_words naming line) ≡ None

pub form_read : {X : Type 0} {naming : Naming} {word : List ℕ} {spell : X → List (List ℕ)} {Fits : X → Type 0} {read : List (List ℕ) → Option (X × List (List ℕ))} {make : X → Line} → IsFormLaw naming word spell Fits read make → (x : X) → Fits x → IsRead naming (make x)
form_read {X} {naming} {word} {spell} {Fits} {read} {make} form x fits =
    let made = (form.makes x fits).0 in
    let P : List (List ℕ) → Type 0 = λ words. are_words words ≡ true in
    record {
      again = λ rest after.
          ap (λ (front : List (List ℕ)). Reading.form_in naming (front ++ rest)) (sym made)
          ∙ form.picks (spell x ++ rest)
          ∙ ap (λ (read : Option (X × List (List ℕ))). option_map (λ (r : X × List (List ℕ)). (make r.0, r.1)) read) (form.law.again x rest fits after);
      visible = subst P made (rw form.visible (form.law.words x fits));
      some = ap at_end (sym made);
    }
