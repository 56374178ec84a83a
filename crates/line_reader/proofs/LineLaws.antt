-- Lines of words, read as they are spelled.
use Rattle.std.proofs.Common.{◌≡◌, ◌<◌, ◌^◌, ℕ, true, false, nat_lt, List, sym, ◌∙◌, ap, Option, None, Some}
use Rattle.std.specs.Prelude.{bytes_eq, decimal}
use Rattle.std.specs.List.{list_all}
use Rattle.edge_words.specs.Words.{line_of}
use Rattle.edge_words.specs.Reading.{at_end, number_in, words_in}
use Rattle.edge_words.proofs.Numbers.{other_bytes, number_again}
use Rattle.edge_words.proofs.Lines.{lacks, words_of_line, words_takes, line_lacks_feed}
use Rattle.edge_words.proofs.Laws.{IsWhole}
use Rattle.edge_words.proofs.ChoiceLaws.{no_digits}

-- what a lawful reading takes is the line of what is spelled
pub line_takes : {X : Type 0} (spell : X → List (List ℕ)) (Fits : X → Type 0) (read : List (List ℕ) → Option X) → IsWhole spell Fits read → (line : List ℕ) (x : X) → read (words_in line) ≡ Some x → (line ≡ line_of (spell x)) × Fits x
line_takes spell Fits read law line x e =
    let found = law.takes (words_in line) x e in
    (sym (words_takes line) ∙ ap line_of found.0, found.1)

pub line_words : {X : Type 0} (spell : X → List (List ℕ)) (Fits : X → Type 0) (read : List (List ℕ) → Option X) → IsWhole spell Fits read → (x : X) → at_end (spell x) ≡ None → Fits x → words_in (line_of (spell x)) ≡ spell x
line_words spell Fits read law x some fits = words_of_line (spell x) some (law.words x fits)

pub line_feed : {X : Type 0} (spell : X → List (List ℕ)) (Fits : X → Type 0) (read : List (List ℕ) → Option X) → IsWhole spell Fits read → (x : X) → Fits x → lacks 10 (line_of (spell x)) ≡ true
line_feed spell Fits read law x fits = line_lacks_feed (spell x) (law.words x fits)

-- a number is no name
pub number_no_name : (n : ℕ) (name : List ℕ) → n < 2 ^ 64 → list_all (λ b. nat_lt b 58) name ≡ false → bytes_eq (decimal n) name ≡ false
number_no_name n name fits letters =
    other_bytes (decimal n) name (λ e. cc (sym (number_again n fits) ∙ ap number_in e ∙ no_digits name letters))
