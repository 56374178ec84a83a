-- Lines and words, cut where they were joined.
use Rattle.std.proofs.Common.{◌≡◌, ℕ, Bool, true, not, List, [], ◌∷◌, ◌++◌, refl, sym, ◌∙◌, ap, None, arith, append_assoc, append-nil}
use Rattle.std.specs.Prelude.{◌==◌}
use Rattle.std.specs.List.{list_all, flat_map, join_with_byte}
use Rattle.std.proofs.lemmas.Bool.{and_parts, not-true}
use Rattle.std.proofs.lemmas.Bool.Decides.{nat_tests}
use Rattle.std.proofs.lemmas.List.Folds.{list_all-append}
use Rattle.std.proofs.lemmas.List.Splits.{join_with_byte-slice_split}
use Rattle.edge_words.specs.Words.{is_word, is_visible, are_words, spaced, line_of, text_of}
use Rattle.edge_words.specs.Reading.{parts_at, words_in, whole_lines, after_lines, all_but_last, last_of, at_end}
use Rattle.edge_words.proofs.Parts.{words_left}

-- no element is c
abbrev pub lacks : ℕ → List ℕ → Bool
lacks c xs = list_all (λ b. not (b == c)) xs

-- a part ends at the next c
pub parts_here : (c : ℕ) (xs ys : List ℕ) → lacks c xs ≡ true → parts_at c (xs ++ c ∷ ys) ≡ xs ∷ parts_at c ys
parts_here c [] ys none = let here : (c == c) ≡ true = grind (arith, nat_tests) in rw here refl
parts_here c (x ∷ xs) ys none =
    let parts = and_parts _ _ none in
    rw (not-true (x == c) parts.0, parts_here c xs ys parts.1) refl

-- and the last part at the end
pub parts_last : (c : ℕ) (xs : List ℕ) → lacks c xs ≡ true → parts_at c xs ≡ xs ∷ []
parts_last c [] none = refl
parts_last c (x ∷ xs) none =
    let parts = and_parts _ _ none in
    rw (not-true (x == c) parts.0, parts_last c xs parts.1) refl

-- a word has no space, a line no line feed
visible_lacks : (b : ℕ) → is_visible b ≡ true → not (b == 32) ≡ true
visible_lacks b e = grind (arith, nat_tests)

pub word_lacks_space : (word : List ℕ) → is_word word ≡ true → lacks 32 word ≡ true
word_lacks_space [] e = refl
word_lacks_space (b ∷ word) e = let parts = and_parts _ _ e in rw (visible_lacks b parts.0) (word_lacks_space word parts.1)

visible_no_feed : (b : ℕ) → is_visible b ≡ true → not (b == 10) ≡ true
visible_no_feed b e = grind (arith, nat_tests)

word_lacks_feed : (word : List ℕ) → is_word word ≡ true → lacks 10 word ≡ true
word_lacks_feed [] e = refl
word_lacks_feed (b ∷ word) e = let parts = and_parts _ _ e in rw (visible_no_feed b parts.0) (word_lacks_feed word parts.1)

spaced_lacks_feed : (words : List (List ℕ)) → are_words words ≡ true → lacks 10 (flat_map spaced words) ≡ true
spaced_lacks_feed [] e = refl
spaced_lacks_feed (word ∷ words) e =
    let parts = and_parts _ _ e in
    rw (list_all-append (λ b. not (b == 10)) word (flat_map spaced words), word_lacks_feed word parts.0) (spaced_lacks_feed words parts.1)

pub line_lacks_feed : (words : List (List ℕ)) → are_words words ≡ true → lacks 10 (line_of words) ≡ true
line_lacks_feed [] e = refl
line_lacks_feed (word ∷ words) e =
    let parts = and_parts _ _ e in
    rw (list_all-append (λ b. not (b == 10)) word (flat_map spaced words), word_lacks_feed word parts.0) (spaced_lacks_feed words parts.1)

-- the words of a line are those that it was made of
pub words_again : (word : List ℕ) (words : List (List ℕ)) → are_words (word ∷ words) ≡ true → words_in (line_of (word ∷ words)) ≡ word ∷ words
words_again word [] e =
    let parts = and_parts _ _ e in
    rw append-nil (parts_last 32 word (word_lacks_space word parts.0))
words_again word (next ∷ words) e =
    let parts = and_parts _ _ e in
    parts_here 32 word (line_of (next ∷ words)) (word_lacks_space word parts.0) ∙ ap (λ (ws : List (List ℕ)). word ∷ ws) (words_again next words parts.1)

pub words_of_line : (words : List (List ℕ)) → at_end words ≡ None → are_words words ≡ true → words_in (line_of words) ≡ words
words_of_line [] some visible = cc some
words_of_line (word ∷ words) some visible = words_again word words visible

-- the words, joined again, are the line
line_of_join : (words : List (List ℕ)) → join_with_byte 32 words ≡ line_of words
line_of_join [] = refl
line_of_join (word ∷ []) = sym (append-nil word)
line_of_join (word ∷ (next ∷ words)) = ap (λ (rest : List ℕ). word ++ (32 ∷ rest)) (line_of_join (next ∷ words))

pub words_takes : (line : List ℕ) → line_of (words_in line) ≡ line
words_takes line = sym (line_of_join (words_in line)) ∙ join_with_byte-slice_split 32 line

-- the lines of a text and what stands after them are the text
joined_lines : (parts : List (List ℕ)) → join_with_byte 10 parts ≡ text_of (all_but_last parts) ++ last_of parts
joined_lines [] = refl
joined_lines (line ∷ []) = refl
joined_lines (line ∷ (next ∷ parts)) =
    let regrouped = append_assoc line (10 ∷ []) (text_of (all_but_last (next ∷ parts))) in
    ap (λ (rest : List ℕ). line ++ (10 ∷ rest)) (joined_lines (next ∷ parts))
    ∙ sym (ap (λ (front : List ℕ). front ++ last_of (next ∷ parts)) regrouped ∙ append_assoc line (10 ∷ text_of (all_but_last (next ∷ parts))) (last_of (next ∷ parts)))

pub lines_takes : (text : List ℕ) → text_of (whole_lines text) ++ after_lines text ≡ text
lines_takes text = sym (joined_lines (parts_at 10 text)) ∙ join_with_byte-slice_split 10 text

-- one more part before some
pub not_last : (line : List ℕ) (parts : List (List ℕ)) → at_end parts ≡ None → (all_but_last (line ∷ parts) ≡ line ∷ all_but_last parts) × (last_of (line ∷ parts) ≡ last_of parts)
not_last line [] some = cc some
not_last line (next ∷ parts) some = (refl, refl)

-- the lines of a text are those that it was made of
pub lines_again : (lines : List (List ℕ)) → list_all (lacks 10) lines ≡ true → (whole_lines (text_of lines) ≡ lines) × (after_lines (text_of lines) ≡ [])
lines_again [] e = (refl, refl)
lines_again (line ∷ lines) e =
    let both = and_parts _ _ e in
    let first : parts_at 10 (text_of (line ∷ lines)) ≡ line ∷ parts_at 10 (text_of lines) =
    ap (parts_at 10) (append_assoc line (10 ∷ []) (text_of lines)) ∙ parts_here 10 line (text_of lines) both.0 in
    let more = not_last line (parts_at 10 (text_of lines)) (words_left 10 (text_of lines)) in
    let rest = lines_again lines both.1 in
    (ap all_but_last first ∙ more.0 ∙ ap (λ (ls : List (List ℕ)). line ∷ ls) rest.0, ap last_of first ∙ more.1 ∙ rest.1)
