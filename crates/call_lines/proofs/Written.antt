-- Words that were written one after another.
use Rattle.std.proofs.Common.{◌≡◌, ℕ, List, [], ◌∷◌, ◌++◌, sym, ◌∙◌, ap, append_assoc, append-nil}
use Rattle.std.specs.List.{flat_map}
use Rattle.std.proofs.lemmas.List.Concat.{flat_map-append}
use Rattle.edge_words.specs.Words.{spaced}

-- words and then some others
pub spaced_append : (front back : List (List ℕ)) → flat_map spaced (front ++ back) ≡ flat_map spaced front ++ flat_map spaced back
spaced_append front back = flat_map-append spaced front back

-- one list of words after another
pub written_more : (text before written : List ℕ) (front back : List (List ℕ)) → before ≡ text ++ flat_map spaced front → written ≡ before ++ flat_map spaced back → written ≡ text ++ flat_map spaced (front ++ back)
written_more text before written front back e last =
    last
    ∙ ap (λ (t : List ℕ). t ++ flat_map spaced back) e
    ∙ append_assoc text (flat_map spaced front) (flat_map spaced back)
    ∙ ap (λ (words : List ℕ). text ++ words) (sym (spaced_append front back))

-- a word in two pieces
pub written_pieces : (text before written prefix rest : List ℕ) → before ≡ text ++ spaced prefix → written ≡ before ++ rest → written ≡ text ++ flat_map spaced ((prefix ++ rest) ∷ [])
written_pieces text before written prefix rest e last =
    last
    ∙ ap (λ (t : List ℕ). t ++ rest) e
    ∙ append_assoc text (spaced prefix) rest
    ∙ ap (λ (words : List ℕ). text ++ words) (sym (append-nil (spaced prefix ++ rest)))

-- a word in two pieces, and four lists of words
pub written_terms : (text w0 w1 w2 w3 w4 w5 prefix number : List ℕ) (a b c d : List (List ℕ)) → w0 ≡ text ++ spaced prefix → w1 ≡ w0 ++ number → w2 ≡ w1 ++ flat_map spaced a → w3 ≡ w2 ++ flat_map spaced b → w4 ≡ w3 ++ flat_map spaced c → w5 ≡ w4 ++ flat_map spaced d
    → w5 ≡ text ++ flat_map spaced ((prefix ++ number) ∷ (a ++ (b ++ (c ++ d))))
written_terms text w0 w1 w2 w3 w4 w5 prefix number a b c d e0 e1 e2 e3 e4 e5 =
    let first = written_pieces text w0 w1 prefix number e0 e1 in
    let second = written_more text w1 w2 ((prefix ++ number) ∷ []) a first e2 in
    let third = written_more text w2 w3 ((prefix ++ number) ∷ a) b second e3 in
    let fourth = written_more text w3 w4 ((prefix ++ number) ∷ (a ++ b)) c third e4 in
    let last = written_more text w4 w5 ((prefix ++ number) ∷ (a ++ b ++ c)) d fourth e5 in
    let regrouped : a ++ b ++ c ++ d ≡ a ++ (b ++ (c ++ d)) = simp append_assoc in
    last ∙ ap (λ (words : List (List ℕ)). text ++ flat_map spaced ((prefix ++ number) ∷ words)) regrouped

pub written_writing : (text w1 w2 w3 : List ℕ) (a b c : List (List ℕ)) → w1 ≡ text ++ flat_map spaced a → w2 ≡ w1 ++ flat_map spaced b → w3 ≡ w2 ++ flat_map spaced c → w3 ≡ text ++ flat_map spaced (a ++ (b ++ c))
written_writing text w1 w2 w3 a b c e1 e2 e3 =
    written_more text w2 w3 (a ++ b) c (written_more text w1 w2 a b e1 e2) e3
    ∙ ap (λ (words : List (List ℕ)). text ++ flat_map spaced words) (append_assoc a b c)

-- one more word
pub written_word : (text before written : List ℕ) (front : List (List ℕ)) (word : List ℕ) → before ≡ text ++ flat_map spaced front → written ≡ before ++ spaced word → written ≡ text ++ flat_map spaced (front ++ word ∷ [])
written_word text before written front word e last =
    written_more text before written front (word ∷ []) e (last ∙ ap (λ (w : List ℕ). before ++ w) (sym (append-nil (spaced word))))

-- no word yet
pub written_none : (text : List ℕ) → text ≡ text ++ flat_map spaced []
written_none text = sym (append-nil text)
