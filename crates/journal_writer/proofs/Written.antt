-- Lines that were written one after another.
use Rattle.std.proofs.Common.{◌≡◌, ℕ, List, [], ◌∷◌, ◌++◌, sym, ◌∙◌, ap, append_assoc, append-nil}
use Rattle.std.specs.List.{flat_map}
use Rattle.std.proofs.lemmas.List.Concat.{flat_map-append}
use Rattle.edge_words.specs.Words.{spaced, line_of, ended, text_of}
use Rattle.call_lines.proofs.Written.{written_more, written_word, written_none}

-- a line of a first word and other words
pub written_line : (text w0 w1 w2 first : List ℕ) (words : List (List ℕ)) → w0 ≡ text ++ first → w1 ≡ w0 ++ flat_map spaced words → w2 ≡ w1 ++ 10 ∷ [] → w2 ≡ text ++ ended (line_of (first ∷ words))
written_line text w0 w1 w2 first words e0 e1 e2 =
    e2
    ∙ ap (λ (t : List ℕ). t ++ 10 ∷ []) (e1 ∙ ap (λ (t : List ℕ). t ++ flat_map spaced words) e0 ∙ append_assoc text first (flat_map spaced words))
    ∙ append_assoc text (first ++ flat_map spaced words) (10 ∷ [])

-- lines and then some others
pub written_lines : (text before written : List ℕ) (front back : List (List ℕ)) → before ≡ text ++ text_of front → written ≡ before ++ text_of back → written ≡ text ++ text_of (front ++ back)
written_lines text before written front back e last =
    last
    ∙ ap (λ (t : List ℕ). t ++ text_of back) e
    ∙ append_assoc text (text_of front) (text_of back)
    ∙ ap (λ (lines : List ℕ). text ++ lines) (sym (flat_map-append ended front back))

-- six words
pub written_six : (text w1 w2 w3 w4 w5 w6 a b c d e f : List ℕ) → w1 ≡ text ++ spaced a → w2 ≡ w1 ++ spaced b → w3 ≡ w2 ++ spaced c → w4 ≡ w3 ++ spaced d → w5 ≡ w4 ++ spaced e → w6 ≡ w5 ++ spaced f
    → w6 ≡ text ++ flat_map spaced (a ∷ (b ∷ (c ∷ (d ∷ (e ∷ (f ∷ []))))))
written_six text w1 w2 w3 w4 w5 w6 a b c d e f e1 e2 e3 e4 e5 e6 =
    let t1 = written_word text text w1 [] a (written_none text) e1 in
    let t2 = written_word text w1 w2 (a ∷ []) b t1 e2 in
    let t3 = written_word text w2 w3 (a ∷ (b ∷ [])) c t2 e3 in
    let t4 = written_word text w3 w4 (a ∷ (b ∷ (c ∷ []))) d t3 e4 in
    let t5 = written_word text w4 w5 (a ∷ (b ∷ (c ∷ (d ∷ [])))) e t4 e5 in
    written_word text w5 w6 (a ∷ (b ∷ (c ∷ (d ∷ (e ∷ []))))) f t5 e6

-- the line of an entry: number, guest, moment, call and reply
pub written_entry : (text w0 w1 w2 w3 w4 w5 w6 number guest moment sign : List ℕ) (call reply : List (List ℕ)) → w0 ≡ text ++ number → w1 ≡ w0 ++ spaced guest → w2 ≡ w1 ++ spaced moment → w3 ≡ w2 ++ flat_map spaced call → w4 ≡ w3 ++ spaced sign → w5 ≡ w4 ++ flat_map spaced reply → w6 ≡ w5 ++ 10 ∷ []
    → w6 ≡ text ++ ended (line_of (number ∷ (guest ∷ (moment ∷ (call ++ (sign ∷ reply))))))
written_entry text w0 w1 w2 w3 w4 w5 w6 number guest moment sign call reply e0 e1 e2 e3 e4 e5 e6 =
    let t1 = written_word w0 w0 w1 [] guest (written_none w0) e1 in
    let t2 = written_word w0 w1 w2 (guest ∷ []) moment t1 e2 in
    let t3 = written_more w0 w2 w3 (guest ∷ (moment ∷ [])) call t2 e3 in
    let t4 = written_word w0 w3 w4 (guest ∷ (moment ∷ call)) sign t3 e4 in
    let t5 = written_more w0 w4 w5 (guest ∷ (moment ∷ (call ++ sign ∷ []))) reply t4 e5 in
    let t6 = t5 ∙ ap (λ (words : List (List ℕ)). w0 ++ flat_map spaced (guest ∷ (moment ∷ words))) (append_assoc call (sign ∷ []) reply) in
    written_line text w0 w5 w6 number (guest ∷ (moment ∷ (call ++ (sign ∷ reply)))) e0 t6 e6

-- a first line, some lines, some others, and a last
pub written_journal : (w0 w1 w2 w3 first last : List ℕ) (front back : List (List ℕ)) → w0 ≡ ended first → w1 ≡ w0 ++ text_of front → w2 ≡ w1 ++ text_of back → w3 ≡ w2 ++ ended last → w3 ≡ text_of (first ∷ (front ++ (back ++ last ∷ [])))
written_journal w0 w1 w2 w3 first last front back e0 e1 e2 e3 =
    let one : w3 ≡ w2 ++ text_of (last ∷ []) = e3 ∙ ap (λ (w : List ℕ). w2 ++ w) (sym (append-nil (ended last))) in
    let two = written_lines w1 w2 w3 back (last ∷ []) e2 one in
    let three = written_lines w0 w1 w3 front (back ++ last ∷ []) e1 two in
    three ∙ ap (λ (w : List ℕ). w ++ text_of (front ++ (back ++ last ∷ []))) e0
