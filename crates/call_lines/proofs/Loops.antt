-- What is read in a loop, one after another.
use Rattle.std.proofs.Common.{◌≡◌, ◌<◌, ℕ, Bool, true, false, cond, List, [], ◌∷◌, ◌++◌, length, drop, refl, sym, ◌∙◌, ap, Option, None, Some, Err, append_assoc, append-nil, arith}
use Rattle.std.specs.Option.{option_map}
use Rattle.edge_words.specs.Reading.{Gives, begins, optional, many, onto, parts_at, at_end, ◌>>=◌}
use Rattle.edge_words.specs.declared.fault.LineFault.{LineFault}
use Rattle.edge_words.specs.declared.fault.LineFault.TheVariants.{Bad, OutOfMemory}
use Rattle.edge_words.proofs.Parts.{words_left}
use Rattle.call_lines.specs.Reading.{two}

-- ---- words that may be repeated

-- what is found before the words after it
abbrev pub found_before : List ℕ → List (List ℕ) → Option (List ℕ) × List (List ℕ)
found_before text after = (Some text, after)

abbrev pub none_before : List (List ℕ) → Option (List ℕ) × List (List ℕ)
none_before after = (None, after)

-- what was read before what is left
abbrev pub read_with : {X : Type 0} → List X → Option (List X × List (List ℕ)) → Option (List X × List (List ℕ))
read_with done more = option_map (λ m. (done ++ m.0, m.1)) more

abbrev pub many_step : {X : Type 0} → List ℕ → (List ℕ → Option X) → Option (List ℕ) × List (List ℕ) → Option (List X × List (List ℕ))
many_step prefix read (None, words) = Some ([], words)
many_step prefix read (Some text, words) = read text >>= λ x. onto x (many prefix read words)

many_by_step : {X : Type 0} (prefix : List ℕ) (read : List ℕ → Option X) (words : List (List ℕ)) → many prefix read words ≡ many_step prefix read (optional prefix words)
many_by_step prefix read [] = refl
many_by_step prefix read (word ∷ words) =
    elim (begins prefix word) as (λ b. cond b (read (drop (length prefix) word) >>= λ x. onto x (many prefix read words)) (Some ([], word ∷ words)) ≡ many_step prefix read (cond b (found_before (drop (length prefix) word) words) (none_before (word ∷ words)))) [ true ↦ refl | false ↦ refl ]

read_first : {X : Type 0} (xs : List X) (more : Option (List X × List (List ℕ))) → more ≡ read_with [] more
read_first xs None = refl
read_first xs (Some m) = refl

-- before the first
pub many_starts : {X : Type 0} (prefix : List ℕ) (read : List ℕ → Option X) (words : List (List ℕ)) → read_with [] (many prefix read words) ≡ many prefix read words
many_starts prefix read words = sym (read_first [] (many prefix read words))

-- no more of them
pub many_ends : {X : Type 0} (prefix : List ℕ) (read : List ℕ → Option X) (done : List X) (words after : List (List ℕ)) → none_before after ≡ optional prefix words → read_with done (many prefix read words) ≡ Some (done, after)
many_ends prefix read done words after e =
    ap (read_with done) (many_by_step prefix read words ∙ ap (many_step prefix read) (sym e)) ∙ ap (λ xs. Some (xs, after)) (append-nil done)

one_more : {X : Type 0} (done : List X) (x : X) (more : Option (List X × List (List ℕ))) → read_with done (onto x more) ≡ read_with (done ++ x ∷ []) more
one_more done x None = refl
one_more done x (Some m) = ap (λ xs. Some (xs, m.1)) (sym (append_assoc done (x ∷ []) m.0))

-- one more of them
pub many_goes : {X : Type 0} (prefix : List ℕ) (read : List ℕ → Option X) (done : List X) (x : X) (words after : List (List ℕ)) (text : List ℕ) → found_before text after ≡ optional prefix words → read text ≡ Some x → read_with done (many prefix read words) ≡ read_with (done ++ x ∷ []) (many prefix read after)
many_goes prefix read done x words after text e found =
    ap (read_with done) (many_by_step prefix read words ∙ ap (many_step prefix read) (sym e))
    ∙ ap (λ o. read_with done (o >>= λ y. onto y (many prefix read after))) found
    ∙ one_more done x (many prefix read after)

many_fails : {X : Type 0} (prefix : List ℕ) (read : List ℕ → Option X) (done : List X) (words after : List (List ℕ)) (text : List ℕ) → found_before text after ≡ optional prefix words → read text ≡ None → read_with done (many prefix read words) ≡ None
many_fails prefix read done words after text e found =
    ap (read_with done) (many_by_step prefix read words ∙ ap (many_step prefix read) (sym e))
    ∙ ap (λ o. read_with done (o >>= λ y. onto y (many prefix read after))) found

-- one that can't be read
pub many_told : {X Y Z : Type 0} (view : Y → X) (view' : Z → List X × List (List ℕ)) (fault : LineFault) (prefix : List ℕ) (read : List ℕ → Option X) (done : List X) (words after : List (List ℕ)) (text : List ℕ) → found_before text after ≡ optional prefix words → Gives view (Err fault) (read text) → Gives view' (Err fault) (read_with done (many prefix read words))
many_told view view' Bad prefix read done words after text e found = many_fails prefix read done words after text e found
many_told view view' OutOfMemory prefix read done words after text e found = tt

-- fewer are left
pub fewer_words : (prefix : List ℕ) (words after : List (List ℕ)) (text : List ℕ) → found_before text after ≡ optional prefix words → length after < length words
fewer_words prefix [] after text e = cc (ap (λ p. p.0) e)
fewer_words prefix (word ∷ words) after text e =
    let with : (b : Bool) → found_before text after ≡ cond b (found_before (drop (length prefix) word) words) (none_before (word ∷ words)) → length after < length (word ∷ words) =
    elim [
      | true ↦ λ e. let same = ap (λ p. length p.1) e in omega (arith, same)
      | false ↦ λ e. cc (ap (λ p. p.0) e)
    ] in with (begins prefix word) e

-- ---- pieces between commas

abbrev pub pieces_with : {X : Type 0} → List X → Option (List X) → Option (List X)
pieces_with done more = option_map (λ m. done ++ m) more

-- ---- two parts

-- more than two parts are not two
pub not_two : (c : ℕ) (text front back more rest : List ℕ) → parts_at c text ≡ front ∷ parts_at c back → parts_at c back ≡ more ∷ parts_at c rest → None ≡ two (parts_at c text)
not_two c text front back more rest e f =
    let none : (parts : List (List ℕ)) → parts ≡ parts_at c rest → None ≡ two (front ∷ (more ∷ parts)) =
    elim [ [] ↦ λ same. cc (sym (words_left c rest) ∙ ap (at_end) (sym same)) | part ∷ parts ↦ λ _. refl ] in
    none (parts_at c rest) refl ∙ ap two (sym (e ∙ ap (λ ps. front ∷ ps) f))
