-- The numbers of a word, read one after another.
use Rattle.std.proofs.Common.{◌≡◌, ℕ, List, [], ◌∷◌, ◌++◌, refl, sym, ap, Option, None, Some, append_assoc}
use Rattle.std.specs.Option.{option_map}
use Rattle.edge_words.specs.Reading.{parts_at, each, listed_in, number_in}

-- these numbers, and then those that are left
abbrev pub with : List ℕ → List ℕ → Option (List ℕ)
with tickets rest = option_map (λ more. tickets ++ more) (listed_in number_in rest)

pub none_yet : (word : List ℕ) → with [] word ≡ listed_in number_in word
none_yet word =
    let cases : (o : Option (List ℕ)) → option_map (λ more. [] ++ more) o ≡ o = elim [ None ↦ refl | Some more ↦ refl ] in
    cases (listed_in number_in word)

pub one_more : (tickets rest piece after : List ℕ) (ticket : ℕ) → parts_at 44 rest ≡ piece ∷ parts_at 44 after → Some ticket ≡ number_in piece → with tickets rest ≡ with (tickets ++ ticket ∷ []) after
one_more tickets rest piece after ticket parts read =
    let cases : (o : Option (List ℕ)) → option_map (λ more. tickets ++ more) (option_map (λ xs. ticket ∷ xs) o) ≡ option_map (λ more. (tickets ++ ticket ∷ []) ++ more) o =
    elim [ None ↦ refl | Some more ↦ ap (λ (all : List ℕ). Some all) (sym (append_assoc tickets (ticket ∷ []) more)) ] in
    rw (parts, ← read) (cases (each number_in (parts_at 44 after)))

pub no_more : (tickets rest piece after : List ℕ) → parts_at 44 rest ≡ piece ∷ parts_at 44 after → None ≡ number_in piece → with tickets rest ≡ None
no_more tickets rest piece after parts none = rw (parts, ← none) refl

pub last_one : (tickets rest : List ℕ) (ticket : ℕ) → parts_at 44 rest ≡ rest ∷ [] → Some ticket ≡ number_in rest → with tickets rest ≡ Some (tickets ++ ticket ∷ [])
last_one tickets rest ticket parts read = rw (parts, ← read) refl

pub no_last : (tickets rest : List ℕ) → parts_at 44 rest ≡ rest ∷ [] → None ≡ number_in rest → with tickets rest ≡ None
no_last tickets rest parts none = rw (parts, ← none) refl
