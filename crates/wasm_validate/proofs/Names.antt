-- A set holds the names of the exports that were seen.
use Rattle.std.specs.BTreeSet.{BTreeSet, contains_by, Updates}
use Rattle.std.specs.Cmp.Lexicographic.{slice_cmp}
use Rattle.std.specs.List.{list_any}
use Rattle.std.specs.Ordering.{nat_cmp}
use Rattle.std.specs.Str.{bytes_eq}
use Rattle.std.proofs.Common.{◌≡◌, ℕ, ◌+◌, ◌<◌, Bool, true, false, cond, ◌||◌, Bor, List, [], ◌∷◌, length, take, get_or, refl, ap, ◌∙◌}
use Rattle.std.proofs.lemmas.List.Folds.{list_any_more}
use Rattle.std.proofs.lemmas.Map.Text.{is_eq-slice_cmp}
use Rattle.wasm_types.specs.declared.modules.Export.{Export}
use Rattle.wasm_validate.specs.Parts.{any_named}

abbrev pub Names : Type 0
Names = BTreeSet (Bor (List ℕ))

abbrev pub has : Names → List ℕ → Bool
has names name = contains_by (λ k. slice_cmp nat_cmp name k.now) names

as_list_any : (name : List ℕ) (es : List Export) → any_named name es ≡ list_any (λ e. bytes_eq e.name name) es
as_list_any name [] = refl
as_list_any name (e ∷ es) = ap (λ (b : Bool). bytes_eq e.name name || b) (as_list_any name es)

one_more : (name : List ℕ) (all : List Export) (k : ℕ) (e : Export) → k < length all → any_named name (take (k + 1) all) ≡ (any_named name (take k all) || bytes_eq (get_or all k e).name name)
one_more name all k e lt = rw (as_list_any name (take (k + 1) all), as_list_any name (take k all)) (list_any_more (λ (x : Export). bytes_eq x.name name) all k e lt)

found_last : (a b : Bool) → cond b true a ≡ (a || b)
found_last true true = refl
found_last true false = refl
found_last false true = refl
found_last false false = refl

-- after one more name, the set holds the names of one more export
pub seen_more : (all : List Export) (k : ℕ) (e : Export) (old new : Names) (key : Bor (List ℕ))
    → k < length all → e ≡ get_or all k e → key.now ≡ e.name
    → Updates (λ x y. slice_cmp nat_cmp x.now y.now) old new key true
    → ((name : List ℕ) → has old name ≡ any_named name (take k all))
    → (name : List ℕ) → has new name ≡ any_named name (take (k + 1) all)
seen_more all k e old new key lt is same updates seen name =
    let last : bytes_eq key.now name ≡ bytes_eq (get_or all k e).name name = rw (same, ← is) refl in
    updates.0 (record { ref_ptr = (0, 0); now = name })
    ∙ rw (is_eq-slice_cmp key.now name, seen name, one_more name all k e lt, ← last) (found_last (any_named name (take k all)) (bytes_eq key.now name))
