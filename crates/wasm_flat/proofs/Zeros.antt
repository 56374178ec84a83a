-- Zeros of groups of locals.
use Rattle.std.proofs.Common.{◌≡◌, ℕ, zero, suc, ◌≤◌, refl, sym, ap, ◌∙◌, List, [], ◌∷◌, ◌++◌, map, replicate, length, drop}
use Rattle.std.proofs.Math.ListN.{drop_of_length-le}
use Rattle.std.proofs.lemmas.List.{map-append, append-nil}
use Rattle.wasm_types.specs.declared.types.ValueType.{ValueType}
use Rattle.wasm_types.specs.declared.values.Value.{Value}
use Rattle.wasm_types.specs.declared.locals.Group.{Group}
use Rattle.wasm_types.specs.Locals.{locals_of}
use Rattle.wasm_meaning.specs.Kinds.{zero_of}

alike : (n : ℕ) (kind : ValueType) → map zero_of (replicate n kind) ≡ replicate n (zero_of kind)
alike zero kind = refl
alike (suc n) kind = ap (λ vs. zero_of kind ∷ vs) (alike n kind)

-- group by group
abbrev pub zeros_of : List Group → List Value
zeros_of [] = []
zeros_of (g ∷ gs) = replicate g.count (zero_of g.kind) ++ zeros_of gs

pub zeros_are : (gs : List Group) → zeros_of gs ≡ map zero_of (locals_of gs)
zeros_are [] = refl
zeros_are (g ∷ gs) =
    ap (λ vs. replicate g.count (zero_of g.kind) ++ vs) (zeros_are gs)
    ∙ sym (map-append zero_of (replicate g.count g.kind) (locals_of gs) ∙ ap (λ vs. vs ++ map zero_of (locals_of gs)) (alike g.count g.kind))

-- all groups are done
pub all_zeros : (done before : List Value) (gs : List Group) (kinds : List ValueType) (i : ℕ) → length gs ≤ i → done ++ zeros_of (drop i gs) ≡ before ++ zeros_of gs → locals_of gs ≡ kinds
    → before ++ map zero_of kinds ≡ done
all_zeros done before gs kinds i h e same =
    ap (λ ks. before ++ map zero_of ks) (sym same) ∙ ap (λ vs. before ++ vs) (sym (zeros_are gs)) ∙ sym e ∙ ap (λ l. done ++ zeros_of l) (drop_of_length-le gs h) ∙ append-nil done
