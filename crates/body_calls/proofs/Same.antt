-- A table where a number names what it named is the same.
use Rattle.std.proofs.Common.{◌≡◌, ℕ, zero, suc, ◌-◌, ◌==◌, Bool, true, false, List, [], ◌∷◌, refl, sym, ap, set}
use Rattle.std.specs.Prelude.{Option, None, Some, slice_get}
use Rattle.edge_abi.specs.Tables.{item_in, held, with_value}

item_same : {T : Type 0} (table : List (Option T)) (i : ℕ) (x : T) → item_in (slice_get table i) ≡ Some x → set table i (Some x) ≡ table
item_same [] i x e = cc
item_same {T} (item ∷ table) zero x e = ap (λ (one : Option T). one ∷ table) (sym e)
item_same {T} (item ∷ table) (suc i) x e = ap (λ (rest : List (Option T)). item ∷ rest) (item_same table i x e)

pub value_same : {T : Type 0} (table : List (Option T)) (number : ℕ) (x : T) → held table number ≡ Some x → with_value table number x ≡ table
value_same table number x e =
    let with : (b : Bool) → (number == 0) ≡ b → with_value table number x ≡ table
    = elim [ true ↦ λ h. let none : None ≡ Some x = rw h at e in cc | false ↦ λ h. item_same table (number - 1) x (rw h at e) ] in with (number == 0) refl
