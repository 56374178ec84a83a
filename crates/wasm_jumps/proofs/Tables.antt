-- A table for each function, one after the other.
use Rattle.std.proofs.Common.{◌≡◌, ℕ, ◌+◌, ◌<◌, ◌≤◌, get_or, add-one, List, [], ◌∷◌, ◌++◌, length, drop, sym, subst, ◌∙◌, refl, append_assoc}
use Rattle.std.proofs.Math.Seq.{drop-cons}
use Rattle.std.proofs.Math.ListN.{drop_of_length-le}
use Rattle.std.proofs.lemmas.List.{append-nil}
use Rattle.wasm_types.specs.declared.modules.Code.{Code}
use Rattle.wasm_jumps.specs.Exits.{Knows, AllKnow}

-- the tables that were made, and any that follow
abbrev pub Continues : List Code → ℕ → List (List ℕ) → Type 0
Continues cs k ts = (rest : List (List ℕ)) → AllKnow (drop k cs) rest → AllKnow cs (ts ++ rest)

next_is : {A : Type 0} (xs : List A) (k : ℕ) (x : A) → k < length xs → x ≡ get_or xs k x → drop k xs ≡ x ∷ drop (k + 1) xs
next_is {A} xs k x lt is = drop-cons xs k x lt ∙ rw (← is, add-one) refl

pub continued : (cs : List Code) (k : ℕ) (ts : List (List ℕ)) (c : Code) (t : List ℕ) → Continues cs k ts → k < length cs → c ≡ get_or cs k c → Knows c t → Continues cs (k + 1) (ts ++ t ∷ [])
continued cs k ts c t goes lt is knows = λ rest h.
    let C : List Code → Type 0 = λ ds. AllKnow ds (t ∷ rest) in
    let A : List (List ℕ) → Type 0 = λ us. AllKnow cs us in
    subst A (sym (append_assoc ts (t ∷ []) rest)) (goes (t ∷ rest) (subst C (sym (next_is cs k c lt is)) (knows, h)))

pub all_made : (cs : List Code) (k : ℕ) (ts : List (List ℕ)) → Continues cs k ts → length cs ≤ k → AllKnow cs ts
all_made cs k ts goes done =
    let C : List Code → Type 0 = λ ds. AllKnow ds [] in
    let A : List (List ℕ) → Type 0 = λ us. AllKnow cs us in
    subst A (append-nil ts) (goes [] (subst C (sym (drop_of_length-le cs done)) tt))
