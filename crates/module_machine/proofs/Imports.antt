-- Whether all imports are functions, one after another.
use Rattle.std.proofs.Common.{◌≡◌, ℕ, ◌+◌, ◌<◌, ◌≤◌, get_or, add-one, List, ◌∷◌, length, drop, refl, sym, subst, ◌∙◌}
use Rattle.std.proofs.Math.Seq.{drop-cons}
use Rattle.std.proofs.Math.ListN.{drop_of_length-le}
use Rattle.wasm_types.specs.declared.modules.Import.{Import}
use Rattle.wasm_meaning.specs.Instance.{IsFunctionImport, AllFunctions}

-- it depends on those that weren't seen yet
abbrev pub Depends : List Import → ℕ → Type 0
Depends is k = (AllFunctions (drop k is) → AllFunctions is) × (AllFunctions is → AllFunctions (drop k is))

next_is : {A : Type 0} (xs : List A) (k : ℕ) (x : A) → k < length xs → x ≡ get_or xs k x → drop k xs ≡ x ∷ drop (k + 1) xs
next_is {A} xs k x lt is = drop-cons xs k x lt ∙ rw (← is, add-one) refl

pub one_more : (is : List Import) (k : ℕ) (i : Import) → Depends is k → k < length is → i ≡ get_or is k i → IsFunctionImport i.kind → Depends is (k + 1)
one_more is k i (forth, back) low at one =
    let A : List Import → Type 0 = λ js. AllFunctions js in (
      λ rest. forth (subst A (sym (next_is is k i low at)) (one, rest)),
      λ all. (subst A (next_is is k i low at) (back all)).1,
    )

pub another : (is : List Import) (k : ℕ) (i : Import) → Depends is k → k < length is → i ≡ get_or is k i → AllFunctions is → IsFunctionImport i.kind
another is k i (forth, back) low at all = let A : List Import → Type 0 = λ js. AllFunctions js in (subst A (next_is is k i low at) (back all)).0

pub none_left : (is : List Import) (k : ℕ) → Depends is k → length is ≤ k → AllFunctions is
none_left is k (forth, back) done = let A : List Import → Type 0 = λ js. AllFunctions js in forth (subst A (sym (drop_of_length-le is done)) tt)
