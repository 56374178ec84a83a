-- A list of instructions is checked one after the other.
use Rattle.std.proofs.Common.{◌≡◌, ℕ, ◌+◌, ◌<◌, Option, Some, None, Ok, List, [], ◌∷◌, length, drop, get_or, refl, ◌∙◌, add-one}
use Rattle.std.proofs.Math.Seq.{drop-cons}
use Rattle.wasm_types.specs.declared.instructions.Instr.{Instr}
use Rattle.wasm_validate.specs.declared.checker.Checker.{Checker}
use Rattle.wasm_validate.specs.Rules.{Context}
use Rattle.wasm_validate.specs.Scanning.{step, scan}

-- what is left of a list, and its next item
pub next_is : {A : Type 0} (xs : List A) (k : ℕ) (x : A) → k < length xs → x ≡ get_or xs k x → drop k xs ≡ x ∷ drop (k + 1) xs
next_is {A} xs k x lt is = drop-cons xs k x lt ∙ rw (← is, add-one) refl

pub one_more : (code : List Instr) (k : ℕ) (i : Instr) (c : Context) (s : Checker) (next : Option Checker) → k < length code → i ≡ get_or code k i → step i c s ≡ Ok next → scan (drop k code) c (Some s) ≡ scan (drop (k + 1) code) c next
one_more code k i c s next lt is taken = rw (next_is code k i lt is, taken) refl

pub no_more : (code : List Instr) (c : Context) → scan code c None ≡ Ok tt
no_more [] c = refl
no_more (i ∷ code) c = refl
