-- What follows for a call that reads an expression from its being read exactly.
use Rattle.std.proofs.Common.{◌≡◌, ℕ, ◌+◌, ◌-◌, ◌≤◌, List, length, drop, Result, Ok, Err, refl, ap, subst, arith, inl, inr, length-take, length-drop}
use Rattle.std.specs.Prelude.{IfOk, IfErr, slice_range, ◌⊎◌}
use Rattle.std.specs.Global.{Vec}
use Rattle.wasm_types.specs.declared.instructions.Instr.{Instr}
use Rattle.wasm_code.specs.declared.fault.ReadKind.TheVariants.{SectionSize}
use Rattle.wasm_code.specs.declared.fault.ReadFault.{ReadFault}
use Rattle.wasm_code.specs.declared.scope.Scope.{Scope}
use Rattle.wasm_code.specs.Grammar.{IsInstr, IsExpression}
use Rattle.wasm_code.specs.Reading.{◌>>=◌, Answers, no_memory}
use Rattle.wasm_code.specs.Instructions.{expression_at, code_at}
use Rattle.wasm_code.specs.FirstFault.{IsFirst}
use Rattle.wasm_code.proofs.FirstSequences.{bind_err}
use Rattle.wasm_code.proofs.FirstExpressions.{expression_tells}
use Rattle.wasm_code.proofs.Steps.{bind_ok}
use Rattle.wasm_code.proofs.ExactExpressions.{expression_exact, many_take, instr_takes}

abbrev scope_of : ℕ → Scope
scope_of until = record { end = until; short = SectionSize }

abbrev done : {A : Type 0} → A → Result A ReadFault
done x = Ok x

abbrev made : List Instr → ℕ → List Instr × ℕ
made code n = (code, n)

pair_parts : (x y : List Instr) (m n : ℕ) → done (made x m) ≡ done (made y n) → (x ≡ y) × (m ≡ n)
pair_parts x y m n e =
    let same : made x m ≡ made y n = cc in
    (ap (λ (p : List Instr × ℕ). p.0) same, ap (λ (p : List Instr × ℕ). p.1) same)

only_from : (r : Result (Vec Instr × ℕ) ReadFault) (code : List Instr) (n : ℕ) → Answers (λ x. made x.0.items x.1) r (done (made code n)) → Answers (λ x. x.0.items) r (done code)
only_from (Ok x) code n e = ap (λ (c : List Instr). done c) (pair_parts code x.0.items n x.1 e).0
only_from (Err f) code n (inl none) = inl none
only_from (Err f) code n (inr e) = absurd cc

pub found_code : (bytes : List ℕ) (place until : ℕ) (r : Result (Vec Instr × ℕ) ReadFault) → place ≤ until → until ≤ length bytes → Answers (λ x. made x.0.items x.1) r (code_at place until bytes)
    → IfOk r (λ x. (rest : List ℕ) × IsExpression (slice_range bytes place until) x.0.items rest × (x.1 + length rest ≡ until))
unfolding code_at
found_code bytes place until (Err f) low high e = tt
found_code bytes place until (Ok x) low high e =
    let part = slice_range bytes place until in
    let a = bind_ok (expression_at (scope_of until) part) (λ x. Ok (made x.0 (until - length x.1))) (made x.0.items x.1) e in
    let is = (expression_exact (scope_of until)).sound part a.0.1 a.0.0 a.1 in
    let same = pair_parts a.0.0 x.0.items (until - length a.0.1) x.1 a.2 in
    let takes = many_take IsInstr instr_takes part a.0.1 a.0.0 is.0 in
    let short : length a.0.1 ≤ until = omega (arith, takes, length-take (until - place) (drop place bytes), length-drop place bytes) in
    (a.0.1, subst (λ (c : List Instr). IsExpression part c a.0.1) same.0 is, omega (arith, same.1))

pub only_code : (bytes : List ℕ) (place until : ℕ) (r : Result (Vec Instr × ℕ) ReadFault) → Answers (λ x. made x.0.items x.1) r (code_at place until bytes)
    → (code : List Instr) (rest : List ℕ) → IsExpression (slice_range bytes place until) code rest → Answers (λ x. x.0.items) r (Ok code)
unfolding code_at
only_code bytes place until r e code rest h =
    let part = slice_range bytes place until in
    let read = (expression_exact (scope_of until)).complete part rest code h in
    let whole : code_at place until bytes ≡ done (made code (until - length rest)) = rw read refl in
    only_from r code (until - length rest) (subst (λ q. Answers (λ x. made x.0.items x.1) r q) whole e)

made_not_err : {P : Type 0} (x : List Instr × ℕ) (f : ReadFault) → done x ≡ Err f → P
made_not_err x f e = absurd cc

pub first_code : (bytes : List ℕ) (place until : ℕ) (r : Result (Vec Instr × ℕ) ReadFault) → Answers (λ x. made x.0.items x.1) r (code_at place until bytes)
    → IfErr r (λ f. (f ≡ no_memory) ⊎ IsFirst expression_at (scope_of until) (slice_range bytes place until) f)
unfolding code_at
first_code bytes place until (Ok x) e = tt
first_code bytes place until (Err f) (inl none) = inl none
first_code bytes place until (Err f) (inr e) =
    let part = slice_range bytes place until in
    elim (bind_err (expression_at (scope_of until) part) (λ x. Ok (made x.0 (until - length x.1))) f e) [
      | inl told ↦ inr (expression_tells (scope_of until) part f told)
      | inr a ↦ made_not_err (made a.0.0 (until - length a.0.1)) f a.2
    ]
