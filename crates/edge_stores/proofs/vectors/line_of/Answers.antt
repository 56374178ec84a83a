use Rattle.std.proofs.Common.{◌≡◌, ◌∙◌, ℕ, ◌+◌, ◌-◌, List, ◌∷◌, ◌++◌, refl, sym, ap, rules, arith}
use Rattle.std.specs.Prelude.{Err}
use Rattle.wasm_memory.specs.Linear.{Linear}
use Rattle.edge_abi.specs.declared.status.Refusal.{Refusal}
use Rattle.edge_stores.specs.Vectors.{Vector, vectors, are_inside, joined}
use Rattle.edge_stores.proofs.Lines.{vector_at, vectors_step, step_inside, step_bytes, refused_line}
use Rattle.edge_stores.proofs.vectors.line_of.Goals as goal

pub vectors-preserved : goal.vectors-preserved
vectors-preserved c =
    let m : Linear = c.args.memory.now in
    let line : List ℕ = c.vectors.line.items in
    let v : Vector = record { place = c.word_at.result; length = c.word_at-in-vectors.result } in
    let rest : List Vector = vectors m (c.vectors.place + 8) (c.vectors.left - 1) in
    let whole : List Vector = vectors m c.args.p c.args.count in
    let here : vector_at m c.vectors.place ≡ v = rw (c.word_at.ensures, c.word_at-in-vectors.ensures) refl in
    let same : vectors m c.vectors.place c.vectors.left ≡ v ∷ rest = vectors_step m c.vectors.place c.vectors.left c.vectors-test.true ∙ ap (λ (w : Vector). w ∷ rest) here in
    let inside : are_inside m (v ∷ rest) ≡ are_inside m whole = ap (are_inside m) (sym same) ∙ c.vectors.invariant.inside in
    let bytes : line ++ joined m (v ∷ rest) ≡ joined m whole = ap (λ (given : List Vector). line ++ joined m given) (sym same) ∙ c.vectors.invariant.bytes in
    record {
      at = omega (arith, c.vectors.invariant.at, c.vectors-test.true);
      inside = step_inside m v rest whole c.in_ok-with_vector.ensures.0 inside;
      bytes = step_bytes m line c.with_vector.new.line.items v rest whole c.in_ok-with_vector.ensures.1 bytes;
      short = c.in_ok-with_vector.ensures.2;
    }

pub returns-in_err-with_vector : goal.returns-in_err-with_vector
returns-in_err-with_vector c =
    let m : Linear = c.args.memory.now in
    let line : List ℕ = c.vectors.line.items in
    let v : Vector = record { place = c.word_at.result; length = c.word_at-in-vectors.result } in
    let rest : List Vector = vectors m (c.vectors.place + 8) (c.vectors.left - 1) in
    let whole : List Vector = vectors m c.args.p c.args.count in
    let here : vector_at m c.vectors.place ≡ v = rw (c.word_at.ensures, c.word_at-in-vectors.ensures) refl in
    let same : vectors m c.vectors.place c.vectors.left ≡ v ∷ rest = vectors_step m c.vectors.place c.vectors.left c.vectors-test.true ∙ ap (λ (w : Vector). w ∷ rest) here in
    let inside : are_inside m (v ∷ rest) ≡ are_inside m whole = ap (are_inside m) (sym same) ∙ c.vectors.invariant.inside in
    let bytes : line ++ joined m (v ∷ rest) ≡ joined m whole = ap (λ (given : List Vector). line ++ joined m given) (sym same) ∙ c.vectors.invariant.bytes in
    let refusal : Refusal = c.in_err-with_vector.field-0.0 in
    let given : c.from_residual.result ≡ Err refusal = search rules in
    rw given (refused_line m line c.with_vector.new.line.items v rest whole refusal inside bytes c.in_err-with_vector.ensures)
