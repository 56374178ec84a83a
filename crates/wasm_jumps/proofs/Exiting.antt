-- The table of exits knows the ends of blocks.
use Rattle.std.proofs.Common.{◌≡◌, ℕ, zero, suc, ◌+◌, ◌-◌, refl, sym, ap, ◌∙◌, Some, List, [], ◌∷◌, length, drop, slice_get, zero-add, arith}
use Rattle.wasm_types.specs.declared.instructions.Instr.{Instr}
use Rattle.wasm_types.specs.declared.instructions.Instr.TheVariants.{Block, Loop, If, Else, End}
use Rattle.wasm_types.specs.Nested.{Body, Done, Goes, InBlock, InLoop, InIf, InIfElse, flat_onto, role_of, Plain}
use Rattle.std.proofs.lemmas.List.{length-drop}
use Rattle.wasm_jumps.specs.Exits.{KnowsExits}
use Rattle.stacks.specs.Tops.{tail_of}
use Rattle.wasm_jumps.specs.Backwards.{first_of, waiting, waiting_by, exits_of}

-- a sequence is passed by so many places, and leaves what waits behind it
pub record Passed (code after : List Instr) : Type 0 where
  pub count : ℕ
  pub passes : drop count code ≡ after
  pub waits : (p : ℕ) → waiting code p ≡ waiting after (p + count)

nothing_passed : (after : List Instr) → Passed after after
nothing_passed after = record { count = 0; passes = refl; waits = λ p. ap (waiting after) (omega arith) }

abbrev none : List Instr
none = []

drop_nil : (n : ℕ) → drop n none ≡ none
drop_nil zero = refl
drop_nil (suc n) = refl

pub drop_after : (m k : ℕ) (xs ys zs : List Instr) → drop m xs ≡ ys → drop k ys ≡ zs → drop (m + k) xs ≡ zs
drop_after zero k xs ys zs h e = ap (λ n. drop n xs) (zero-add k) ∙ ap (drop k) h ∙ e
drop_after (suc m) k [] ys zs h e = drop_nil (suc m + k) ∙ sym (drop_nil k) ∙ ap (drop k) h ∙ e
drop_after (suc m) k (x ∷ xs) ys zs h e = let same : suc m + k ≡ suc (m + k) = omega arith in ap (λ n. drop n (x ∷ xs)) same ∙ drop_after m k xs ys zs h e

one_plain : (i : Instr) (code after : List Instr) → role_of i ≡ Plain → Passed code after → Passed (i ∷ code) after
one_plain i code after h w = record {
  count = suc w.count;
  passes = w.passes;
  waits = λ p. ap (λ r. waiting_by r p (waiting code (p + 1))) h ∙ w.waits (p + 1) ∙ ap (waiting after) (omega arith);
}

-- a beginning, a sequence, its end, and what follows
closed_block : (code inner rest after : List Instr) → Passed code (End ∷ rest) → Passed rest after
    → (i : Instr) (p_ok : (p : ℕ) → waiting (i ∷ code) p ≡ tail_of (waiting code (p + 1))) → Passed (i ∷ code) after
closed_block code inner rest after w v i ok = record {
  count = suc (w.count + suc v.count);
  passes = drop_after w.count (suc v.count) code (End ∷ rest) after w.passes v.passes;
  waits = λ p. ok p ∙ ap tail_of (w.waits (p + 1)) ∙ v.waits (p + 1 + w.count + 1) ∙ ap (waiting after) (omega arith);
}

pub passed : (body : Body) (after : List Instr) → Passed (flat_onto body after) after
passed Done after = nothing_passed after
passed (Goes i p rest) after = one_plain i (flat_onto rest after) after p (passed rest after)
passed (InBlock r inner rest) after = closed_block (flat_onto inner (End ∷ flat_onto rest after)) [] (flat_onto rest after) after (passed inner (End ∷ flat_onto rest after)) (passed rest after) (Block r) (λ p. refl)
passed (InLoop r inner rest) after = closed_block (flat_onto inner (End ∷ flat_onto rest after)) [] (flat_onto rest after) after (passed inner (End ∷ flat_onto rest after)) (passed rest after) (Loop r) (λ p. refl)
passed (InIf r inner rest) after = closed_block (flat_onto inner (End ∷ flat_onto rest after)) [] (flat_onto rest after) after (passed inner (End ∷ flat_onto rest after)) (passed rest after) (If r) (λ p. refl)
passed (InIfElse r first second rest) after =
    let behind : List Instr = flat_onto second (End ∷ flat_onto rest after) in
    let a : Passed (flat_onto first (Else ∷ behind)) (Else ∷ behind) = passed first (Else ∷ behind) in
    let b : Passed behind (End ∷ flat_onto rest after) = passed second (End ∷ flat_onto rest after) in
    let c : Passed (flat_onto rest after) after = passed rest after in
    record {
      count = suc (a.count + suc (b.count + suc c.count));
      passes = drop_after a.count (suc (b.count + suc c.count)) (flat_onto first (Else ∷ behind)) (Else ∷ behind) after a.passes
          (drop_after b.count (suc c.count) behind (End ∷ flat_onto rest after) after b.passes c.passes);
      waits = λ p. ap tail_of (a.waits (p + 1)) ∙ ap tail_of (b.waits (p + 1 + a.count + 1)) ∙ c.waits (p + 1 + a.count + 1 + b.count + 1) ∙ ap (waiting after) (omega arith);
    }

-- the table at a place
pub exit_at : (p : ℕ) (code : List Instr) (q : ℕ) (i : Instr) (rest : List Instr) → drop p code ≡ i ∷ rest → slice_get (exits_of code q) p ≡ Some (first_of (waiting rest (q + p + 1)))
exit_at zero [] q i rest h = cc
exit_at (suc p) [] q i rest h = cc
exit_at zero (j ∷ code) q i rest h = ap (λ xs. Some (first_of (waiting (tail_of xs) (q + 1)))) h ∙ ap (λ n. Some (first_of (waiting rest n))) (omega arith)
exit_at (suc p) (j ∷ code) q i rest h = exit_at p code (q + 1) i rest h ∙ ap (λ n. Some (first_of (waiting rest n))) (omega arith)

-- what begins at a place knows the place where it ends
pub known_exit : (code : List Instr) (p : ℕ) (i : Instr) (inner : Body) (e : Instr) (after : List Instr)
    → drop p code ≡ i ∷ flat_onto inner (e ∷ after) → ((q : ℕ) → first_of (waiting (e ∷ after) q) ≡ q)
    → (n : ℕ) × (slice_get (exits_of code 0) p ≡ Some n) × (drop n code ≡ e ∷ after)
known_exit code p i inner e after h closes =
    let w : Passed (flat_onto inner (e ∷ after)) (e ∷ after) = passed inner (e ∷ after) in
    let n : ℕ = p + suc w.count in
    let place : first_of (waiting (flat_onto inner (e ∷ after)) (0 + p + 1)) ≡ p + suc w.count = ap first_of (w.waits (0 + p + 1)) ∙ closes (0 + p + 1 + w.count) ∙ omega arith in
    (p + suc w.count, exit_at p code 0 i (flat_onto inner (e ∷ after)) h ∙ ap (λ m. Some m) place, drop_after p (suc w.count) code (i ∷ flat_onto inner (e ∷ after)) (e ∷ after) h w.passes)

-- the table of a function's code knows where its blocks end
pub knows_exits : (body : Body) (code : List Instr) → code ≡ flat_onto body (End ∷ []) → KnowsExits code (exits_of code 0)
knows_exits body code is =
    let w : Passed (flat_onto body (End ∷ [])) (End ∷ []) = passed body (End ∷ []) in
    let at : drop w.count code ≡ End ∷ [] = ap (drop w.count) is ∙ w.passes in
    let one : length code - w.count ≡ 1 = sym (length-drop w.count code) ∙ ap length at in
    let place : length code - 1 ≡ w.count = omega arith in
    record {
      last = ap (λ n. drop n code) place ∙ at;
      of_block = λ p r inner after h. known_exit code p (Block r) inner End after h (λ q. refl);
      of_if = λ p r inner after h. known_exit code p (If r) inner End after h (λ q. refl);
      of_else = λ p r first second after h.
          let e = known_exit code p (If r) first Else (flat_onto second (End ∷ after)) h (λ q. refl) in
          let f = known_exit code e.0 Else second End after e.2 (λ q. refl) in
          (e.0, f.0, e.1, e.2, f.1, f.2);
    }
