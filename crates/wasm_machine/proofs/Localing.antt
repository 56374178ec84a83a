-- Locals.
use Rattle.std.proofs.Common.{◌≡◌, ℕ, zero, suc, ◌+◌, ◌-◌, ◌<◌, ◌≤◌, inl, refl, sym, ap, ◌∙◌, Ok, Some, None, true, false, Bool, Option, List, [], ◌∷◌, ◌++◌, length, drop, slice_get, slice_set, nat_lt, arith}
use Rattle.std.proofs.lemmas.Bool.{lt-ltb, ltb-true}
use Rattle.wasm_types.specs.declared.values.Value.{Value}
use Rattle.wasm_types.specs.declared.instructions.Instr.{Instr}
use Rattle.wasm_types.specs.declared.instructions.Instr.TheVariants.{LocalGet, LocalSet, LocalTee}
use Rattle.wasm_types.specs.Nested.{Body, flat_onto}
use Rattle.wasm_flat.specs.declared.thread.Thread.{Thread}
use Rattle.stacks.specs.Tops.{head_of, tail_of}
use Rattle.wasm_meaning.specs.Steps.{◌>>=◌, found}
use Rattle.wasm_meaning.specs.Acts.{set_if}
use Rattle.wasm_meaning.specs.Frames.{Program, State}
use Rattle.wasm_meaning.specs.Meaning.{in_frame, tested, label_of, set_local, entered, on}
use Rattle.wasm_meaning.specs.Meaning as meaning
use Rattle.wasm_flat.specs.Flat.{beyond, with_operands, opened}
use Rattle.wasm_flat.specs.Flat as flat
use Rattle.wasm_machine.specs.Standing.{IsAt, piled}
use Rattle.wasm_machine.proofs.Passing.{with_top, with_locals, passed_at, topped_at, stored_at, top_is}
use Rattle.wasm_machine.proofs.Agreement.{Agrees}
use Rattle.wasm_machine.proofs.Leaving.{piled_cons}
use Rattle.std.proofs.lemmas.List.{length-append, set-append_right}

-- the locals of a frame are the last ones
get_last : {X : Type 0} (lower ls : List X) (x : ℕ) → slice_get (lower ++ ls) (length lower + x) ≡ slice_get ls x
get_last [] ls x = ap (slice_get ls) (omega arith)
get_last (y ∷ lower) ls x = let same : length (y ∷ lower) + x ≡ suc (length lower + x) = omega arith in ap (slice_get (y ∷ (lower ++ ls))) same ∙ get_last lower ls x

inside : {X : Type 0} (ls : List X) (x : ℕ) (v : X) → slice_get ls x ≡ Some v → x < length ls
inside [] x v h = cc
inside (y ∷ ls) zero v h = omega arith
inside (y ∷ ls) (suc x) v h = let k : x < length ls = inside ls x v h in omega arith

-- ---- reading one

got : (program : Program) (t : Thread) (s : State) (rest : Body) (x : ℕ) (a : IsAt program t s) → drop t.place t.code.now ≡ LocalGet x ∷ flat_onto rest a.frame.behind
    → (o : Option Value) → slice_get s.frame.locals x ≡ o
    → Agrees program (flat.local_get x (beyond t)) (in_frame s (found o >>= λ v. Ok (record s.frame { body = rest; operands = v ∷ s.frame.operands })))
got program t s rest x a at None e = inl refl
got program t s rest x a at (Some v) e =
    let within : x < length s.frame.locals = inside s.frame.locals x v e in
    let count : length t.locals ≡ length a.lower + length s.frame.locals = ap length a.frame.locals_are ∙ length-append a.lower s.frame.locals in
    let is_in : nat_lt x (length t.locals - t.base) ≡ true = lt-ltb x (length t.locals - t.base) (omega (arith, a.frame.base)) in
    let same : slice_get t.locals (t.base + x) ≡ Some v =
    ap (λ vs. slice_get vs (t.base + x)) a.frame.locals_are ∙ ap (λ n. slice_get (a.lower ++ s.frame.locals) (n + x)) a.frame.base ∙ get_last a.lower s.frame.locals x ∙ e in
    let top : v ∷ t.desk.operands ≡ piled (v ∷ s.frame.operands) s.frame.labels a.below = ap (λ vs. v ∷ vs) a.frame.operands_are ∙ sym (piled_cons v s.frame.operands s.frame.labels a.below) in
    rw (is_in, same) (with_operands (beyond t) (v ∷ t.desk.operands), refl, passed_at program (with_operands t (v ∷ t.desk.operands)) (with_top s (v ∷ s.frame.operands)) (LocalGet x) rest (topped_at program t s a (v ∷ s.frame.operands) (v ∷ t.desk.operands) top) at)

pub local_get_agrees : (program : Program) (t : Thread) (s : State) (rest : Body) (x : ℕ) (a : IsAt program t s) → drop t.place t.code.now ≡ LocalGet x ∷ flat_onto rest a.frame.behind
    → Agrees program (flat.step (LocalGet x) t.place (beyond t)) (meaning.plain (LocalGet x) (record s.frame { body = rest }) s)
local_get_agrees program t s rest x a at = got program t s rest x a at (slice_get s.frame.locals x) refl

-- ---- writing one

put_at : (program : Program) (t : Thread) (s : State) (rest : Body) (i : Instr) (x : ℕ) (v : Value) (a : IsAt program t s) → drop t.place t.code.now ≡ i ∷ flat_onto rest a.frame.behind
    → (b : Bool) → nat_lt x (length s.frame.locals) ≡ b
    → Agrees program (flat.put_local x v (beyond t)) (in_frame s (set_if b x v s.frame.locals >>= λ ls. Ok (record s.frame { body = rest; locals = ls })))
put_at program t s rest i x v a at false e = inl refl
put_at program t s rest i x v a at true e =
    let within : x < length s.frame.locals = ltb-true x (length s.frame.locals) e in
    let count : length t.locals ≡ length a.lower + length s.frame.locals = ap length a.frame.locals_are ∙ length-append a.lower s.frame.locals in
    let is_in : nat_lt x (length t.locals - t.base) ≡ true = lt-ltb x (length t.locals - t.base) (omega (arith, a.frame.base)) in
    let is_there : nat_lt (t.base + x) (length t.locals) ≡ true = lt-ltb (t.base + x) (length t.locals) (omega (arith, a.frame.base)) in
    let from_base : length a.lower ≤ t.base + x = omega (arith, a.frame.base) in
    let index : t.base + x - length a.lower ≡ x = omega (arith, a.frame.base) in
    let same : slice_set t.locals (t.base + x) v ≡ a.lower ++ slice_set s.frame.locals x v =
    ap (λ vs. slice_set vs (t.base + x) v) a.frame.locals_are ∙ set-append_right a.lower s.frame.locals (length a.lower) (t.base + x) v refl from_base ∙ ap (λ n. a.lower ++ slice_set s.frame.locals n v) index in
    rw (is_in, is_there) (
      record (beyond t) { locals = slice_set t.locals (t.base + x) v },
      refl,
      passed_at program (record t { locals = slice_set t.locals (t.base + x) v }) (with_locals s (slice_set s.frame.locals x v)) i rest
          (stored_at program t s a (slice_set s.frame.locals x v) (slice_set t.locals (t.base + x) v) same) at,
    )

tee : (program : Program) (t : Thread) (s : State) (rest : Body) (x : ℕ) (a : IsAt program t s) → drop t.place t.code.now ≡ LocalTee x ∷ flat_onto rest a.frame.behind
    → (vs : List Value) → s.frame.operands ≡ vs
    → Agrees program (flat.local_tee x (beyond t)) (in_frame s (set_local x vs vs (record s.frame { body = rest })))
tee program t s rest x a at [] e = inl refl
tee program t s rest x a at (v ∷ vs) e =
    let top : found (head_of t.desk.operands) ≡ Ok v = ap (λ ws. found (head_of ws)) (top_is program t s a v vs e) in
    let all : t.desk.operands ≡ piled (v ∷ vs) s.frame.labels a.below = a.frame.operands_are ∙ ap (λ ws. piled ws s.frame.labels a.below) e in
    rw top (put_at program t (with_top s (v ∷ vs)) rest (LocalTee x) x v (topped_at program t s a (v ∷ vs) t.desk.operands all) at (nat_lt x (length s.frame.locals)) refl)

pub local_tee_agrees : (program : Program) (t : Thread) (s : State) (rest : Body) (x : ℕ) (a : IsAt program t s) → drop t.place t.code.now ≡ LocalTee x ∷ flat_onto rest a.frame.behind
    → Agrees program (flat.step (LocalTee x) t.place (beyond t)) (meaning.plain (LocalTee x) (record s.frame { body = rest }) s)
local_tee_agrees program t s rest x a at = tee program t s rest x a at s.frame.operands refl

set_one : (program : Program) (t : Thread) (s : State) (rest : Body) (x : ℕ) (a : IsAt program t s) → drop t.place t.code.now ≡ LocalSet x ∷ flat_onto rest a.frame.behind
    → (vs : List Value) → s.frame.operands ≡ vs
    → Agrees program (flat.local_set x (beyond t)) (in_frame s (set_local x vs (tail_of vs) (record s.frame { body = rest })))
set_one program t s rest x a at [] e = inl refl
set_one program t s rest x a at (v ∷ vs) e =
    rw (top_is program t s a v vs e) (put_at program (with_operands t (piled vs s.frame.labels a.below)) (with_top s vs) rest (LocalSet x) x v (topped_at program t s a vs (piled vs s.frame.labels a.below) refl) at (nat_lt x (length s.frame.locals)) refl)

pub local_set_agrees : (program : Program) (t : Thread) (s : State) (rest : Body) (x : ℕ) (a : IsAt program t s) → drop t.place t.code.now ≡ LocalSet x ∷ flat_onto rest a.frame.behind
    → Agrees program (flat.step (LocalSet x) t.place (beyond t)) (meaning.plain (LocalSet x) (record s.frame { body = rest }) s)
local_set_agrees program t s rest x a at = set_one program t s rest x a at s.frame.operands refl
