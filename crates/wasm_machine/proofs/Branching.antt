-- Branches go where the meaning says.
use Rattle.std.proofs.Common.{◌≡◌, ℕ, ◌+◌, ◌-◌, ◌≤◌, inl, refl, sym, ap, subst, ◌∙◌, Ok, Err, Some, None, true, false, Bool, Option, List, [], ◌∷◌, ◌++◌, length, drop, nat_lt, ◌==◌, if◌then◌else◌, arith, append_assoc}
use Rattle.std.proofs.lemmas.Bool.{lt-ltb, le-ltb, ltb-false, eq-eqb}
use Rattle.std.proofs.lemmas.List.{length-drop}
use Rattle.wasm_types.specs.declared.types.ValueType.{ValueType}
use Rattle.wasm_types.specs.declared.values.Value.{Value}
use Rattle.wasm_types.specs.declared.instructions.Instr.{Instr}
use Rattle.wasm_types.specs.declared.instructions.Instr.TheVariants.{End}
use Rattle.wasm_types.specs.Nested.{Body, Done}
use Rattle.wasm_flat.specs.declared.thread.Mark.{Mark}
use Rattle.wasm_flat.specs.declared.thread.Thread.{Thread}
use Rattle.wasm_meaning.specs.declared.off.Off.TheVariants.{Stuck}
use Rattle.wasm_meaning.specs.Frames.{Program, Label, State}
use Rattle.wasm_meaning.specs.Meaning.{in_frame, kept, to_label, to_first, returned, tested, label_of}
use Rattle.wasm_meaning.specs.Meaning as meaning
use Rattle.wasm_flat.specs.Flat.{beyond, with_operands, cut, cut_to, own, give_back, to_mark}
use Rattle.wasm_flat.specs.Flat as flat
use Rattle.wasm_machine.specs.Standing.{IsAt, AreOpen, LeadsTo, piled}
use Rattle.wasm_machine.proofs.Places.{follows}
use Rattle.wasm_machine.proofs.Leaving.{outer_short, Marked, mark_of, cut_piled}
use Rattle.wasm_machine.proofs.Endings.{to_block_agrees, to_loop_agrees}
use Rattle.wasm_machine.proofs.Passing.{top_is}
use Rattle.wasm_machine.proofs.Agreement.{Agrees}

-- ---- out of the function

-- the marks of the function's own blocks are gone
outer_left : (code : List Instr) (below : List Value) (outer : List Mark) (ls : List Label) (ms : List Mark) (after : List Instr)
    → AreOpen code below outer ls ms after → drop (length ls) ms ≡ outer
outer_left code below outer [] ms after o = o.0
outer_left code below outer (l ∷ ls) ms after (m, rest, next, is, closes, height, leads, o) = rw is (outer_left code below outer ls rest next o)

pub own_count : (program : Program) (t : Thread) (s : State) (a : IsAt program t s) → own t ≡ length s.frame.labels
own_count program t s a = omega (arith, a.frame.floor, outer_short t.code.now a.below a.outer s.frame.labels t.marks a.frame.behind a.frame.open_blocks)

gone_at : (program : Program) (t : Thread) (s : State) (a : IsAt program t s) (xs : List Value)
    → IsAt program (record (with_operands (beyond t) (xs ++ a.below)) { place = length t.code.now - 1; marks = drop (own t) t.marks }) (record s { frame = record s.frame { labels = []; operands = xs; body = Done } })
gone_at program t s a xs = record {
  functions = a.functions;
  types = a.types;
  table = a.table;
  below = a.below;
  outer = a.outer;
  lower = a.lower;
  code = record { callee = a.code.callee; found = a.code.found; code_is = a.code.code_is; exits = a.code.exits };
  code_exits = a.code_exits;
  world = a.world;
  frame = record {
    behind = End ∷ [];
    open_blocks = (ap (λ n. drop n t.marks) (own_count program t s a) ∙ outer_left t.code.now a.below a.outer s.frame.labels t.marks a.frame.behind a.frame.open_blocks, refl);
    at = a.code_exits.last;
    operands_are = refl;
    locals_are = a.frame.locals_are;
    floor = a.frame.floor;
    base = a.frame.base;
    height = a.frame.height;
    keeps = a.frame.keeps;
  };
  callers = a.callers;
}

left_from : (program : Program) (t : Thread) (s : State) (rest : Body) (a : IsAt program t s) (xs : List Value)
    → cut t.keeps t.height t.desk.operands ≡ Ok (xs ++ a.below) → kept s.frame.keeps s.frame.operands ≡ Ok xs
    → Agrees program (give_back (beyond t)) (in_frame s (returned (record s.frame { body = rest })))
left_from program t s rest a xs c k = rw (c, k) (record (with_operands (beyond t) (xs ++ a.below)) { place = length t.code.now - 1; marks = drop (own t) t.marks }, refl, gone_at program t s a xs)

-- what is below a frame is the end of its pile
piled_end : (vs : List Value) (ls : List Label) (below : List Value) → (front : List Value) × (piled vs ls below ≡ front ++ below)
piled_end vs [] below = (vs, refl)
piled_end vs (l ∷ ls) below = let w = piled_end l.below ls below in (vs ++ w.0, ap (λ x. vs ++ x) w.1 ∙ sym (append_assoc vs w.0 below))

cut_frame : (program : Program) (t : Thread) (s : State) (a : IsAt program t s) (vs : List Value) → cut_to t.height (piled vs s.frame.labels a.below) ≡ a.below
cut_frame program t s a vs = let w = piled_end vs s.frame.labels a.below in ap (cut_to t.height) w.1 ∙ cut_piled w.0 a.below t.height a.frame.height

returning : (program : Program) (t : Thread) (s : State) (rest : Body) (a : IsAt program t s) (k : Bool) → s.frame.keeps ≡ k → (vs : List Value) → s.frame.operands ≡ vs
    → Agrees program (give_back (beyond t)) (in_frame s (returned (record s.frame { body = rest })))
returning program t s rest a false e vs ev =
    let keeps : t.keeps ≡ false = a.frame.keeps ∙ e in
    let c : cut t.keeps t.height t.desk.operands ≡ Ok ([] ++ a.below) = rw keeps (ap Ok (ap (cut_to t.height) a.frame.operands_are ∙ cut_frame program t s a s.frame.operands)) in
    let k : kept s.frame.keeps s.frame.operands ≡ Ok [] = rw e refl in
    left_from program t s rest a [] c k
returning program t s rest a true e [] ev = let k : kept s.frame.keeps s.frame.operands ≡ Err Stuck = rw (e, ev) refl in rw k (inl refl)
returning program t s rest a true e (v ∷ vs) ev =
    let keeps : t.keeps ≡ true = a.frame.keeps ∙ e in
    let all : t.desk.operands ≡ v ∷ piled vs s.frame.labels a.below = top_is program t s a v vs ev in
    let c : cut t.keeps t.height t.desk.operands ≡ Ok ((v ∷ []) ++ a.below) = rw (keeps, all) (ap (λ x. Ok (v ∷ x)) (cut_frame program t s a vs)) in
    let k : kept s.frame.keeps s.frame.operands ≡ Ok (v ∷ []) = rw (e, ev) refl in
    left_from program t s rest a (v ∷ []) c k

pub return_out_agrees : (program : Program) (t : Thread) (s : State) (rest : Body) (a : IsAt program t s)
    → Agrees program (give_back (beyond t)) (in_frame s (returned (record s.frame { body = rest })))
return_out_agrees program t s rest a = returning program t s rest a s.frame.keeps refl s.frame.operands refl

-- ---- to a label

to_named : (program : Program) (t : Thread) (s : State) (rest : Body) (a : IsAt program t s) (n : ℕ) (l : Label) (ls : List Label)
    (w : Marked n t.code.now a.below a.outer t.marks (l ∷ ls)) → drop n s.frame.labels ≡ l ∷ ls → drop (n + 1) t.marks ≡ w.1
    → (g : Option (Option ValueType × Body)) → l.again ≡ g
    → Agrees program (to_mark n w.0 (beyond t)) (in_frame s (to_label g l ls (record s.frame { body = rest })))
to_named program t s rest a n l ls w h gone None e =
    let Q : Option (Option ValueType × Body) → Type 0 = λ x. LeadsTo x t.code.now l w.3 w.0 in
    to_block_agrees program t s rest a n l ls w e (subst Q e w.8) h
to_named program t s rest a n l ls w h gone (Some loop) e =
    let Q : Option (Option ValueType × Body) → Type 0 = λ x. LeadsTo x t.code.now l w.3 w.0 in
    to_loop_agrees program t s rest a n l ls loop.0 loop.1 w (subst Q e w.8) h gone

to_first_agrees : (program : Program) (t : Thread) (s : State) (rest : Body) (a : IsAt program t s) (n : ℕ) (ls : List Label) → drop n s.frame.labels ≡ ls → n ≤ length s.frame.labels
    → Agrees program (flat.branch n (beyond t)) (in_frame s (to_first ls (record s.frame { body = rest })))
to_first_agrees program t s rest a n [] h within =
    let count : own (beyond t) ≡ length s.frame.labels = own_count program t s a in
    let none : length s.frame.labels - n ≡ 0 = sym (length-drop n s.frame.labels) ∙ ap length h in
    let not_in : nat_lt n (own (beyond t)) ≡ false = le-ltb n (own (beyond t)) (omega arith) in
    let equal : (n == own (beyond t)) ≡ true = eq-eqb n (own (beyond t)) (omega arith) in
    rw (not_in, equal) (return_out_agrees program t s rest a)
to_first_agrees program t s rest a n (l ∷ ls) h within =
    let count : own (beyond t) ≡ length s.frame.labels = own_count program t s a in
    let some : length s.frame.labels - n ≡ length ls + 1 = sym (length-drop n s.frame.labels) ∙ ap length h ∙ omega arith in
    let is_in : nat_lt n (own (beyond t)) ≡ true = lt-ltb n (own (beyond t)) (omega arith) in
    let w : Marked n t.code.now a.below a.outer t.marks (l ∷ ls) = mark_of n t.code.now a.below a.outer s.frame.labels t.marks a.frame.behind l ls h a.frame.open_blocks in
    rw (is_in, w.4) (to_named program t s rest a n l ls w h (follows n t.marks w.0 w.1 w.5) l.again refl)

branch_at : (program : Program) (t : Thread) (s : State) (rest : Body) (a : IsAt program t s) (n : ℕ) (b : Bool) → nat_lt (length s.frame.labels) n ≡ b
    → Agrees program (flat.branch n (beyond t)) (in_frame s (if b then Err Stuck else to_first (drop n s.frame.labels) (record s.frame { body = rest })))
branch_at program t s rest a n true e = inl refl
branch_at program t s rest a n false e = to_first_agrees program t s rest a n (drop n s.frame.labels) refl (ltb-false (length s.frame.labels) n e)

pub branch_agrees : (program : Program) (t : Thread) (s : State) (rest : Body) (a : IsAt program t s) (n : ℕ)
    → Agrees program (flat.branch n (beyond t)) (in_frame s (meaning.branch n (record s.frame { body = rest })))
branch_agrees program t s rest a n = branch_at program t s rest a n (nat_lt (length s.frame.labels) n) refl
