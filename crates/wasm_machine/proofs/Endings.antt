-- Blocks end, and branches leave them, as the meaning says.
use Rattle.std.proofs.Common.{◌≡◌, ℕ, ◌+◌, ◌<◌, inl, refl, sym, ap, subst, ◌∙◌, Ok, Err, Some, None, true, false, Bool, Option, List, [], ◌∷◌, ◌++◌, length, drop, nat_lt, arith}
use Rattle.std.proofs.Math.Nat.{add-zero}
use Rattle.std.proofs.lemmas.Bool.{lt-ltb}
use Rattle.wasm_types.specs.declared.types.ValueType.{ValueType}
use Rattle.wasm_types.specs.declared.values.Value.{Value}
use Rattle.wasm_types.specs.declared.instructions.Instr.{Instr}
use Rattle.wasm_types.specs.declared.instructions.Instr.TheVariants.{End}
use Rattle.wasm_types.specs.Nested.{Body, Done, flat_onto}
use Rattle.wasm_flat.specs.declared.thread.Mark.{Mark}
use Rattle.wasm_flat.specs.declared.thread.Thread.{Thread}
use Rattle.wasm_meaning.specs.World.{World}
use Rattle.wasm_meaning.specs.declared.off.Off.TheVariants.{Stuck}
use Rattle.stacks.specs.Tops.{tail_of}
use Rattle.wasm_flat.specs.Flat.{bit}
use Rattle.wasm_meaning.specs.Frames.{Program, Frame, Label, State}
use Rattle.wasm_meaning.specs.Meaning.{kept, to_label, in_frame}
use Rattle.wasm_flat.specs.Flat.{beyond, end, cut, cut_to, to_mark, with_operands}
use Rattle.wasm_machine.specs.Standing.{IsAt, AreOpen, LeadsTo, Closes, piled}
use Rattle.wasm_machine.proofs.Places.{follows}
use Rattle.wasm_machine.proofs.Leaving.{outer_short, piled_append, piled_cons, piled_drop, cut_piled, Marked}
use Rattle.wasm_machine.proofs.Agreement.{Agrees, Returns}

abbrev pub at_end : Frame → Label → List Label → List Frame → World → State
at_end f l ls callers world = record { frame = record f { labels = l ∷ ls; body = Done }; callers = callers; world = world }

abbrev pub after_end : Frame → Label → List Label → List Frame → World → State
after_end f l ls callers world = record { frame = record f { labels = ls; operands = f.operands ++ l.below; body = l.rest }; callers = callers; world = world }

pub end_agrees : (program : Program) (t : Thread) (f : Frame) (l : Label) (ls : List Label) (callers : List Frame) (world : World)
    (a : IsAt program t (at_end f l ls callers world)) (m : Mark) (ms : List Mark) (after : List Instr)
    → t.marks ≡ m ∷ ms → a.frame.behind ≡ End ∷ flat_onto l.rest after → AreOpen t.code.now a.below a.outer ls ms after
    → Returns program (end (t.place + 1) t) (after_end f l ls callers world)
end_agrees program t f l ls callers world a m ms after is e o =
    let marks : length t.marks ≡ length ms + 1 = ap length is ∙ omega arith in
    let inside : t.floor < length t.marks = omega (arith, a.frame.floor, outer_short t.code.now a.below a.outer ls ms after o) in
    let test : nat_lt t.floor (length t.marks) ≡ true = lt-ltb t.floor (length t.marks) inside in (
      record (beyond t) { marks = tail_of t.marks },
      rw test refl,
      record {
        functions = a.functions;
        below = a.below;
        outer = a.outer;
        lower = a.lower;
        code = record { callee = a.code.callee; found = a.code.found; code_is = a.code.code_is; exits = a.code.exits };
        code_exits = a.code_exits;
        types = a.types;
        table = a.table;
        world = a.world;
        frame = record {
          behind = after;
          open_blocks = rw is o;
          at = follows t.place t.code.now End (flat_onto l.rest after) (a.frame.at ∙ e);
          operands_are = a.frame.operands_are ∙ piled_append f.operands l.below ls a.below;
          locals_are = a.frame.locals_are;
          floor = a.frame.floor;
          base = a.frame.base;
          height = a.frame.height;
          keeps = a.frame.keeps;
        };
        callers = a.callers;
      },
    )

-- ---- a branch to the end of a block

abbrev pub pile : Label → List Label → List Value → List Value
pile l ls below = piled l.below ls below

abbrev pub at_label : State → Label → List Label → List Value → State
at_label s l ls xs = record s { frame = record s.frame { labels = l ∷ ls; operands = xs; body = Done } }

at_block : (program : Program) (t : Thread) (s : State) (a : IsAt program t s) (n : ℕ) (l : Label) (ls : List Label)
    (w : Marked n t.code.now a.below a.outer t.marks (l ∷ ls)) → l.again ≡ None → LeadsTo None t.code.now l w.3 w.0 → (xs : List Value)
    → IsAt program (record (with_operands (beyond t) (xs ++ pile l ls a.below)) { place = w.0.target; marks = drop (n + bit w.0.looping) t.marks }) (at_label s l ls xs)
at_block program t s a n l ls w g q xs =
    let closes : Closes l.again (End ∷ flat_onto l.rest w.3) l.rest w.3 = let Q : Option (Option ValueType × Body) → Type 0 = λ x. Closes x (End ∷ flat_onto l.rest w.3) l.rest w.3 in subst Q (sym g) (inl refl) in
    let marks : drop (n + bit w.0.looping) t.marks ≡ w.0 ∷ w.1 = ap (λ b. drop (n + bit b) t.marks) q.0 ∙ ap (λ k. drop k t.marks) (add-zero n) ∙ w.5 in
    record {
      functions = a.functions;
      below = a.below;
      outer = a.outer;
      lower = a.lower;
      code = record { callee = a.code.callee; found = a.code.found; code_is = a.code.code_is; exits = a.code.exits };
      code_exits = a.code_exits;
      types = a.types;
      table = a.table;
      world = a.world;
      frame = record {
        behind = End ∷ flat_onto l.rest w.3;
        open_blocks = (w.0, w.1, w.3, marks, closes, w.7, w.8, w.9);
        at = q.2;
        operands_are = refl;
        locals_are = a.frame.locals_are;
        floor = a.frame.floor;
        base = a.frame.base;
        height = a.frame.height;
        keeps = a.frame.keeps;
      };
      callers = a.callers;
    }

landed : (program : Program) (t : Thread) (s : State) (rest : Body) (a : IsAt program t s) (n : ℕ) (l : Label) (ls : List Label)
    (w : Marked n t.code.now a.below a.outer t.marks (l ∷ ls)) → l.again ≡ None → LeadsTo None t.code.now l w.3 w.0 → (xs : List Value)
    → cut w.0.keeps w.0.height t.desk.operands ≡ Ok (xs ++ pile l ls a.below) → kept l.keeps s.frame.operands ≡ Ok xs
    → Agrees program (to_mark n w.0 (beyond t)) (in_frame s (to_label None l ls (record s.frame { body = rest })))
landed program t s rest a n l ls w g q xs c k = rw (c, k) (record (with_operands (beyond t) (xs ++ pile l ls a.below)) { place = w.0.target; marks = drop (n + bit w.0.looping) t.marks }, refl, at_block program t s a n l ls w g q xs)

cut_at : (program : Program) (t : Thread) (s : State) (a : IsAt program t s) (n : ℕ) (l : Label) (ls : List Label)
    (w : Marked n t.code.now a.below a.outer t.marks (l ∷ ls)) → drop n s.frame.labels ≡ l ∷ ls → (vs : List Value) → cut_to w.0.height (piled vs s.frame.labels a.below) ≡ pile l ls a.below
cut_at program t s a n l ls w h vs =
    let split = piled_drop n vs s.frame.labels a.below l ls h in
    ap (cut_to w.0.height) split.1 ∙ cut_piled split.0 (pile l ls a.below) w.0.height w.7

branched : (program : Program) (t : Thread) (s : State) (rest : Body) (a : IsAt program t s) (n : ℕ) (l : Label) (ls : List Label)
    (w : Marked n t.code.now a.below a.outer t.marks (l ∷ ls)) → l.again ≡ None → (q : LeadsTo None t.code.now l w.3 w.0) → drop n s.frame.labels ≡ l ∷ ls
    → (k : Bool) → l.keeps ≡ k → (vs : List Value) → s.frame.operands ≡ vs
    → Agrees program (to_mark n w.0 (beyond t)) (in_frame s (to_label None l ls (record s.frame { body = rest })))
branched program t s rest a n l ls w g q h false e vs ev =
    let keeps : w.0.keeps ≡ false = q.1 ∙ e in
    let c : cut w.0.keeps w.0.height t.desk.operands ≡ Ok ([] ++ pile l ls a.below) = rw keeps (ap Ok (ap (cut_to w.0.height) a.frame.operands_are ∙ cut_at program t s a n l ls w h s.frame.operands)) in
    let k : kept l.keeps s.frame.operands ≡ Ok [] = rw e refl in
    landed program t s rest a n l ls w g q [] c k
branched program t s rest a n l ls w g q h true e [] ev = let k : kept l.keeps s.frame.operands ≡ Err Stuck = rw (e, ev) refl in rw k (inl refl)
branched program t s rest a n l ls w g q h true e (v ∷ vs) ev =
    let keeps : w.0.keeps ≡ true = q.1 ∙ e in
    let all : t.desk.operands ≡ v ∷ piled vs s.frame.labels a.below = a.frame.operands_are ∙ ap (λ x. piled x s.frame.labels a.below) ev ∙ piled_cons v vs s.frame.labels a.below in
    let c : cut w.0.keeps w.0.height t.desk.operands ≡ Ok ((v ∷ []) ++ pile l ls a.below) = rw (keeps, all) (ap (λ x. Ok (v ∷ x)) (cut_at program t s a n l ls w h vs)) in
    let k : kept l.keeps s.frame.operands ≡ Ok (v ∷ []) = rw (e, ev) refl in
    landed program t s rest a n l ls w g q (v ∷ []) c k

pub to_block_agrees : (program : Program) (t : Thread) (s : State) (rest : Body) (a : IsAt program t s) (n : ℕ) (l : Label) (ls : List Label)
    (w : Marked n t.code.now a.below a.outer t.marks (l ∷ ls)) → l.again ≡ None → LeadsTo None t.code.now l w.3 w.0 → drop n s.frame.labels ≡ l ∷ ls
    → Agrees program (to_mark n w.0 (beyond t)) (in_frame s (to_label None l ls (record s.frame { body = rest })))
to_block_agrees program t s rest a n l ls w g q h = branched program t s rest a n l ls w g q h l.keeps refl s.frame.operands refl

-- ---- a branch to a loop

pub to_loop_agrees : (program : Program) (t : Thread) (s : State) (rest : Body) (a : IsAt program t s) (n : ℕ) (l : Label) (ls : List Label) (r : Option ValueType) (inner : Body)
    (w : Marked n t.code.now a.below a.outer t.marks (l ∷ ls)) → LeadsTo (Some (r, inner)) t.code.now l w.3 w.0 → drop n s.frame.labels ≡ l ∷ ls → drop (n + 1) t.marks ≡ w.1
    → Agrees program (to_mark n w.0 (beyond t)) (in_frame s (to_label (Some (r, inner)) l ls (record s.frame { body = rest })))
to_loop_agrees program t s rest a n l ls r inner w q h gone =
    let c : cut w.0.keeps w.0.height t.desk.operands ≡ Ok (pile l ls a.below) = ap (λ k. cut k w.0.height t.desk.operands) q.1 ∙ ap Ok (ap (cut_to w.0.height) a.frame.operands_are ∙ cut_at program t s a n l ls w h s.frame.operands) in
    let marks : drop (n + bit w.0.looping) t.marks ≡ w.1 = ap (λ b. drop (n + bit b) t.marks) q.0 ∙ gone in (
      record (with_operands (beyond t) (pile l ls a.below)) { place = w.0.target; marks = drop (n + bit w.0.looping) t.marks },
      rw c refl,
      record {
        functions = a.functions;
        below = a.below;
        outer = a.outer;
        lower = a.lower;
        code = record { callee = a.code.callee; found = a.code.found; code_is = a.code.code_is; exits = a.code.exits };
        code_exits = a.code_exits;
        types = a.types;
        table = a.table;
        world = a.world;
        frame = record {
          behind = w.3;
          open_blocks = rw marks w.9;
          at = q.2;
          operands_are = refl;
          locals_are = a.frame.locals_are;
          floor = a.frame.floor;
          base = a.frame.base;
          height = a.frame.height;
          keeps = a.frame.keeps;
        };
        callers = a.callers;
      },
    )
