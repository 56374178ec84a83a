-- A call begins as the meaning says.
use Rattle.std.proofs.Common.{◌≡◌, ℕ, zero, suc, ◌≤◌, refl, sym, ap, subst, ◌∙◌, Some, List, [], ◌∷◌, ◌++◌, length, take, drop, reverse, map, slice_get, arith}
use Rattle.std.proofs.lemmas.List.{take-append-le, drop-append-le, length-drop}
use Rattle.std.specs.Option.{is_some}
use Rattle.wasm_types.specs.declared.values.Value.{Value}
use Rattle.wasm_types.specs.declared.instructions.Instr.{Instr}
use Rattle.wasm_types.specs.declared.instructions.Instr.TheVariants.{End}
use Rattle.wasm_types.specs.Nested.{Body, flat_onto}
use Rattle.wasm_flat.specs.declared.thread.Callee.{Callee}
use Rattle.wasm_flat.specs.declared.thread.Thread.{Thread}
use Rattle.wasm_meaning.specs.Frames.{Function, Program, Label, State}
use Rattle.wasm_meaning.specs.Meaning.{entered_function}
use Rattle.wasm_meaning.specs.Kinds.{zero_of}
use Rattle.wasm_flat.specs.Flat.{beyond, entered, waiting}
use Rattle.wasm_machine.specs.Standing.{IsAt, IsFunction, HasBody, AreFunctions, piled}
use Rattle.wasm_machine.proofs.Places.{follows, piled_split}

-- a function of the meaning is one of the machine
pub function_at : (x : ℕ) (cs : List Callee) (fs : List Function) (f : Function) → AreFunctions cs fs → slice_get fs x ≡ Some f → (c : Callee) × (slice_get cs x ≡ Some c) × IsFunction c f
function_at x [] [] f h e = cc
function_at x [] (g ∷ gs) f h e = absurd h
function_at x (c ∷ cs) [] f h e = absurd h
function_at zero (c ∷ cs) (g ∷ gs) f h e = let same : g ≡ f = cc in let P : Function → Type 0 = λ k. IsFunction c k in (c, refl, subst P same h.0)
function_at (suc x) (c ∷ cs) (g ∷ gs) f h e = function_at x cs gs f h.1 e

pub take_piled : (n : ℕ) (vs : List Value) (ls : List Label) (below : List Value) → n ≤ length vs → take n (piled vs ls below) ≡ take n vs
take_piled n vs ls below h = rw piled_split (take-append-le n vs (piled [] ls below) h)

pub drop_piled : (n : ℕ) (vs : List Value) (ls : List Label) (below : List Value) → n ≤ length vs → drop n (piled vs ls below) ≡ piled (drop n vs) ls below
drop_piled n vs ls below h = rw (piled_split vs ls below) (drop-append-le n vs (piled [] ls below) h ∙ sym (piled_split (drop n vs) ls below))

pub entered_at : (program : Program) (t : Thread) (s : State) (i : Instr) (x : ℕ) (rest : Body) (c : Callee) (f : Function) (body : Body) (a : IsAt program t s)
    → drop t.place t.code.now ≡ i ∷ flat_onto rest a.frame.behind
    → slice_get t.callees.now x ≡ Some c → IsFunction c f → HasBody (Some body) c → length f.kind.params ≤ length s.frame.operands
    → IsAt program (entered x c (beyond t)) (entered_function f body (record s.frame { body = rest }) s)
entered_at program t s i x rest c f body a at found is has enough =
    let same : length c.kind.now.params ≡ length f.kind.params = ap (λ k. length k.params) is.kind in
    let n : ℕ = length c.kind.now.params in
    let all : t.desk.operands ≡ piled s.frame.operands s.frame.labels a.below = a.frame.operands_are in
    let few : n ≤ length s.frame.operands = omega (arith, same) in
    let left : drop n t.desk.operands ≡ piled (drop (length f.kind.params) s.frame.operands) s.frame.labels a.below =
    ap (drop n) all ∙ drop_piled n s.frame.operands s.frame.labels a.below few ∙ ap (λ k. piled (drop k s.frame.operands) s.frame.labels a.below) same in
    let taken : take n t.desk.operands ≡ take (length f.kind.params) s.frame.operands =
    ap (take n) all ∙ take_piled n s.frame.operands s.frame.labels a.below few ∙ ap (λ k. take k s.frame.operands) same in
    record {
      functions = a.functions;
      below = drop n t.desk.operands;
      outer = t.marks;
      lower = t.locals;
      code = record { callee = c; found = found; code_is = refl; exits = has.2 };
      code_exits = has.2;
      types = a.types;
      table = a.table;
      world = a.world;
      frame = record {
        behind = End ∷ [];
        open_blocks = (refl, refl);
        at = has.1;
        operands_are = refl;
        locals_are = ap (λ vs. t.locals ++ (reverse vs ++ map zero_of c.locals.now)) taken ∙ ap (λ ts. t.locals ++ (reverse (take (length f.kind.params) s.frame.operands) ++ map zero_of ts)) is.locals;
        floor = refl;
        base = refl;
        height = sym (length-drop n t.desk.operands);
        keeps = ap (λ k. is_some k.result) is.kind;
      };
      callers = (
        waiting (beyond t),
        t.frames,
        t.code.now,
        a.below,
        a.outer,
        a.lower,
        refl,
        record { callee = a.code.callee; found = a.code.found; code_is = a.code.code_is; exits = a.code.exits },
        record {
          behind = a.frame.behind;
          open_blocks = a.frame.open_blocks;
          at = follows t.place t.code.now i (flat_onto rest a.frame.behind) at;
          operands_are = left;
          locals_are = a.frame.locals_are;
          floor = a.frame.floor;
          base = a.frame.base;
          height = a.frame.height;
          keeps = a.frame.keeps;
        },
        a.callers,
      );
    }
