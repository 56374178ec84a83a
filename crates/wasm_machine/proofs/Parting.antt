-- An if and its parts.
use Rattle.std.proofs.Common.{◌≡◌, ℕ, suc, ◌+◌, ◌-◌, inl, inr, refl, sym, ap, ◌∙◌, Ok, Some, None, true, false, Bool, Option, List, [], ◌∷◌, length, drop, slice_get, nat_lt, ◌==◌, if◌then◌else◌, arith}
use Rattle.std.specs.Option.{is_some}
use Rattle.std.proofs.lemmas.Bool.{lt-ltb}
use Rattle.wasm_types.specs.declared.types.ValueType.{ValueType}
use Rattle.wasm_types.specs.declared.values.Value.{Value}
use Rattle.wasm_types.specs.declared.values.Value.TheVariants.{I32, I64}
use Rattle.wasm_types.specs.declared.instructions.Instr.{Instr}
use Rattle.wasm_types.specs.declared.instructions.Instr.TheVariants.{If, Else, End}
use Rattle.wasm_types.specs.Nested.{Body, Done, flat_onto}
use Rattle.wasm_flat.specs.declared.thread.Mark.{Mark}
use Rattle.wasm_flat.specs.declared.thread.Thread.{Thread}
use Rattle.stacks.specs.Tops.{head_of}
use Rattle.wasm_meaning.specs.Steps.{◌>>=◌}
use Rattle.wasm_meaning.specs.Frames.{Program, Frame, Label, State}
use Rattle.wasm_meaning.specs.Meaning.{tested, entered}
use Rattle.wasm_flat.specs.Flat.{beyond, with_operands, opened}
use Rattle.wasm_flat.specs.Flat as flat
use Rattle.wasm_machine.specs.Standing.{IsAt, AreOpen, LeadsTo, Closes}
use Rattle.wasm_machine.proofs.Places.{stands, follows}
use Rattle.wasm_machine.proofs.Passing.{with_top, top_is}
use Rattle.wasm_machine.proofs.Agreement.{Agrees}
use Rattle.std.proofs.lemmas.List.{length-drop}
use Rattle.wasm_machine.proofs.Leaving.{piled_append}
use Rattle.wasm_machine.proofs.Endings.{at_end, after_end}
use Rattle.wasm_machine.proofs.Testing.{left_top, untested}
use Rattle.wasm_meaning.specs.World.{World}

there : {X : Type 0} (p : ℕ) (xs : List X) (x : X) (ys : List X) → drop p xs ≡ x ∷ ys → nat_lt p (length xs) ≡ true
there p xs x ys h = let n : length xs - p ≡ suc (length ys) = sym (length-drop p xs) ∙ ap length h in lt-ltb p (length xs) (omega arith)

-- ---- the else behind the first part

pub part_agrees : (program : Program) (t : Thread) (f : Frame) (l : Label) (ls : List Label) (callers : List Frame) (world : World)
    (a : IsAt program t (at_end f l ls callers world)) (m : Mark) (ms : List Mark) (after : List Instr)
    → t.marks ≡ m ∷ ms → LeadsTo None t.code.now l after m → AreOpen t.code.now a.below a.outer ls ms after
    → Agrees program (flat.parted_at (head_of t.marks) t) (Ok (after_end f l ls callers world))
part_agrees program t f l ls callers world a m ms after is leads o =
    let in_code : nat_lt m.target (length t.code.now) ≡ true = there m.target t.code.now End (flat_onto l.rest after) leads.2 in
    rw (is, in_code) (
      record t { place = m.target + 1; marks = ms },
      refl,
      record {
        functions = a.functions;
        types = a.types;
        table = a.table;
        below = a.below;
        outer = a.outer;
        lower = a.lower;
        code = record { callee = a.code.callee; found = a.code.found; code_is = a.code.code_is; exits = a.code.exits };
        code_exits = a.code_exits;
        world = a.world;
        frame = record {
          behind = after;
          open_blocks = o;
          at = follows m.target t.code.now End (flat_onto l.rest after) leads.2;
          operands_are = a.frame.operands_are ∙ piled_append f.operands l.below ls a.below;
          locals_are = a.frame.locals_are;
          floor = a.frame.floor;
          base = a.frame.base;
          height = a.frame.height;
          keeps = a.frame.keeps;
        };
        callers = a.callers;
      },
    )

-- ---- an if begins

-- the thread in a part that is closed by what follows
part_begun : (program : Program) (t : Thread) (s : State) (a : IsAt program t s) (keeps : Bool) (place end : ℕ) (inner rest : Body) (closes : List Instr)
    → drop place t.code.now ≡ flat_onto inner closes → Closes None closes rest a.frame.behind → drop end t.code.now ≡ End ∷ flat_onto rest a.frame.behind
    → IsAt program (record (opened false end keeps t) { place = place }) (record s { frame = entered keeps None inner rest s.frame.operands s.frame })
part_begun program t s a keeps place end inner rest closes at c e = record {
  functions = a.functions;
  types = a.types;
  table = a.table;
  below = a.below;
  outer = a.outer;
  lower = a.lower;
  code = record { callee = a.code.callee; found = a.code.found; code_is = a.code.code_is; exits = a.code.exits };
  code_exits = a.code_exits;
  world = a.world;
  frame = record {
    behind = closes;
    open_blocks = (record { looping = false; target = end; height = length t.desk.operands; keeps = keeps }, t.marks, a.frame.behind, refl, c, ap length a.frame.operands_are, (refl, refl, e), a.frame.open_blocks);
    at = at;
    operands_are = a.frame.operands_are;
    locals_are = a.frame.locals_are;
    floor = a.frame.floor;
    base = a.frame.base;
    height = a.frame.height;
    keeps = a.frame.keeps;
  };
  callers = a.callers;
}

if_chosen : (program : Program) (t : Thread) (s : State) (a : IsAt program t s) (r : Option ValueType) (inner rest : Body) (e next : ℕ) (b : Bool)
    → drop next t.code.now ≡ flat_onto inner (End ∷ flat_onto rest a.frame.behind) → drop e t.code.now ≡ End ∷ flat_onto rest a.frame.behind
    → Agrees program (Ok (record (opened false e (is_some r) t) { place = flat.if_place b false e next })) (Ok (record s { frame = entered (is_some r) None (if b then Done else inner) rest s.frame.operands s.frame }))
if_chosen program t s a r inner rest e next true at ends = (record (opened false e (is_some r) t) { place = e }, refl, part_begun program t s a (is_some r) e e Done rest (End ∷ flat_onto rest a.frame.behind) ends (inl refl) ends)
if_chosen program t s a r inner rest e next false at ends = (record (opened false e (is_some r) t) { place = next }, refl, part_begun program t s a (is_some r) next e inner rest (End ∷ flat_onto rest a.frame.behind) at (inl refl) ends)

if_tested : (program : Program) (t : Thread) (s : State) (r : Option ValueType) (inner rest : Body) (a : IsAt program t s)
    → drop t.place t.code.now ≡ If r ∷ flat_onto inner (End ∷ flat_onto rest a.frame.behind) → (vs : List Value) → s.frame.operands ≡ vs
    → Agrees program (flat.if_block r t.place (beyond t)) (tested vs >>= λ o. Ok (record s { frame = entered (is_some r) None (if (o.0 == 0) then Done else inner) rest o.1 s.frame }))
if_tested program t s r inner rest a at [] ev = inl refl
if_tested program t s r inner rest a at (I64 n ∷ vs) ev = inl refl
if_tested program t s r inner rest a at (I32 n ∷ vs) ev =
    let exit = a.code_exits.of_if t.place r inner (flat_onto rest a.frame.behind) at in
    let ends : slice_get t.code.now exit.0 ≡ Some End = stands exit.0 t.code.now End (flat_onto rest a.frame.behind) exit.2 in
    rw (exit.1, ends, top_is program t s a (I32 n) vs ev)
    (if_chosen program (left_top program t s a vs) (with_top s vs) (untested program t s a vs) r inner rest exit.0 (t.place + 1) ((n == 0))
    (follows t.place t.code.now (If r) (flat_onto inner (End ∷ flat_onto rest a.frame.behind)) at) exit.2)

pub if_agrees : (program : Program) (t : Thread) (s : State) (r : Option ValueType) (inner rest : Body) (a : IsAt program t s)
    → drop t.place t.code.now ≡ If r ∷ flat_onto inner (End ∷ flat_onto rest a.frame.behind)
    → Agrees program (flat.if_block r t.place (beyond t)) (tested s.frame.operands >>= λ o. Ok (record s { frame = entered (is_some r) None (if (o.0 == 0) then Done else inner) rest o.1 s.frame }))
if_agrees program t s r inner rest a at = if_tested program t s r inner rest a at s.frame.operands refl

-- ---- with an else

else_chosen : (program : Program) (t : Thread) (s : State) (a : IsAt program t s) (r : Option ValueType) (first second rest : Body) (e f next : ℕ) (b : Bool)
    → drop next t.code.now ≡ flat_onto first (Else ∷ flat_onto second (End ∷ flat_onto rest a.frame.behind)) → drop e t.code.now ≡ Else ∷ flat_onto second (End ∷ flat_onto rest a.frame.behind) → drop f t.code.now ≡ End ∷ flat_onto rest a.frame.behind
    → Agrees program (Ok (record (opened false f (is_some r) t) { place = flat.if_place b true e next })) (Ok (record s { frame = entered (is_some r) None (if b then second else first) rest s.frame.operands s.frame }))
else_chosen program t s a r first second rest e f next true at parts ends =
    (record (opened false f (is_some r) t) { place = e + 1 }, refl, part_begun program t s a (is_some r) (e + 1) f second rest (End ∷ flat_onto rest a.frame.behind) (follows e t.code.now Else (flat_onto second (End ∷ flat_onto rest a.frame.behind)) parts) (inl refl) ends)
else_chosen program t s a r first second rest e f next false at parts ends =
    (record (opened false f (is_some r) t) { place = next }, refl, part_begun program t s a (is_some r) next f first rest (Else ∷ flat_onto second (End ∷ flat_onto rest a.frame.behind)) at (inr (second, refl)) ends)

else_tested : (program : Program) (t : Thread) (s : State) (r : Option ValueType) (first second rest : Body) (a : IsAt program t s)
    → drop t.place t.code.now ≡ If r ∷ flat_onto first (Else ∷ flat_onto second (End ∷ flat_onto rest a.frame.behind)) → (vs : List Value) → s.frame.operands ≡ vs
    → Agrees program (flat.if_block r t.place (beyond t)) (tested vs >>= λ o. Ok (record s { frame = entered (is_some r) None (if (o.0 == 0) then second else first) rest o.1 s.frame }))
else_tested program t s r first second rest a at [] ev = inl refl
else_tested program t s r first second rest a at (I64 n ∷ vs) ev = inl refl
else_tested program t s r first second rest a at (I32 n ∷ vs) ev =
    let w = a.code_exits.of_else t.place r first second (flat_onto rest a.frame.behind) at in
    let parts : slice_get t.code.now w.0 ≡ Some Else = stands w.0 t.code.now Else (flat_onto second (End ∷ flat_onto rest a.frame.behind)) w.3 in
    let in_code : nat_lt w.0 (length t.code.now) ≡ true = there w.0 t.code.now Else (flat_onto second (End ∷ flat_onto rest a.frame.behind)) w.3 in
    rw (w.2, parts, in_code, w.4, top_is program t s a (I32 n) vs ev)
    (else_chosen program (left_top program t s a vs) (with_top s vs) (untested program t s a vs) r first second rest w.0 w.1 (t.place + 1) ((n == 0))
    (follows t.place t.code.now (If r) (flat_onto first (Else ∷ flat_onto second (End ∷ flat_onto rest a.frame.behind))) at) w.3 w.5)

pub if_else_agrees : (program : Program) (t : Thread) (s : State) (r : Option ValueType) (first second rest : Body) (a : IsAt program t s)
    → drop t.place t.code.now ≡ If r ∷ flat_onto first (Else ∷ flat_onto second (End ∷ flat_onto rest a.frame.behind))
    → Agrees program (flat.if_block r t.place (beyond t)) (tested s.frame.operands >>= λ o. Ok (record s { frame = entered (is_some r) None (if (o.0 == 0) then second else first) rest o.1 s.frame }))
if_else_agrees program t s r first second rest a at = else_tested program t s r first second rest a at s.frame.operands refl
