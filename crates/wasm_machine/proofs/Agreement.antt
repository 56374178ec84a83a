-- One item of flat code does what the meaning says.
use Rattle.std.proofs.Common.{◌≡◌, ◌⊎◌, inl, inr, refl, sym, ap, ◌∙◌, Ok, Err, Some, None, true, false, Option, [], ◌∷◌, ◌++◌, length, drop, Result}
use Rattle.std.specs.Option.{is_some}
use Rattle.wasm_types.specs.declared.types.ValueType.{ValueType}
use Rattle.wasm_types.specs.declared.instructions.Instr.{Instr}
use Rattle.wasm_types.specs.declared.instructions.Instr.TheVariants.{Block, Loop, End}
use Rattle.wasm_types.specs.Nested.{Body, flat_onto}
use Rattle.wasm_meaning.specs.World.{Desk}
use Rattle.wasm_flat.specs.declared.thread.Thread.{Thread}
use Rattle.wasm_flat.specs.declared.halt.Next.{Next}
use Rattle.wasm_flat.specs.declared.halt.Next.TheVariants.{On}
use Rattle.wasm_meaning.specs.declared.off.Off.{Off}
use Rattle.wasm_meaning.specs.declared.off.Off.TheVariants.{Stuck}
use Rattle.wasm_meaning.specs.Steps.{◌>>=◌}
use Rattle.wasm_meaning.specs.Acts.{acts}
use Rattle.wasm_meaning.specs.Frames.{Program, State}
use Rattle.wasm_meaning.specs.Meaning.{entered}
use Rattle.wasm_flat.specs.Flat.{beyond, block, opened}
use Rattle.wasm_machine.specs.Standing.{IsAt, piled}
use Rattle.wasm_machine.proofs.Acting.{carried, over, desk_of}
use Rattle.wasm_machine.proofs.Places.{follows, piled_split}

-- where the meaning goes on, so does the machine, to the same state; where it stops, the machine stops as it does
abbrev pub Agrees : Program → Result Thread Off → Result State Off → Type 0
Agrees program flat (Ok s) = (t : Thread) × (flat ≡ Ok t) × IsAt program t s
Agrees program flat (Err e) = (e ≡ Stuck) ⊎ (flat ≡ Err e)

-- the machine goes on, to this state
abbrev pub Returns : Program → Result (Next × Thread) Off → State → Type 0
Returns program flat s = (t : Thread) × (flat ≡ Ok (On, t)) × IsAt program t s

-- ---- instructions that only act on operands and globals

abbrev pub acted : State → Body → Desk → State
acted s rest d = record s { frame = record s.frame { body = rest; operands = d.operands }; world = d.world }

acted_at : (program : Program) (t : Thread) (s : State) (i : Instr) (rest : Body) (d : Desk) (a : IsAt program t s)
    → drop t.place t.code.now ≡ i ∷ flat_onto rest a.frame.behind
    → IsAt program (record (beyond t) { desk = record d { operands = d.operands ++ piled [] s.frame.labels a.below } }) (acted s rest d)
acted_at program t s i rest d a at = record {
  functions = a.functions;
  below = a.below;
  outer = a.outer;
  lower = a.lower;
  code = record { callee = a.code.callee; found = a.code.found; code_is = a.code.code_is; exits = a.code.exits };
  code_exits = a.code_exits;
  types = a.types;
  table = a.table;
  world = refl;
  frame = record {
    behind = a.frame.behind;
    open_blocks = a.frame.open_blocks;
    at = follows t.place t.code.now i (flat_onto rest a.frame.behind) at;
    operands_are = sym (piled_split d.operands s.frame.labels a.below);
    locals_are = a.frame.locals_are;
    floor = a.frame.floor;
    base = a.frame.base;
    height = a.frame.height;
    keeps = a.frame.keeps;
  };
  callers = a.callers;
}

acted_by : (program : Program) (t : Thread) (s : State) (i : Instr) (rest : Body) (r : Result Desk Off) (a : IsAt program t s)
    → drop t.place t.code.now ≡ i ∷ flat_onto rest a.frame.behind
    → Agrees program (over (piled [] s.frame.labels a.below) r >>= λ d. Ok (record (beyond t) { desk = d })) (r >>= λ d. Ok (acted s rest d))
acted_by program t s i rest (Ok d) a at = (record (beyond t) { desk = record d { operands = d.operands ++ piled [] s.frame.labels a.below } }, refl, acted_at program t s i rest d a at)
acted_by program t s i rest (Err e) a at = inr refl

acts_from : (program : Program) (t : Thread) (s : State) (i : Instr) (rest : Body) (a : IsAt program t s)
    → drop t.place t.code.now ≡ i ∷ flat_onto rest a.frame.behind
    → (acts i (desk_of s.frame.operands s.world) ≡ Err Stuck) ⊎ (acts i t.desk ≡ over (piled [] s.frame.labels a.below) (acts i (desk_of s.frame.operands s.world)))
    → Agrees program (acts i t.desk >>= λ d. Ok (record (beyond t) { desk = d })) (acts i (desk_of s.frame.operands s.world) >>= λ d. Ok (acted s rest d))
acts_from program t s i rest a at (inl stuck) = rw stuck (inl refl)
acts_from program t s i rest a at (inr same) = rw same (acted_by program t s i rest (acts i (desk_of s.frame.operands s.world)) a at)

desk_is : (program : Program) (t : Thread) (s : State) (a : IsAt program t s) → t.desk ≡ desk_of (s.frame.operands ++ piled [] s.frame.labels a.below) s.world
desk_is program t s a = ap (λ vs. desk_of vs t.desk.world) (a.frame.operands_are ∙ piled_split s.frame.operands s.frame.labels a.below) ∙ ap (desk_of (s.frame.operands ++ piled [] s.frame.labels a.below)) a.world

pub acts_agree : (program : Program) (t : Thread) (s : State) (i : Instr) (rest : Body) (a : IsAt program t s)
    → drop t.place t.code.now ≡ i ∷ flat_onto rest a.frame.behind
    → Agrees program (acts i t.desk >>= λ d. Ok (record (beyond t) { desk = d })) (acts i (desk_of s.frame.operands s.world) >>= λ d. Ok (acted s rest d))
acts_agree program t s i rest a at =
    acts_from program t s i rest a at (subst_desk (carried i s.frame.operands (piled [] s.frame.labels a.below) s.world) (desk_is program t s a))
  where
    subst_desk : (acts i (desk_of s.frame.operands s.world) ≡ Err Stuck) ⊎ (acts i (desk_of (s.frame.operands ++ piled [] s.frame.labels a.below) s.world) ≡ over (piled [] s.frame.labels a.below) (acts i (desk_of s.frame.operands s.world)))
        → t.desk ≡ desk_of (s.frame.operands ++ piled [] s.frame.labels a.below) s.world
        → (acts i (desk_of s.frame.operands s.world) ≡ Err Stuck) ⊎ (acts i t.desk ≡ over (piled [] s.frame.labels a.below) (acts i (desk_of s.frame.operands s.world)))
    subst_desk (inl h) e = inl h
    subst_desk (inr h) e = inr (ap (acts i) e ∙ h)

-- ---- blocks begin

pub block_agrees : (program : Program) (t : Thread) (s : State) (r : Option ValueType) (inner rest : Body) (a : IsAt program t s)
    → drop t.place t.code.now ≡ Block r ∷ flat_onto inner (End ∷ flat_onto rest a.frame.behind)
    → Agrees program (block r t.place (beyond t)) (Ok (record s { frame = entered (is_some r) None inner rest s.frame.operands s.frame }))
block_agrees program t s r inner rest a at =
    let exit = a.code_exits.of_block t.place r inner (flat_onto rest a.frame.behind) at in (
      opened false exit.0 (is_some r) (beyond t),
      rw exit.1 refl,
      record {
        functions = a.functions;
        below = a.below;
        outer = a.outer;
        lower = a.lower;
        code = record { callee = a.code.callee; found = a.code.found; code_is = a.code.code_is; exits = a.code.exits };
        code_exits = a.code_exits;
        types = a.types;
        table = a.table;
        world = a.world;
        frame = record {
          behind = End ∷ flat_onto rest a.frame.behind;
          open_blocks = (record { looping = false; target = exit.0; height = length t.desk.operands; keeps = is_some r }, t.marks, a.frame.behind, refl, inl refl, ap length a.frame.operands_are, (refl, refl, exit.2), a.frame.open_blocks);
          at = follows t.place t.code.now (Block r) (flat_onto inner (End ∷ flat_onto rest a.frame.behind)) at;
          operands_are = a.frame.operands_are;
          locals_are = a.frame.locals_are;
          floor = a.frame.floor;
          base = a.frame.base;
          height = a.frame.height;
          keeps = a.frame.keeps;
        };
        callers = a.callers;
      },
    )

pub loop_agrees : (program : Program) (t : Thread) (s : State) (r : Option ValueType) (inner rest : Body) (a : IsAt program t s)
    → drop t.place t.code.now ≡ Loop r ∷ flat_onto inner (End ∷ flat_onto rest a.frame.behind)
    → Agrees program (Ok (opened true t.place false (beyond t))) (Ok (record s { frame = entered (is_some r) (Some (r, inner)) inner rest s.frame.operands s.frame }))
loop_agrees program t s r inner rest a at = (
  opened true t.place false (beyond t),
  refl,
  record {
    functions = a.functions;
    below = a.below;
    outer = a.outer;
    lower = a.lower;
    code = record { callee = a.code.callee; found = a.code.found; code_is = a.code.code_is; exits = a.code.exits };
    code_exits = a.code_exits;
    types = a.types;
    table = a.table;
    world = a.world;
    frame = record {
      behind = End ∷ flat_onto rest a.frame.behind;
      open_blocks = (record { looping = true; target = t.place; height = length t.desk.operands; keeps = false }, t.marks, a.frame.behind, refl, refl, ap length a.frame.operands_are, (refl, refl, at), a.frame.open_blocks);
      at = follows t.place t.code.now (Loop r) (flat_onto inner (End ∷ flat_onto rest a.frame.behind)) at;
      operands_are = a.frame.operands_are;
      locals_are = a.frame.locals_are;
      floor = a.frame.floor;
      base = a.frame.base;
      height = a.frame.height;
      keeps = a.frame.keeps;
    };
    callers = a.callers;
  },
)
