-- The machine goes on behind an instruction, and behind an operand that was taken.
use Rattle.std.proofs.Common.{◌≡◌, ap, ◌∙◌, List, ◌∷◌, ◌++◌, drop}
use Rattle.wasm_types.specs.declared.values.Value.{Value}
use Rattle.wasm_types.specs.declared.instructions.Instr.{Instr}
use Rattle.wasm_types.specs.Nested.{Body, flat_onto}
use Rattle.wasm_flat.specs.declared.thread.Thread.{Thread}
use Rattle.wasm_meaning.specs.Frames.{Program, State}
use Rattle.wasm_flat.specs.Flat.{beyond, with_operands}
use Rattle.wasm_machine.specs.Standing.{IsAt, piled}
use Rattle.wasm_machine.proofs.Places.{follows}
use Rattle.wasm_machine.proofs.Leaving.{piled_cons}

-- the state behind an instruction
abbrev pub behind : State → Body → State
behind s rest = record s { frame = record s.frame { body = rest } }

pub passed_at : (program : Program) (t : Thread) (s : State) (i : Instr) (rest : Body) (a : IsAt program t s)
    → drop t.place t.code.now ≡ i ∷ flat_onto rest a.frame.behind → IsAt program (beyond t) (behind s rest)
passed_at program t s i rest a at = record {
  functions = a.functions;
  types = a.types;
  table = a.table;
  below = a.below;
  outer = a.outer;
  lower = a.lower;
  code = record { callee = a.code.callee; found = a.code.found; code_is = a.code.code_is; exits = a.code.exits };
  code_exits = a.code_exits;
  world = a.world;
  frame = record {
    behind = a.frame.behind;
    open_blocks = a.frame.open_blocks;
    at = follows t.place t.code.now i (flat_onto rest a.frame.behind) at;
    operands_are = a.frame.operands_are;
    locals_are = a.frame.locals_are;
    floor = a.frame.floor;
    base = a.frame.base;
    height = a.frame.height;
    keeps = a.frame.keeps;
  };
  callers = a.callers;
}

-- the same with other operands in the block
abbrev pub with_top : State → List Value → State
with_top s vs = record s { frame = record s.frame { operands = vs } }

abbrev pub topped_at : (program : Program) (t : Thread) (s : State) (a : IsAt program t s) (vs all : List Value)
    → all ≡ piled vs s.frame.labels a.below → IsAt program (with_operands t all) (with_top s vs)
topped_at program t s a vs all e = record {
  functions = a.functions;
  types = a.types;
  table = a.table;
  below = a.below;
  outer = a.outer;
  lower = a.lower;
  code = record { callee = a.code.callee; found = a.code.found; code_is = a.code.code_is; exits = a.code.exits };
  code_exits = a.code_exits;
  world = a.world;
  frame = record {
    behind = a.frame.behind;
    open_blocks = a.frame.open_blocks;
    at = a.frame.at;
    operands_are = e;
    locals_are = a.frame.locals_are;
    floor = a.frame.floor;
    base = a.frame.base;
    height = a.frame.height;
    keeps = a.frame.keeps;
  };
  callers = a.callers;
}

pub top_is : (program : Program) (t : Thread) (s : State) (a : IsAt program t s) (v : Value) (vs : List Value) → s.frame.operands ≡ v ∷ vs
    → t.desk.operands ≡ v ∷ piled vs s.frame.labels a.below
top_is program t s a v vs e = a.frame.operands_are ∙ ap (λ x. piled x s.frame.labels a.below) e ∙ piled_cons v vs s.frame.labels a.below

-- the same with other locals
abbrev pub with_locals : State → List Value → State
with_locals s vs = record s { frame = record s.frame { locals = vs } }

abbrev pub stored_at : (program : Program) (t : Thread) (s : State) (a : IsAt program t s) (vs all : List Value)
    → all ≡ a.lower ++ vs → IsAt program (record t { locals = all }) (with_locals s vs)
stored_at program t s a vs all e = record {
  functions = a.functions;
  types = a.types;
  table = a.table;
  below = a.below;
  outer = a.outer;
  lower = a.lower;
  code = record { callee = a.code.callee; found = a.code.found; code_is = a.code.code_is; exits = a.code.exits };
  code_exits = a.code_exits;
  world = a.world;
  frame = record {
    behind = a.frame.behind;
    open_blocks = a.frame.open_blocks;
    at = a.frame.at;
    operands_are = a.frame.operands_are;
    locals_are = e;
    floor = a.frame.floor;
    base = a.frame.base;
    height = a.frame.height;
    keeps = a.frame.keeps;
  };
  callers = a.callers;
}
