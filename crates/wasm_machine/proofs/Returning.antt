-- A call ends as the meaning says.
use Rattle.std.proofs.Common.{◌≡◌, ◌+◌, ◌≤◌, refl, sym, ap, subst, ◌∙◌, Ok, false, List, [], ◌∷◌, ◌++◌, length, take, nat_lt, arith}
use Rattle.std.proofs.lemmas.Bool.{le-ltb}
use Rattle.std.proofs.Math.Seq.{take-append_seam}
use Rattle.wasm_types.specs.declared.instructions.Instr.{Instr}
use Rattle.wasm_types.specs.Nested.{Done}
use Rattle.wasm_flat.specs.declared.thread.Frame.{Frame as Waiting}
use Rattle.wasm_flat.specs.declared.thread.Thread.{Thread}
use Rattle.wasm_meaning.specs.World.{World}
use Rattle.wasm_meaning.specs.Frames.{Program, Frame, State}
use Rattle.wasm_flat.specs.declared.halt.Next.TheVariants.{On}
use Rattle.wasm_flat.specs.Flat.{end}
use Rattle.wasm_jumps.specs.Exits.{KnowsExits}
use Rattle.wasm_machine.specs.Standing.{IsAt, InFrame}
use Rattle.wasm_machine.proofs.Leaving.{piled_append}
use Rattle.wasm_machine.proofs.Agreement.{Returns}

abbrev pub at_return : Frame → Frame → List Frame → World → State
at_return f c cs world = record { frame = record f { labels = []; body = Done }; callers = c ∷ cs; world = world }

abbrev pub after_return : Frame → Frame → List Frame → World → State
after_return f c cs world = record { frame = record c { operands = f.operands ++ c.operands }; callers = cs; world = world }

-- the thread that goes on with a caller
abbrev pub gone_back : Thread → Waiting → List Waiting → Thread → Thread
gone_back t w rest like = record t {
  locals = take t.base t.locals;
  code = like.code;
  exits = like.exits;
  function = w.function;
  place = w.place;
  floor = w.floor;
  base = w.base;
  height = w.height;
  keeps = w.keeps;
  frames = rest;
}

pub return_agrees : (program : Program) (t : Thread) (f c : Frame) (cs : List Frame) (world : World)
    (a : IsAt program t (at_return f c cs world)) → Returns program (end (t.place + 1) t) (after_return f c cs world)
return_agrees program t f c cs world a =
    let w = a.callers in
    let marks : t.marks ≡ a.outer = a.frame.open_blocks.0 in
    let low : length t.marks ≤ t.floor = omega (arith, ap length marks, a.frame.floor) in
    let test : nat_lt t.floor (length t.marks) ≡ false = le-ltb t.floor (length t.marks) low in
    let code = w.7.callee in
    let frame : InFrame code.code.now w.0 c a.below a.outer a.lower w.3 w.4 w.5 = let P : List Instr → Type 0 = λ x. InFrame x w.0 c a.below a.outer a.lower w.3 w.4 w.5 in subst P (sym w.7.code_is) w.8 in
    let exits : KnowsExits code.code.now code.exits.now = let P : List Instr → Type 0 = λ x. KnowsExits x code.exits.now in subst P (sym w.7.code_is) w.7.exits in
    let new : Thread = record t { locals = take t.base t.locals; code = code.code; exits = code.exits; function = w.0.function; place = w.0.place; floor = w.0.floor; base = w.0.base; height = w.0.height; keeps = w.0.keeps; frames = w.1 } in
    let flat : end (t.place + 1) t ≡ Ok (On, new) = rw (test, w.6, w.7.found) refl in (
      new,
      flat,
      record {
        functions = a.functions;
        below = w.3;
        outer = w.4;
        lower = w.5;
        code = record { callee = code; found = w.7.found; code_is = refl; exits = exits };
        code_exits = exits;
        types = a.types;
        table = a.table;
        world = a.world;
        frame = record {
          behind = frame.behind;
          open_blocks = rw marks frame.open_blocks;
          at = frame.at;
          operands_are = a.frame.operands_are ∙ ap (λ x. f.operands ++ x) frame.operands_are ∙ piled_append f.operands c.operands c.labels w.3;
          locals_are = ap (λ n. take n t.locals) a.frame.base ∙ ap (take (length a.lower)) a.frame.locals_are ∙ take-append_seam a.lower f.locals ∙ frame.locals_are;
          floor = frame.floor;
          base = frame.base;
          height = frame.height;
          keeps = frame.keeps;
        };
        callers = w.9;
      },
    )
