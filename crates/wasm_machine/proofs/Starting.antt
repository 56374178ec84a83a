-- A machine that was started stands at the beginning.
use Rattle.std.proofs.Common.{◌≡◌, ℕ, refl, sym, ap, subst, ◌∙◌, Ok, Some, Option, [], ◌∷◌, ◌++◌, length, take, reverse, slice_get}
use Rattle.std.specs.Option.{is_some}
use Rattle.wasm_types.specs.declared.instructions.Instr.TheVariants.{End}
use Rattle.wasm_types.specs.Nested.{Body}
use Rattle.wasm_flat.specs.declared.thread.Callee.{Callee}
use Rattle.wasm_flat.specs.declared.thread.Thread.{Thread}
use Rattle.wasm_meaning.specs.Steps.{found}
use Rattle.wasm_meaning.specs.Frames.{Program, Function}
use Rattle.wasm_flat.specs.Flat.{beyond, with_operands, opened}
use Rattle.wasm_flat.specs.Flat as flat
use Rattle.wasm_machine.specs.Standing.{IsAt}
use Rattle.wasm_machine.specs.Standing.{HasProgram, HasBody, IsFunction}
use Rattle.wasm_meaning.specs.Runs.{first}
use Rattle.wasm_meaning.specs.Kinds.{zero_of}
use Rattle.wasm_machine.proofs.Calling.{function_at}
use Rattle.std.proofs.Common.{map}

stands_first : (program : Program) (t : Thread) (x : ℕ) (c : Callee) (f : Function) (body : Body) → HasProgram program t → slice_get t.callees.now x ≡ Some c → IsFunction c f → HasBody (Some body) c → f.kind.params ≡ []
    → (new : Thread) → flat.started (Some c) x t ≡ Ok new → IsAt program new (first f body t.desk.world)
stands_first program t x c f body p found is has none new made =
    let n : length f.kind.params ≡ 0 = ap length none in
    let no_arguments : reverse (take (length f.kind.params) []) ++ map zero_of f.locals ≡ map zero_of f.locals = ap (λ k. reverse (take k []) ++ map zero_of f.locals) n in
    let started : Thread = record t {
      desk = record t.desk { operands = [] };
      marks = [];
      frames = [];
      locals = map zero_of c.locals.now;
      code = c.code;
      exits = c.exits;
      function = x;
      place = 0;
      floor = 0;
      base = 0;
      height = 0;
      keeps = is_some c.kind.now.result;
    } in
    let same : started ≡ new = cc in
    let P : Thread → Type 0 = λ u. IsAt program u (first f body t.desk.world) in
    subst P same (record {
      functions = p.functions;
      types = p.types;
      table = p.table;
      below = [];
      outer = [];
      lower = [];
      code = record { callee = c; found = found; code_is = refl; exits = has.2 };
      code_exits = has.2;
      world = refl;
      frame = record {
        behind = End ∷ [];
        open_blocks = (refl, refl);
        at = has.1;
        operands_are = refl;
        locals_are = ap (map zero_of) is.locals ∙ sym no_arguments;
        floor = refl;
        base = refl;
        height = refl;
        keeps = ap (λ k. is_some k.result) is.kind;
      };
      callers = (refl, refl, refl, refl);
    })

pub started_at : (program : Program) (t new : Thread) (x : ℕ) (f : Function) (body : Body) → HasProgram program t → slice_get program.functions x ≡ Some f → f.kind.params ≡ [] → f.body ≡ Some body
    → flat.started (slice_get t.callees.now x) x t ≡ Ok new → IsAt program new (first f body t.desk.world)
started_at program t new x f body p known none has made =
    let c = function_at x t.callees.now program.functions f p.functions known in
    let B : Option Body → Type 0 = λ o. HasBody o c.0 in
    stands_first program t x c.0 f body p c.1 c.2 (subst B has c.2.body) none new (ap (λ o. flat.started o x t) (sym c.1) ∙ made)
