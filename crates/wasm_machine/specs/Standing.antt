-- Where the machine stands in nested code: the same operands, blocks and calls.
use Rattle.std.specs.Prelude.{◌≡◌, ◌⊎◌, true, false, Option, Some, None, List, [], ◌∷◌, ◌++◌, length, drop, slice_get}
use Rattle.wasm_types.specs.declared.types.ValueType.{ValueType}
use Rattle.wasm_types.specs.declared.values.Value.{Value}
use Rattle.wasm_types.specs.declared.instructions.Instr.{Instr}
use Rattle.wasm_types.specs.declared.instructions.Instr.TheVariants.{Loop, Else, End}
use Rattle.wasm_types.specs.Nested.{Body, flat_onto}
use Rattle.wasm_flat.specs.declared.thread.Mark.{Mark}
use Rattle.wasm_flat.specs.declared.thread.Frame.{Frame as Waiting}
use Rattle.wasm_flat.specs.declared.thread.Callee.{Callee}
use Rattle.wasm_flat.specs.declared.thread.Thread.{Thread}
use Rattle.wasm_jumps.specs.Exits.{KnowsExits}
use Rattle.wasm_meaning.specs.Frames.{Label, Frame, Function, Program, State}

-- what follows the instructions of a block: its end, or the other part of an if
abbrev pub Closes : Option (Option ValueType × Body) → List Instr → Body → List Instr → Type 0
Closes (Some loop) behind rest after = behind ≡ End ∷ flat_onto rest after
Closes None behind rest after = (behind ≡ End ∷ flat_onto rest after) ⊎ ((second : Body) × (behind ≡ Else ∷ flat_onto second (End ∷ flat_onto rest after)))

-- the operands of a block, of those round it, and below
abbrev pub piled : List Value → List Label → List Value → List Value
piled vs [] below = vs ++ below
piled vs (l ∷ ls) below = vs ++ piled l.below ls below

-- where a branch to a block goes on
abbrev pub LeadsTo : Option (Option ValueType × Body) → List Instr → Label → List Instr → Mark → Type 0
LeadsTo None code l after m = (m.looping ≡ false) × (m.keeps ≡ l.keeps) × (drop m.target code ≡ End ∷ flat_onto l.rest after)
LeadsTo (Some loop) code l after m = (m.looping ≡ true) × (m.keeps ≡ false) × (drop m.target code ≡ Loop loop.0 ∷ flat_onto loop.1 (End ∷ flat_onto l.rest after))

-- the blocks that are open, their marks, and what follows the innermost one's instructions
abbrev pub AreOpen : List Instr → List Value → List Mark → List Label → List Mark → List Instr → Type 0
AreOpen code below outer [] marks behind = (marks ≡ outer) × (behind ≡ End ∷ [])
AreOpen code below outer (l ∷ ls) marks behind =
    (m : Mark) × (ms : List Mark) × (after : List Instr)
    × (marks ≡ m ∷ ms) × Closes l.again behind l.rest after × (m.height ≡ length (piled l.below ls below)) × LeadsTo l.again code l after m × AreOpen code below outer ls ms after

-- a frame: what stands where of the machine's lists, and what is below it
pub record InFrame (code : List Instr) (w : Waiting) (f : Frame) (operands : List Value) (marks : List Mark) (locals : List Value) (below : List Value) (outer : List Mark) (lower : List Value) : Type 0 where
  pub behind : List Instr
  pub open_blocks : AreOpen code below outer f.labels marks behind
  pub at : drop w.place code ≡ flat_onto f.body behind
  pub operands_are : operands ≡ piled f.operands f.labels below
  pub locals_are : locals ≡ lower ++ f.locals
  pub floor : w.floor ≡ length outer
  pub base : w.base ≡ length lower
  pub height : w.height ≡ length below
  pub keeps : w.keeps ≡ f.keeps

-- the code of a function
pub record HasCode (callees : List Callee) (w : Waiting) (code : List Instr) : Type 0 where
  pub callee : Callee
  pub found : slice_get callees w.function ≡ Some callee
  pub code_is : callee.code.now ≡ code
  pub exits : KnowsExits code callee.exits.now

abbrev pub Waits : List Callee → List Frame → List Waiting → List Value → List Mark → List Value → Type 0
Waits callees [] ws operands marks locals = (ws ≡ []) × (operands ≡ []) × (marks ≡ []) × (locals ≡ [])
Waits callees (f ∷ fs) ws operands marks locals =
    (w : Waiting) × (rest : List Waiting) × (code : List Instr) × (below : List Value) × (outer : List Mark) × (lower : List Value)
    × (ws ≡ w ∷ rest) × HasCode callees w code × InFrame code w f operands marks locals below outer lower × Waits callees fs rest below outer lower

abbrev pub HasBody : Option Body → Callee → Type 0
HasBody None c = c.defined ≡ false
HasBody (Some body) c = (c.defined ≡ true) × (c.code.now ≡ flat_onto body (End ∷ [])) × KnowsExits c.code.now c.exits.now

-- the functions of the machine and those of the meaning
pub record IsFunction (c : Callee) (f : Function) : Type 0 where
  pub kind : c.kind.now ≡ f.kind
  pub locals : c.locals.now ≡ f.locals
  pub body : HasBody f.body c

abbrev pub AreFunctions : List Callee → List Function → Type 0
AreFunctions [] [] = Unit {0}
AreFunctions [] (f ∷ fs) = ⊥
AreFunctions (c ∷ cs) [] = ⊥
AreFunctions (c ∷ cs) (f ∷ fs) = IsFunction c f × AreFunctions cs fs

abbrev pub here : Thread → Waiting
here t = record { function = t.function; place = t.place; floor = t.floor; base = t.base; height = t.height; keeps = t.keeps }

pub record IsAt (p : Program) (t : Thread) (s : State) : Type 0 where
  pub functions : AreFunctions t.callees.now p.functions
  pub types : t.types.now ≡ p.types
  pub table : t.table.now ≡ p.table
  pub below : List Value
  pub outer : List Mark
  pub lower : List Value
  pub code : HasCode t.callees.now (here t) t.code.now
  pub code_exits : KnowsExits t.code.now t.exits.now
  pub world : t.desk.world ≡ s.world
  pub frame : InFrame t.code.now (here t) s.frame t.desk.operands t.marks t.locals below outer lower
  pub callers : Waits t.callees.now s.callers t.frames below outer lower

-- the machine has the functions, types and table of the program
pub record HasProgram (p : Program) (t : Thread) : Type 0 where
  pub functions : AreFunctions t.callees.now p.functions
  pub types : t.types.now ≡ p.types
  pub table : t.table.now ≡ p.table
