-- Where code that was typed stands: operands, locals, globals and memory are those that it was checked with.
use Rattle.std.specs.Option.{option_to_list as listed, is_some}
use Rattle.std.specs.Prelude.{◌≡◌, ℕ, nat_lt, Bool, true, false, Option, Some, None, Ok, List, [], ◌∷◌, ◌++◌, slice_get}
use Rattle.wasm_types.specs.declared.types.ValueType.{ValueType}
use Rattle.wasm_types.specs.declared.types.GlobalType.{GlobalType}
use Rattle.wasm_types.specs.declared.types.FuncType.{FuncType}
use Rattle.wasm_types.specs.declared.values.Value.{Value}
use Rattle.wasm_types.specs.declared.modules.Module.{Module}
use Rattle.wasm_types.specs.Nested.{Body}
use Rattle.wasm_validate.specs.Rules.{Context, Labels, type_of, function_at}
use Rattle.wasm_validate.specs.Spaces.{context_of}
use Rattle.wasm_validate.specs.Typing.{Types, AreTyped}
use Rattle.wasm_memory.specs.Linear.{Linear}
use Rattle.wasm_meaning.specs.declared.off.Off.TheVariants.{Stuck}
use Rattle.wasm_meaning.specs.World.{World}
use Rattle.wasm_meaning.specs.Frames.{Program, Function, Frame, Label, State}
use Rattle.wasm_meaning.specs.Runs.{Ending, Stopped, Called, resumed}

-- the code found no operand, label or index of its kind
abbrev pub IsStuck : Ending → Type 0
IsStuck ending = ending ≡ Stopped Stuck

-- each value is of its type, and there is one for each
abbrev pub TypedAs : List Value → Types → Type 0
TypedAs [] [] = Unit {0}
TypedAs [] (t ∷ ts) = ⊥
TypedAs (v ∷ vs) [] = ⊥
TypedAs (v ∷ vs) (t ∷ ts) = (type_of v ≡ t) × TypedAs vs ts

abbrev pub HaveTypes : List Value → List GlobalType → Type 0
HaveTypes [] [] = Unit {0}
HaveTypes [] (t ∷ ts) = ⊥
HaveTypes (v ∷ vs) [] = ⊥
HaveTypes (v ∷ vs) (t ∷ ts) = (type_of v ≡ t.kind) × HaveTypes vs ts

-- where code may use a memory there is one
abbrev pub HasMemory : Bool → Option Linear → Type 0
HasMemory false m = Unit {0}
HasMemory true None = ⊥
HasMemory true (Some m) = Unit {0}

pub record WorldTyped (c : Context) (w : World) : Type 0 where
  pub globals : HaveTypes w.globals c.globals
  pub memory : HasMemory (nat_lt 0 c.memories) w.memory

-- what a branch to a block takes: its result, and nothing where it is a loop
abbrev pub branch_type : Option (Option ValueType × Body) → Option ValueType → Option ValueType
branch_type None r = r
branch_type (Some loop) r = None

-- a loop may be executed again
abbrev pub AgainTyped : Context → Labels → Option ValueType → Option (Option ValueType × Body) → Type 0
AgainTyped c outer r None = Unit {0}
AgainTyped c outer r (Some loop) = (loop.0 ≡ r) × AreTyped loop.1 c (None ∷ outer) [] (listed r)

-- the blocks round code that leaves operands of these types, and the types of their labels
abbrev pub Outer : Context → List Label → Types → Labels → Type 0
Outer c [] gives labels = (labels ≡ c.result ∷ []) × (gives ≡ listed c.result)
Outer c (l ∷ ls) gives labels =
    (r : Option ValueType) × (outer : Labels) × (below : Types) × (next : Types)
    × (labels ≡ branch_type l.again r ∷ outer) × (gives ≡ listed r) × (l.keeps ≡ is_some r) × AgainTyped c outer r l.again
    × TypedAs l.below below × AreTyped l.rest c outer (listed r ++ below) next × Outer c ls next outer

-- what is known of a module, outside its functions
abbrev pub within : Module → Context
within m = context_of m [] None

-- a function's locals and its result, in a module
abbrev pub inside : Context → Types → Option ValueType → Context
inside c locals result = record c { locals = locals; result = result }

-- a frame whose callee leaves operands of these types on top of its own
pub record FrameTyped (c : Context) (locals : Types) (result : Option ValueType) (returned : Types) (f : Frame) : Type 0 where
  pub labels : Labels
  pub operands : Types
  pub gives : Types
  pub keeps : f.keeps ≡ is_some result
  pub locals_typed : TypedAs f.locals locals
  pub operands_typed : TypedAs f.operands operands
  pub body_typed : AreTyped f.body (inside c locals result) labels (returned ++ operands) gives
  pub outer : Outer (inside c locals result) f.labels gives labels

-- callers that wait for this result
abbrev pub AllWait : Context → Option ValueType → List Frame → Type 0
AllWait c t [] = Unit {0}
AllWait c t (f ∷ fs) = (locals : Types) × (result : Option ValueType) × FrameTyped c locals result (listed t) f × AllWait c result fs

pub record StateTyped (c : Context) (s : State) : Type 0 where
  pub locals : Types
  pub result : Option ValueType
  pub frame : FrameTyped c locals result [] s.frame
  pub callers : AllWait c result s.callers
  pub world : WorldTyped c s.world

abbrev pub BodyTyped : Context → FuncType → List ValueType → Option Body → Type 0
BodyTyped c t locals None = Unit {0}
BodyTyped c t locals (Some body) = AreTyped body (inside c (t.params ++ locals) t.result) (t.result ∷ []) [] (listed t.result)

abbrev pub FunctionTyped : Context → FuncType → Option Function → Type 0
FunctionTyped c t None = ⊥
FunctionTyped c t (Some f) = (f.kind ≡ t) × BodyTyped c t f.locals f.body

-- every function has its type, and every element of the table names a function
pub record ProgramTyped (c : Context) (program : Program) : Type 0 where
  pub types : program.types ≡ c.types
  pub functions : (x : ℕ) (t : FuncType) → function_at c x ≡ Ok t → FunctionTyped c t (slice_get program.functions x)
  pub table : (n y : ℕ) → slice_get program.table n ≡ Some (Some y) → (t : FuncType) × (function_at c y ≡ Ok t)

-- an answer of the type that an import has
abbrev pub Fits : Option ValueType → Option Value → Type 0
Fits None None = Unit {0}
Fits None (Some v) = ⊥
Fits (Some t) None = ⊥
Fits (Some t) (Some v) = type_of v ≡ t

-- where an import was called its arguments are of its types, and any answer of its type leads on
abbrev pub StandsAt : Context → Ending → State → Type 0
StandsAt c (Called x arguments) s =
    (t : FuncType) × (function_at c x ≡ Ok t) × TypedAs arguments t.params × ((value : Option Value) → Fits t.result value → StateTyped c (resumed value s))
StandsAt c ending s = Unit {0}
