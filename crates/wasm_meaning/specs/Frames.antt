-- Where code stands: labels, frames and calls (sections 4.2.12 to 4.2.13). Operands stand with the topmost one first.
use Rattle.std.specs.Prelude.{ℕ, Bool, Option, List}
use Rattle.wasm_types.specs.declared.types.ValueType.{ValueType}
use Rattle.wasm_types.specs.declared.types.FuncType.{FuncType}
use Rattle.wasm_types.specs.declared.values.Value.{Value}
use Rattle.wasm_types.specs.Nested.{Body}
use Rattle.wasm_meaning.specs.World.{World}

-- A block that was entered: what a branch to it executes again, where it is a loop; whether it has a result; what follows
-- it; and the operands that stand round it.
pub record Label : Type 0 where
  pub again : Option (Option ValueType × Body)
  pub keeps : Bool
  pub rest : Body
  pub below : List Value

-- A call: whether it has a result, its locals, the blocks that it is in, the innermost one first, the operands of the
-- innermost one, and what is left of its instructions.
pub record Frame : Type 0 where
  pub keeps : Bool
  pub locals : List Value
  pub labels : List Label
  pub operands : List Value
  pub body : Body

-- a function that the module defines, or imports: that has no body
pub record Function : Type 0 where
  pub kind : FuncType
  pub locals : List ValueType
  pub body : Option Body

-- what doesn't change while code runs; an entry of the table names a function, or nothing
pub record Program : Type 0 where
  pub functions : List Function
  pub types : List FuncType
  pub table : List (Option ℕ)

-- the active call, those that wait for it, the last one first, and the world
pub record State : Type 0 where
  pub frame : Frame
  pub callers : List Frame
  pub world : World
