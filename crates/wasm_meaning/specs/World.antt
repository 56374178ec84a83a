-- What code changes besides its own frame: the store of one instance (section 4.2.3).
use Rattle.std.specs.Prelude.{Option, List}
use Rattle.wasm_types.specs.declared.values.Value.{Value}
use Rattle.wasm_memory.specs.Linear.{Linear}

pub record World : Type 0 where
  pub globals : List Value
  pub memory : Option Linear

-- what an instruction finds that opens no block and calls nothing: operands, the topmost one first, and the world
pub record Desk : Type 0 where
  pub operands : List Value
  pub world : World
